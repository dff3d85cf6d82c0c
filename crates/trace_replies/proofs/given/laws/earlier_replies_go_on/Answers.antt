use Rattle.trace_replies.proofs.lemmas.given.Keeping.{goes_on}
use Rattle.trace_replies.proofs.given.laws.earlier_replies_go_on.Goals as goal

pub returns : goal.returns
returns c = goes_on

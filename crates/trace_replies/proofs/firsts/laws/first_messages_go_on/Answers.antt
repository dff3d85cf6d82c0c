use Rattle.trace_replies.proofs.lemmas.firsts.Arriving.{goes_on}
use Rattle.trace_replies.proofs.firsts.laws.first_messages_go_on.Goals as goal

pub returns : goal.returns
returns c = goes_on

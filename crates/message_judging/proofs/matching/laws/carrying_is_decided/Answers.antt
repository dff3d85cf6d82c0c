use Rattle.message_judging.proofs.lemmas.matching.Requests.{carries_so, so_carries}
use Rattle.message_judging.proofs.matching.laws.carrying_is_decided.Goals as goal

pub returns : goal.returns
returns call c = record { so = carries_so c; back = so_carries c }

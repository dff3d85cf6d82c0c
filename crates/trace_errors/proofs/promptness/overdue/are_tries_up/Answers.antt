use Rattle.trace_errors.proofs.lemmas.promptness.Delaying.{tells_tries}
use Rattle.trace_errors.proofs.promptness.overdue.are_tries_up.Goals as goal

pub returns-clause-told : goal.returns-clause-told
returns-clause-told c = let a = c.args in tells_tries a.conf.now a.request a.moment a.past.now a.here.now c.find_tries.result c.find_tries.ensures

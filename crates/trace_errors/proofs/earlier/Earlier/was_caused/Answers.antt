use Rattle.trace_errors.proofs.Telling.{tells_earlier}
use Rattle.trace_errors.proofs.earlier.Earlier.was_caused.Goals as goal

pub returns : goal.returns
returns c = let a = c.args in tells_earlier a.conf.now a.past.now a.heard.now a.self.now a.request a.error c.find.result c.find.ensures

use Rattle.std.proofs.Common.{refl}
use Rattle.trace_tables.proofs.lemmas.frames.Knowing.{known_met, known_put}
use Rattle.trace_tables.proofs.frames.laws.frames_go_on.Goals as goal

pub returns : goal.returns
returns c = record { begins = record { readings = λ p. refl; here = λ p. refl }; event = known_met; out = known_put }

-- what stands behind the last such octet of what is left counts before what was found
use Rattle.std.proofs.Common.{◌≡◌, length}
use Rattle.std.specs.Prelude.{option_map}
use Rattle.zone_text.specs.Words.{behind_last, either}
use Rattle.zone_text.proofs.cutting.behind_last.Given as goal

abbrev pub invariant-loop-rest : goal.invariant-loop-rest
invariant-loop-rest l = behind_last l.octet l.fn.text ≡ either (behind_last l.octet l.rest) (option_map (λ b. b.now) l.found)

abbrev pub decreases-loop-rest : goal.decreases-loop-rest
decreases-loop-rest l = length l.rest

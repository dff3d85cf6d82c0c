-- What is told where nothing is said of a trace.
use Rattle.std.proofs.Common.{◌≡◌, ◌≢◌, ◌⊎◌, inl, inr, ℕ, List, [], ◌∷◌, length, Option, refl, sym, ◌∙◌, arith}
use Rattle.command_parts.specs.Ends.{IsSaid}
use Rattle.trace_audit_run.specs.Stops.{Tells, line_of, status_of}
use Rattle.trace_audit_run.specs.declared.stop.Stop.{Stop}

pub tells_nothing : (line : List ℕ) (held : Option (List ℕ)) (faults faults_after : ℕ) → length line ≡ 0 → Tells line held held faults faults_after
tells_nothing [] held faults faults_after h = refl
tells_nothing (c ∷ line) held faults faults_after h = absurd (omega arith)

pub tells_line : (line : List ℕ) (before after : Option (List ℕ)) (faults faults_after : ℕ) → length line ≢ 0 → IsSaid line before after faults faults_after → Tells line before after faults faults_after
tells_line [] before after faults faults_after h said = absurd (h refl)
tells_line (c ∷ line) before after faults faults_after h said = said

-- Why nothing is said of a trace, and the line that tells it.
use Rattle.std.specs.Prelude.{◌≡◌, ℕ, List, [], ◌∷◌, Option}
use Rattle.command_parts.specs.Ends.{IsSaid}
use Rattle.trace_audit_run.specs.Lines.{long_line, script_line, trace_line}
use Rattle.trace_audit_run.specs.declared.stop.Stop.{Stop}
use Rattle.trace_audit_run.specs.declared.stop.Stop.TheVariants as stops
use Rattle.trace_audit_run.specs.declared.stop.Text.TheVariants as texts

abbrev pub status_of : Stop → ℕ
status_of (stops.Long text) = 1
status_of (stops.Line text n) = 1
status_of (stops.Unread text) = 3
status_of stops.NoMemory = 6

-- what is written of it, if anything is
abbrev pub line_of : Stop → List ℕ
line_of (stops.Long text) = long_line
line_of (stops.Line texts.Script n) = script_line n
line_of (stops.Line texts.Trace n) = trace_line n
line_of (stops.Unread text) = []
line_of stops.NoMemory = []

-- A line is told, or there is none and nothing is written.
abbrev pub Tells : List ℕ → (before after : Option (List ℕ)) → (faults faults_after : ℕ) → Type 0
Tells [] before after faults faults_after = after ≡ before
Tells (c ∷ line) before after faults faults_after = IsSaid (c ∷ line) before after faults faults_after

-- The sentences that tell why the program ends by another status than 0.
use Rattle.std.specs.Prelude.{ℕ, List, [], ◌∷◌, ◌++◌, codes, decimal, slice_get, Option, None, Some, String}
use Rattle.std.specs.String.{string_bytes}
use Rattle.std.specs.declared.alloc.Global.{Global}
use Rattle.trace_judge.specs.declared.verdict.Verdict.{Verdict}
use Rattle.trace_judge.specs.declared.verdict.Verdict.TheVariants.{Right, Wrong}
use Rattle.trace_audit_run.specs.declared.missed.Missed.{Missed}
use Rattle.trace_audit_run.specs.declared.stop.{Stop.Stop, Text.Text}
use Rattle.trace_audit_run.specs.declared.stop.Stop.TheVariants as stops
use Rattle.trace_audit_run.specs.declared.stop.Text.TheVariants as texts
use Rattle.trace_audit_run.specs.declared.texts.Answer.{Answer}
use Rattle.trace_audit_run.specs.Lines.{name_of}

abbrev pub Names : Type 0
Names = List (String Global)

abbrev pub text_of : Option (String Global) → List ℕ
text_of None = []
text_of (Some name) = string_bytes name

-- the name of this number
abbrev pub name_at : Names → ℕ → List ℕ
name_at names n = text_of (slice_get names n)

-- ---- words that name no script and trace

-- a third name, and whatever stands behind it
unfoldable pub more_text : (script trace more : List ℕ) → List ℕ
more_text script trace more = more ++ (codes " stands behind the script " ++ (script ++ (codes " and the trace " ++ (trace ++ codes ", where no word may"))))

unfoldable pub none_text : (script : List ℕ) → List ℕ
none_text script = codes "no trace is named behind the script " ++ script

abbrev pub behind_script : (script : List ℕ) → Names → List ℕ
behind_script script [] = none_text script
behind_script script (trace ∷ names) = more_text script (string_bytes trace) (name_at names 0)

-- what is wrong with names that are not two
abbrev pub usage_text : Names → List ℕ
usage_text [] = codes "no script is named"
usage_text (script ∷ names) = behind_script (string_bytes script) names

abbrev pub usage_sentence : Names → List ℕ
usage_sentence names = codes "trace_audit: " ++ usage_text names ++ codes "; see trace_audit --help\n"

-- ---- texts of which nothing is said

abbrev pub stop_text : Stop → List ℕ
stop_text (stops.Long texts.Script) = codes "longer than 16777216 octets"
stop_text (stops.Long texts.Trace) = codes "longer than 1073741824 octets"
stop_text (stops.Line text n) = codes "line " ++ decimal n ++ codes " refused"
stop_text (stops.Unread text) = codes "could not be read"
stop_text stops.NoMemory = codes "memory ran out"

abbrev pub name_of_text : Names → Text → List ℕ
name_of_text names texts.Script = name_at names 0
name_of_text names texts.Trace = name_at names 1

-- the file at which it stopped
abbrev pub name_of_stop : Names → Stop → List ℕ
name_of_stop names (stops.Long text) = name_of_text names text
name_of_stop names (stops.Line text n) = name_of_text names text
name_of_stop names (stops.Unread text) = name_of_text names text
name_of_stop names stops.NoMemory = []

-- which file, and what of it
abbrev pub stop_sentence : Names → Stop → List ℕ
stop_sentence names stop = codes "trace_audit: " ++ (name_of_stop names stop ++ (codes ": " ++ (stop_text stop ++ codes "\n")))

-- ---- what is said of a trace

abbrev pub missed_text : (hit stale : Option ℕ) → List ℕ
missed_text (Some row) stale = codes "missed hit row " ++ decimal row
missed_text None (Some row) = codes "missed stale row " ++ decimal row
missed_text None None = codes "right"

abbrev pub told_text : Verdict → (untimely : Option ℕ) → Missed → List ℕ
told_text (Wrong clause row) untimely missed = codes "wrong " ++ name_of clause ++ codes " row " ++ decimal row
told_text Right (Some row) missed = codes "untimely row " ++ decimal row
told_text Right None missed = missed_text missed.hit missed.stale

-- the trace, and the first thing that is said of it
abbrev pub answer_sentence : Names → Answer → List ℕ
answer_sentence names said = codes "trace_audit: " ++ (name_at names 1 ++ (codes ": " ++ (told_text said.verdict said.untimely said.missed ++ codes "\n")))

-- ---- a sink that failed

abbrev pub unwritten_sentence : List ℕ
unwritten_sentence = codes "trace_audit: writing to standard output failed\n"

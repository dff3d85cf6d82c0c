-- The words of the command line: options, and behind them the names of a script and of a trace.
use Rattle.std.specs.Prelude.{ℕ, Bool, true, false, if◌then◌else◌, List, [], ◌∷◌, Option, Some, None, String, codes}
use Rattle.std.specs.declared.alloc.Global.{Global}
use Rattle.std.specs.{Str.bytes_eq, String.string_bytes}
use Rattle.trace_audit_run.specs.declared.words.{Asked.Asked, Choice.Choice}
use Rattle.trace_audit_run.specs.declared.words.Choice.TheVariants.{Timely, All, Explain}

-- what a word asks for, if it is an option
unfoldable pub choice_of : List ℕ → Option Choice
choice_of word = if bytes_eq word (codes "--timely") then Some Timely else if bytes_eq word (codes "--all") then Some All else if bytes_eq word (codes "--explain") then Some Explain else None

abbrev pub nothing : Asked
nothing = record { timely = false; missed = false; explain = false }

abbrev pub with_choice : Choice → Asked → Asked
with_choice Timely asked = record asked { timely = true }
with_choice All asked = record asked { timely = true; missed = true }
with_choice Explain asked = record asked { explain = true }

abbrev pub with_option : Option Choice → Asked → Asked
with_option None asked = nothing
with_option (Some choice) asked = with_choice choice asked

-- what the options before the first word that is none ask for
abbrev pub asked_by : List (String Global) → Asked
asked_by [] = nothing
asked_by (word ∷ words) = with_option (choice_of (string_bytes word)) (asked_by words)

abbrev pub behind_option : Option Choice → (all rest : List (String Global)) → List (String Global)
behind_option None all rest = all
behind_option (Some choice) all rest = rest

-- the words behind the options
abbrev pub names_among : List (String Global) → List (String Global)
names_among [] = []
names_among (word ∷ words) = behind_option (choice_of (string_bytes word)) (word ∷ words) (names_among words)

abbrev pub are_two : List (String Global) → Bool
are_two (a ∷ b ∷ []) = true
are_two _ = false

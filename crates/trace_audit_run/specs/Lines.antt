-- The lines that are written.
use Rattle.std.specs.Prelude.{ℕ, Bool, true, false, List, [], ◌++◌, codes, Option, Some, None}
use Rattle.std.specs.Fmt.{decimal}
use Rattle.client_request.specs.declared.event.Row.{Row}
use Rattle.trace_judge.specs.declared.verdict.{Clause.Clause, Verdict.Verdict}
use Rattle.trace_judge.specs.declared.verdict.Clause.TheVariants.{Events, Messages, Firsts, Causes, Orders, Prompts}
use Rattle.trace_judge.specs.declared.verdict.Verdict.TheVariants.{Right, Wrong}
use Rattle.trace_audit_run.specs.missing_line.Missing.{late, missing}

abbrev pub usage_line : List ℕ
usage_line = codes "usage: trace_audit SCRIPT TRACE\n"

abbrev pub right_line : List ℕ
right_line = codes "right\n"

abbrev pub long_line : List ℕ
long_line = codes "input too long\n"

abbrev pub script_line : ℕ → List ℕ
script_line n = codes "script line " ++ decimal n ++ codes " refused\n"

abbrev pub trace_line : ℕ → List ℕ
trace_line n = codes "trace line " ++ decimal n ++ codes " refused\n"

abbrev pub name_of : Clause → List ℕ
name_of Events = codes "Events"
name_of Messages = codes "H1"
name_of Firsts = codes "H2"
name_of Causes = codes "H3"
name_of Orders = codes "H4"
name_of Prompts = codes "H5"

abbrev pub wrong_line : Clause → (row : ℕ) → List ℕ
wrong_line x n = codes "wrong " ++ name_of x ++ codes " row " ++ decimal n ++ codes "\n"

abbrev pub untimely_line : (row : ℕ) → List ℕ
untimely_line n = codes "untimely row " ++ decimal n ++ codes "\n"

abbrev pub missed_hit_line : (row : ℕ) → List ℕ
missed_hit_line n = codes "missed hit row " ++ decimal n ++ codes "\n"

abbrev pub missed_stale_line : (row : ℕ) → List ℕ
missed_stale_line n = codes "missed stale row " ++ decimal n ++ codes "\n"

-- what is missing where the trace is wrong, or where it is not timely
abbrev pub explained : Verdict → (untimely : Option ℕ) → List Row → List ℕ
explained (Wrong x n) o rows = missing x n rows
explained Right (Some n) rows = late n rows
explained Right None rows = []

abbrev pub explained_if : Bool → Verdict → (untimely : Option ℕ) → List Row → List ℕ
explained_if true v o rows = explained v o rows
explained_if false v o rows = []

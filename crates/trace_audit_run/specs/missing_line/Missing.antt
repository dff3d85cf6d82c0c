-- What is missing at a row, as a line.
use Rattle.std.specs.Prelude.{ℕ, ◌+◌, Bool, true, false, List, [], ◌++◌, codes, take, slice_get, Option, Some, None}
use Rattle.std.specs.{Fmt.decimal, List.flat_map}
use Rattle.client_request.specs.declared.event.{What.What, Out.Out, Row.Row}
use Rattle.trace_judge.specs.declared.verdict.Clause.{Clause}
use Rattle.trace_judge.specs.declared.verdict.Clause.TheVariants.{Events, Messages, Firsts, Causes, Orders, Prompts}
use Rattle.trace_hits.specs.timely.Longest.{longest}
use Rattle.trace_audit_run.specs.missing_line.Places.{last_at}
use Rattle.trace_audit_run.specs.missing_line.Words.{asked_words, event_words, is_asked_of_some, place_of}

-- where the clause on outs that are no replies is asked of an out, or of none
abbrev pub orders : Bool → List ℕ
orders true = codes ": one of these was not to be done then, or a request that waits behind them has nothing under way, or a server has too few places or too many"
orders false = codes ": a request that waits has nothing under way, or a server has too few places or too many"

-- what a clause asks
abbrev pub sentence : Clause → (is_of_outs : Bool) → List ℕ
sentence Events b = codes ": the script says otherwise here, or has ended"
sentence Messages b = codes ": no such message came for the request in this row, no earlier reply gives it, or another server could still answer better"
sentence Firsts b = codes ": a reply is given to a request that was not asked, or has one"
sentence Causes b = codes ": nothing in this row or before is the cause of such an error, or another server could still answer"
sentence Orders b = orders b
sentence Prompts b = codes ": it brings a final answer to a request that is not given it in this row"

-- words and the number of a request, if there is one
abbrev pub named : (words : List ℕ) → Option ℕ → List ℕ
named words None = []
named words (Some k) = words ++ decimal k

-- the request that was sent or written last at a place
abbrev pub last_of : (place : Option ℕ) → (before : List Row) → Option ℕ
last_of None before = None
last_of (Some p) before = last_at p before None

abbrev pub last_words : What → (before : List Row) → List ℕ
last_words w before = named (codes ", where what was sent or written last was request ") (last_of (place_of w) before)

-- the request that waits longest
abbrev pub waiting_words : List Row → List ℕ
waiting_words rows = named (codes "; longest waits request ") (longest rows)

-- what is said of a place where an answer came, and of what waits
abbrev pub where_words : Clause → What → (before : List Row) → List ℕ
where_words Prompts w before = last_words w before
where_words _ w before = []

abbrev pub more_words : Clause → List Row → List ℕ
more_words Orders rows = waiting_words rows
more_words _ rows = []

abbrev pub said_of : Clause → List Out → (rows : List Row) → List ℕ
said_of x outs rows = sentence x (is_asked_of_some x outs) ++ more_words x rows

-- a row, what stands before it, and both
abbrev pub row_words : Clause → (before : List Row) → Row → (rows : List Row) → List ℕ
row_words x before row rows = event_words row.event ++ where_words x row.event.what before ++ flat_map (asked_words x) row.outs ++ said_of x row.outs rows

abbrev pub missing_at : Clause → (n : ℕ) → List Row → Option Row → List ℕ
missing_at x n rows None = codes "the trace ends here, and the script goes on"
missing_at x n rows (Some row) = row_words x (take n rows) row (take (n + 1) rows)

-- what is missing at row n where this clause fails, as a line
abbrev pub missing : Clause → (n : ℕ) → List Row → List ℕ
missing x n rows = missing_at x n rows (slice_get rows n) ++ codes "\n"

abbrev pub late_words : Row → (rows : List Row) → List ℕ
late_words row rows = event_words row.event ++ codes ": a request has no reply though its timeout has passed" ++ waiting_words rows ++ codes "\n"

abbrev pub late_at : (n : ℕ) → List Row → Option Row → List ℕ
late_at n rows None = []
late_at n rows (Some row) = late_words row (take (n + 1) rows)

-- and of a row that is not timely
abbrev pub late : (n : ℕ) → List Row → List ℕ
late n rows = late_at n rows (slice_get rows n)

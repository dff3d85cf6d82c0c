-- The lines of a trace, as they are read.
use Rattle.std.specs.Prelude.{◌≡◌, ℕ, ◌+◌, true, false, not, ◌&&◌, ◌||◌, List, [], ◌∷◌, ◌++◌, length, Option, Some, None, Result, Ok, Err, option_map, if◌then◌else◌, codes}
use Rattle.std.specs.Option.{option_to_list}
use Rattle.std.specs.Str.{bytes_eq}
use Rattle.client_request.specs.declared.event.Row.{Row}
use Rattle.client_request.specs.declared.event.Trace.{Trace}
use Rattle.dns_script.specs.declared.script.ScriptFault.{ScriptFault}
use Rattle.dns_script.specs.declared.script.ScriptFault.TheVariants as faults
use Rattle.dns_script.specs.declared.trace_lines.TraceEntry.{TraceEntry}
use Rattle.dns_script.specs.declared.trace_lines.TraceEntry.TheVariants as entry
use Rattle.dns_script.specs.declared.trace_lines.TraceStage.{TraceStage}
use Rattle.dns_script.specs.declared.trace_lines.TraceStage.TheVariants as stage
use Rattle.dns_script.specs.declared.trace_lines.TraceReader.{TraceReader}
use Rattle.dns_script.specs.Grammar.{event_at, one, out_at, whole}
use Rattle.dns_script.specs.Reading.{◌>>=◌, Reader, one_word, parts, words_of}
use Rattle.dns_script.specs.TraceText.{says_stale}

-- an event, what was put out, or the end
abbrev pub entry_behind : List ℕ → Reader TraceEntry
entry_behind name words =
    if bytes_eq name (codes "at") then one entry.Came event_at words
    else (if bytes_eq name (codes ">") then one entry.Put out_at words
    else (if bytes_eq name (codes "end") then Some (entry.End, words) else None))

unfoldable pub entry_of : List ℕ → Option TraceEntry
entry_of line = one_word (λ name. Some name) (words_of line) >>= (λ name. entry_behind name.0 name.1 >>= whole)

-- An event begins a row, and what was put out joins the row that is being read. A stale reply stands in a text of the second version
-- alone, and in each of them.
abbrev pub with_entry : TraceEntry → TraceReader → Option TraceReader
with_entry (entry.Came event) r = Some (record r { rows = r.rows ++ option_to_list r.row; row = Some (record { event = event; outs = [] }) })
with_entry (entry.Put out) r =
    if says_stale out && not r.is_second then None
    else option_map (λ row. record r { row = Some (record row { outs = row.outs ++ out ∷ [] }); has_stale = r.has_stale || says_stale out }) r.row
with_entry entry.End r =
    if r.is_second && not r.has_stale then None
    else Some (record r { stage = stage.Ended; rows = r.rows ++ option_to_list r.row; row = None })

-- what a line makes of what was read before it
abbrev pub line_at : TraceStage → List ℕ → TraceReader → Option TraceReader
line_at stage.Begin line r =
    if bytes_eq line (codes "trace 1") then Some (record r { stage = stage.Inside })
    else (if bytes_eq line (codes "trace 2") then Some (record r { stage = stage.Inside; is_second = true }) else None)
line_at stage.Inside line r = entry_of line >>= (λ e. with_entry e r)
line_at stage.Ended line r = None

abbrev pub with_line : List ℕ → TraceReader → Option TraceReader
with_line line r = line_at r.stage line r

abbrev pub with_lines : List (List ℕ) → TraceReader → Option TraceReader
with_lines [] r = Some r
with_lines (line ∷ lines) r = with_line line r >>= with_lines lines

-- before the first line
abbrev pub nothing_read : TraceReader
nothing_read = record { stage = stage.Begin; is_second = false; has_stale = false; rows = []; row = None }

-- The text is a trace with these rows: each of its lines ends with a line feed, and the last is `end`.
pub record IsTrace (text : List ℕ) (rows : List Row) : Type 0 where
  pub lines : List (List ℕ)
  pub split : parts 10 text ≡ lines ++ [] ∷ []
  pub reader : TraceReader
  pub read : with_lines lines nothing_read ≡ Some reader
  pub ended : reader.stage ≡ stage.Ended
  pub says : rows ≡ reader.rows

-- Line n of the text is refused, counted from 1: the lines before it are read, and it is not; or the text ends before the trace does.
pub data RefusesTraceLine (text : List ℕ) (n : ℕ) : Type 0 where
  refuses_line : (before : List (List ℕ)) (line next : List ℕ) (more : List (List ℕ)) (reader : TraceReader)
      → parts 10 text ≡ before ++ line ∷ next ∷ more → n ≡ length before + 1
      → with_lines before nothing_read ≡ Some reader → with_line line reader ≡ None
      → RefusesTraceLine text n
  ends_early : (lines : List (List ℕ)) (tail : List ℕ) (reader : TraceReader)
      → parts 10 text ≡ lines ++ tail ∷ [] → n ≡ length lines + 1
      → with_lines lines nothing_read ≡ Some reader → (reader.stage ≡ stage.Ended → tail ≡ [] → ⊥)
      → RefusesTraceLine text n

-- A trace, or the line that is refused, unless memory ran out.
abbrev pub ReadsTrace : List ℕ → Result Trace ScriptFault → Type 0
ReadsTrace text (Ok t) = IsTrace text t.rows
ReadsTrace text (Err (faults.Line n)) = RefusesTraceLine text n
ReadsTrace text (Err faults.NoMemory) = Unit {0}

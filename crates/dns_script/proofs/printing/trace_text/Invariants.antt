-- the rows before the index have been printed
use Rattle.std.proofs.Common.{◌≡◌, ◌++◌, take}
use Rattle.std.specs.List.{flat_map}
use Rattle.dns_script.specs.TraceText.{first_line, have_stale, row_text}
use Rattle.dns_script.proofs.printing.trace_text.Given as goal

abbrev pub invariant-loop-row : goal.invariant-loop-row
invariant-loop-row l =
    l.text.items ≡ first_line (have_stale l.fn.t.rows) ++ flat_map row_text (take l.row-index l.fn.t.rows)

-- the lines of the outs before the index have been added behind the event's
use Rattle.std.proofs.Common.{◌≡◌, ◌++◌, take}
use Rattle.std.specs.List.{flat_map}
use Rattle.dns_script.specs.Lines.{event_line, out_line}
use Rattle.dns_script.proofs.printing.push_row.Given as goal

abbrev pub invariant-loop-out : goal.invariant-loop-out
invariant-loop-out l =
    l.text.items
    ≡ l.fn.text.items ++ (event_line l.fn.row.event ++ flat_map out_line (take l.out-index l.fn.row.outs))

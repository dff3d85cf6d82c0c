-- the lines of the events before the index have been added
use Rattle.std.proofs.Common.{◌≡◌, ◌++◌, take}
use Rattle.std.specs.List.{flat_map}
use Rattle.dns_script.specs.Lines.{event_line}
use Rattle.script_printing.proofs.whole.push_lines.Given as goal

abbrev pub invariant-loop-event : goal.invariant-loop-event
invariant-loop-event l = l.text.items ≡ l.fn.text.items ++ flat_map event_line (take l.event-index l.events)

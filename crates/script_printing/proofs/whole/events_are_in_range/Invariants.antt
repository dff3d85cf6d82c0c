-- the events before the index are in range
use Rattle.std.proofs.Common.{take}
use Rattle.std.specs.List.{AllByRecursion}
use Rattle.script_printing.specs.CanBeTold.{IsEvent}
use Rattle.script_printing.proofs.whole.events_are_in_range.Given as goal

abbrev pub invariant-loop-event : goal.invariant-loop-event
invariant-loop-event l = AllByRecursion IsEvent (take l.event-index l.events)

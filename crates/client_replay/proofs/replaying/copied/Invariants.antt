use Rattle.std.proofs.Common.{◌≡◌, take}
use Rattle.client_replay.proofs.replaying.copied.Given as goal

abbrev pub invariant-loop-event : goal.invariant-loop-event
invariant-loop-event l = l.copies ≡ take l.event-index l.events

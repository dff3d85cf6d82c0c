use Rattle.std.proofs.Common.{◌≡◌, ◌≤◌, min, drop}
use Rattle.zone_refresh_run.specs.Turns.{wake_of}
use Rattle.zone_refresh_run.proofs.turns.wake.Given as goal

abbrev pub invariant-loop-zone : goal.invariant-loop-zone
invariant-loop-zone l = record {
  least : min l.wake (wake_of (drop l.zone-index l.zones)) ≡ wake_of l.zones;
  counts : l.wake ≤ 18446744073709551615;
}

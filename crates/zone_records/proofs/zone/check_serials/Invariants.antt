-- No batch so far was wrong.
use Rattle.std.proofs.Common.{◌≡◌, drop}
use Rattle.zone_records.specs.Folding.{first_wrong}
use Rattle.zone_records.proofs.zone.check_serials.Given as goal

abbrev pub invariant-loop-update : goal.invariant-loop-update
invariant-loop-update l = first_wrong l.fn.serial l.updates ≡ first_wrong l.have (drop l.update-index l.updates)

use Rattle.std.proofs.Common.{◌≡◌}
use Rattle.zone_refresh_run.specs.Serials.{first_serial}
use Rattle.zone_refresh_run.proofs.serials.first_serial.Given as goal

-- What was passed over is no SOA of the zone.
abbrev pub invariant-records : goal.invariant-records
invariant-records l = first_serial l.zone l.initial.records ≡ first_serial l.zone l.records

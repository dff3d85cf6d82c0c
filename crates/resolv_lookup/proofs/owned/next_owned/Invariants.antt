use Rattle.std.proofs.Common.{◌≡◌}
use Rattle.resolv_lookup.specs.Owned.{owned_by}
use Rattle.resolv_lookup.proofs.owned.next_owned.Given as goal

-- What was passed over is not owned by the name.
abbrev pub invariant-records : goal.invariant-records
invariant-records l = owned_by l.owner l.initial.records ≡ owned_by l.owner l.records

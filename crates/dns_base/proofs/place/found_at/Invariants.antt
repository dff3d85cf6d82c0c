use Rattle.std.proofs.Common.{◌≡◌, ◌∷◌, drop}
use Rattle.dns_base.specs.Compression as spec
use Rattle.dns_base.proofs.place.found_at.Given as goal

abbrev pub invariant-loop-place : goal.invariant-loop-place
invariant-loop-place l = spec.found_at l.octets l.places (l.label ∷ l.rest) ≡ spec.found_at l.octets (drop l.place-index l.places) (l.label ∷ l.rest)

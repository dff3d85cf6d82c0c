use Rattle.std.proofs.Common.{◌≡◌, length, map, take}
use Rattle.message_patching.specs.Patching.{puts, ttl_put}
use Rattle.message_patching.proofs.writes.put_ttls.Given as goal

abbrev pub invariant-loop-place : goal.invariant-loop-place
invariant-loop-place l =
    (l.octets.items ≡ puts (map (ttl_put l.ttls l.first) (take l.place-index l.places)) l.initial.octets.items) × (length l.octets.items ≡ length l.first)

use Rattle.std.proofs.Common.{◌≡◌, ◌+◌, drop}
use Rattle.resolv_lookup.specs.Order.{place_reaching}
use Rattle.resolv_lookup.proofs.srv_order.place_reaching.Given as goal

-- What is left of the number is reached as far behind here as the number is behind the start.
abbrev pub invariant-loop-place : goal.invariant-loop-place
invariant-loop-place l = l.place + place_reaching l.left (drop l.place l.items) ≡ place_reaching l.number l.items

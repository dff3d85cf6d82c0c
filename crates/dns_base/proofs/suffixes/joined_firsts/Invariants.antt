use Rattle.std.proofs.Common.{◌≡◌, map, take, Some}
use Rattle.dns_base.proofs.suffixes.joined_firsts.Given as goal

abbrev pub invariant-loop-place : goal.invariant-loop-place
invariant-loop-place l = l.firsts.items ≡ map Some (take l.place-index l.run)

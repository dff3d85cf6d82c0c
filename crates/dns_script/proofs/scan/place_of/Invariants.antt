-- no separator stands before the place
use Rattle.std.proofs.Common.{◌≡◌, ◌-◌, ◌<◌, ◌≤◌, ℕ, eqb, false, get_or, length}
use Rattle.dns_script.proofs.scan.place_of.Given as goal

abbrev pub invariant-loop-from : goal.invariant-loop-from
invariant-loop-from l = record {
  inside : l.from ≤ length l.octets;
  none : (k : ℕ) → k < l.from → eqb (get_or l.octets k 0) l.separator ≡ false;
}

abbrev pub decreases-loop-from : goal.decreases-loop-from
decreases-loop-from l = length l.octets - l.from

-- the same in the rest
abbrev pub invariant-loop-from-2 : goal.invariant-loop-from-2
invariant-loop-from-2 l = record {
  inside : l.from ≤ length l.octets;
  none : (k : ℕ) → k < l.from → eqb (get_or l.octets k 0) l.separator ≡ false;
}

abbrev pub decreases-loop-from-2 : goal.decreases-loop-from-2
decreases-loop-from-2 l = length l.octets - l.from

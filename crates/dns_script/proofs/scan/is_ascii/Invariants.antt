-- each octet before the place is ASCII
use Rattle.std.proofs.Common.{◌-◌, ◌<◌, ℕ, get_or, length}
use Rattle.dns_script.proofs.scan.is_ascii.Given as goal

abbrev pub invariant-loop-from : goal.invariant-loop-from
invariant-loop-from l = record {
  inside : l.from < length l.octets;
  each : (k : ℕ) → k < l.from → get_or l.octets k 0 < 128;
}

abbrev pub decreases-loop-from : goal.decreases-loop-from
decreases-loop-from l = l.last - l.from

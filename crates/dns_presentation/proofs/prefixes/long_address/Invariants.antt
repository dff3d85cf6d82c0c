use Rattle.std.proofs.Common.{◌≡◌, ◌<◌, ℕ, get_or, length}
use Rattle.dns_presentation.proofs.prefixes.long_address.Given as goal

abbrev pub invariant-loop-at : goal.invariant-loop-at
invariant-loop-at l = record {
  size : length l.all ≡ 16;
  same : (k : ℕ) → k < l.at → get_or l.all k 0 ≡ get_or l.octets k 0;
}

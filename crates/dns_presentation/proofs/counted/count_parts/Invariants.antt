use Rattle.std.proofs.Common.{◌≡◌, ◌+◌, ◌≤◌, length}
use Rattle.std.specs.Prelude.{option_map}
use Rattle.dns_presentation.specs.Counted.{parts_of, part_size}
use Rattle.dns_presentation.proofs.counted.count_parts.Given as goal

abbrev pub invariant-loop-behind : goal.invariant-loop-behind
invariant-loop-behind l = record {
  few : l.count + length l.rest ≤ length l.whole;
  same : option_map length (parts_of (part_size l.kind) l.whole) ≡ option_map (λ n. l.count + n) (option_map length (parts_of (part_size l.kind) l.rest));
}

abbrev pub decreases-loop-behind : goal.decreases-loop-behind
decreases-loop-behind l = length l.rest

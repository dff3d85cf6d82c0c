-- the octets so far, and those of the digits that are left, are those of all digits, and there is room for them
use Rattle.std.proofs.Common.{◌≡◌, ◌≤◌, ◌+◌, ◌/◌, ◌++◌, length}
use Rattle.std.specs.Prelude.{option_map}
use Rattle.std.specs.Vec.{vec_capacity, vec_len}
use Rattle.dns_script.specs.Reading.{pairs}
use Rattle.dns_script.proofs.line.pairs.Given as goal

abbrev pub invariant-loop-rest : goal.invariant-loop-rest
invariant-loop-rest l = record {
  read : option_map (λ more. l.octets.items ++ more) (pairs l.rest) ≡ pairs l.fn.digits;
  room : vec_len l.octets + length l.rest / 2 ≤ vec_capacity l.octets;
}

abbrev pub decreases-loop-rest : goal.decreases-loop-rest
decreases-loop-rest l = length l.rest

use Rattle.std.proofs.Common.{◌+◌, ◌≤◌, length}
use Rattle.resolv_conf.specs.Words.{lines_of}
use Rattle.resolver_policy.specs.Found.{ReadsLines}
use Rattle.resolver_policy.specs.declared.found.Found.{Found}
use Rattle.resolver_policy.proofs.found.Found.read_lines.Given as goal

abbrev pub invariant-loop-rest : goal.invariant-loop-rest
invariant-loop-rest l = record {
  counted : l.number + length l.rest ≤ 1 + length l.text;
  follows : (new : Found) → ReadsLines l.number (lines_of l.rest) l.self new → ReadsLines 1 (lines_of l.text) l.fn.self new;
}

abbrev pub decreases-loop-rest : goal.decreases-loop-rest
decreases-loop-rest l = length l.rest

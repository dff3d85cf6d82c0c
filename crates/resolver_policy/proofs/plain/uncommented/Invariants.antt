use Rattle.std.proofs.Common.{◌≡◌, ◌++◌, take, drop}
use Rattle.resolver_policy.specs.Plain.{before_comment, uncommented}
use Rattle.resolver_policy.proofs.plain.uncommented.Given as goal

abbrev pub invariant-loop-at : goal.invariant-loop-at
invariant-loop-at l = uncommented l.line ≡ take l.at l.line ++ before_comment l.is_behind_blank (drop l.at l.line)

use Rattle.std.proofs.Common.{◌≡◌, drop}
use Rattle.stub_resolver.specs.All.{faults_after_all}
use Rattle.stub_resolver.proofs.all.faults_after_all.Given as goal

-- What is left to be counted gives what all gives.
abbrev pub invariant-loop-got : goal.invariant-loop-got
invariant-loop-got l = faults_after_all (drop l.got-index l.gots) l.count ≡ faults_after_all l.gots l.fn.faults

use Rattle.std.proofs.Common.{◌+◌, ◌≤◌, length, Result}
use Rattle.resolv_conf.specs.declared.conf.ResolvConf.{ResolvConf}
use Rattle.resolv_conf.specs.declared.error.Error.{Error}
use Rattle.resolv_conf.specs.Parse.{LinesAnswer}
use Rattle.resolv_conf.specs.Words.{lines_of}
use Rattle.resolv_conf.proofs.conf.ResolvConf.take_lines.Given as goal

abbrev pub invariant-loop-rest : goal.invariant-loop-rest
invariant-loop-rest l = record {
  counted : l.number + length l.rest ≤ 1 + length l.text;
  follows : (answer : Result (Unit {0}) Error) (new : ResolvConf) → LinesAnswer l.number (lines_of l.rest) l.self answer new
      → LinesAnswer 1 (lines_of l.text) l.fn.self answer new;
}

abbrev pub decreases-loop-rest : goal.decreases-loop-rest
decreases-loop-rest l = length l.rest

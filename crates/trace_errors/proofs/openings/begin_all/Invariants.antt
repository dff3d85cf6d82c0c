-- the outs that are left begin what all begin
use Rattle.std.proofs.Common.{◌≡◌, drop}
use Rattle.trace_errors.specs.Openings.{begin_all}
use Rattle.trace_errors.proofs.openings.begin_all.Given as goal

abbrev pub invariant-loop-out : goal.invariant-loop-out
invariant-loop-out l = begin_all (drop l.out-index l.outs) l.row l.begun ≡ begin_all l.outs l.row l.fn.begun

use Rattle.std.proofs.Common.{◌≡◌, ◌++◌, drop, map}
use Rattle.trace_judge.specs.script.Judged as plain
use Rattle.trace_judge.proofs.script.judged.uses_of.Given as goal

abbrev pub invariant-loop-server : goal.invariant-loop-server
invariant-loop-server l = l.uses.items ++ map (plain.use_of l.fn.use_vc) (drop l.server-index l.servers) ≡ map (plain.use_of l.fn.use_vc) l.fn.servers

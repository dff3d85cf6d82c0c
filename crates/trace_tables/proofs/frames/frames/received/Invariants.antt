-- what is read and what is left to be read are all
use Rattle.std.proofs.Common.{◌≡◌, ◌++◌, drop}
use Rattle.right_trace.specs.Frames.{received}
use Rattle.trace_tables.proofs.frames.frames.received.Given as goal

abbrev pub invariant-loop-octets : goal.invariant-loop-octets
invariant-loop-octets l = l.read ++ received l.most (drop l.octets-index l.datagrams) ≡ received l.most l.datagrams

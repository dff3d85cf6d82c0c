-- the outs that are left give what all give
use Rattle.std.proofs.Common.{◌≡◌, drop}
use Rattle.trace_tables.specs.frames.Ledger.{have_put}
use Rattle.trace_tables.proofs.frames.ledger.Ledger.put_all.Given as goal

abbrev pub invariant-loop-out : goal.invariant-loop-out
invariant-loop-out l = have_put l.what (drop l.out-index l.outs) l.self ≡ have_put l.what l.outs l.fn.self

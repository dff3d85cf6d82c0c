-- the outs before the index have been counted
use Rattle.std.proofs.Common.{◌≡◌, take}
use Rattle.dns_script.specs.Summary.{with_outs}
use Rattle.dns_script.proofs.summary.Summary.add_outs.Given as goal

abbrev pub invariant-loop-out : goal.invariant-loop-out
invariant-loop-out l = l.self ≡ with_outs (take l.out-index l.outs) l.fn.self

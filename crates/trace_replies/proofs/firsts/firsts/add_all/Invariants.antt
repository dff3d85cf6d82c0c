-- those that are left add what all add
use Rattle.std.proofs.Common.{◌≡◌, drop}
use Rattle.trace_replies.specs.firsts.Firsts.{add_all}
use Rattle.trace_replies.proofs.firsts.firsts.add_all.Given as goal

abbrev pub invariant-loop-one : goal.invariant-loop-one
invariant-loop-one l = add_all (drop l.one-index l.news) l.firsts ≡ add_all l.news l.fn.firsts

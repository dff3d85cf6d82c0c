use Rattle.std.proofs.Common.{◌≤◌, arith}
use Rattle.front_steps.proofs.Counting.{counts_put, no_more}
use Rattle.front_steps.proofs.waits.Waits.put.Goals as goal

pub overflow_sub-self : goal.overflow_sub-self
overflow_sub-self c =
    let few : c.askers_or_none.result ≤ c.self.inside.count = no_more c.self.inside.count c.askers_or_none.result c.args.number c.self.inside.requests c.in-Ok.before c.self.invariant c.in-Ok.ensures.old c.askers_or_none.ensures in
    omega arith

pub invariant_of-self-2 : goal.invariant_of-self-2
invariant_of-self-2 c =
    counts_put c.self.inside.count c.askers_or_none.result c.args.number c.self.inside.requests c.in-Ok.before c.self.invariant c.in-Ok.ensures.old c.askers_or_none.ensures
    c.askers-more.result c.args.waiting c.insert.new.self c.askers-more.ensures c.in-Ok.ensures.entries

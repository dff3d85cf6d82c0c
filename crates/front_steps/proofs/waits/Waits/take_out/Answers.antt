use Rattle.std.proofs.Common.{ap}
use Rattle.front_steps.specs.Waiting.{Waits}
use Rattle.front_steps.proofs.Counting.{count_left, counts_freed, no_more}
use Rattle.front_steps.proofs.waits.Waits.take_out.Goals as goal

pub overflow_sub-self : goal.overflow_sub-self
overflow_sub-self c =
    no_more c.self.inside.count c.askers_or_none.result c.args.number c.self.inside.requests c.remove-waiting.result c.self.invariant c.remove-waiting.ensures.value c.askers_or_none.ensures

pub invariant_of-self : goal.invariant_of-self
invariant_of-self c =
    counts_freed c.self.inside.count c.askers_or_none.result c.args.number c.self.inside.requests c.remove-waiting.result c.self.invariant c.remove-waiting.ensures.value c.askers_or_none.ensures
    c.remove-waiting.new.self c.remove-waiting.ensures.entries

pub returns-clause-count : goal.returns-clause-count
returns-clause-count c =
    count_left c.args.number c.self.inside.requests c.args.self.now.requests c.remove-waiting.new.self c.remove-waiting.result
    (ap (λ (w : Waits). w.requests) c.self.view_is) c.remove-waiting.ensures.value c.remove-waiting.ensures.entries

use Rattle.std.proofs.Common.{◌&&◌, ap, ◌∙◌}
use Rattle.trace_judge.proofs.Ending.{at_end_is}
use Rattle.trace_judge.proofs.course.Course.kept_at_end.Goals as goal

pub returns : goal.returns
returns c =
    let kept = c.args.kept in
    let busy = c.in_ok-busy.busy in
    at_end_is c.args.rules.now c.args.self.now c.args.outs.now kept busy c.are_met-met.result c.marks_stand-stand.result c.has_one_fault_at_most-few.result c.holds-causes.result c.holds-orders.result
    (c.holds-causes.ensures ∙ ap (λ b. kept.causes && b) c.either-allowed.ensures) (c.holds-orders.ensures ∙ ap (λ b. kept.orders && b) (c.holds-orderly.ensures ∙ ap (λ b. busy && b) c.holds-places.ensures))
    c.in_ok-busy.ensures c.are_met-met.ensures.told c.marks_stand-stand.ensures c.has_one_fault_at_most-few.ensures.told

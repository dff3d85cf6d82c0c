use Rattle.std.proofs.Common.{sym, subst}
use Rattle.trace_judge.specs.Course.{TellsEnd}
use Rattle.trace_judge.specs.Judge.{Ends, Judges, TellsPrompt}
use Rattle.trace_judge.proofs.Judging.{judges}
use Rattle.trace_judge.proofs.judge.Judge.judge.Goals as goal

pub returns : goal.returns
returns c =
    let r = c.args.rules.now in
    let row = c.args.row.now in
    let mid = c.run.new.self in
    let new = c.end.new.self in
    let xs = c.in_ok-comings.comings in
    subst (λ o. Judges r row.event row c.args.self.now new o) (sym c.first_broken.ensures)
    (judges r row c.args.self.now mid new c.in_ok-kept.kept c.in_ok-kept-2.kept xs c.in_ok-prompt.prompt c.in_ok-kept.ensures
    (subst (λ os. TellsEnd r mid.course os c.in_ok-kept.kept c.in_ok-kept-2.kept) c.as_slice.ensures c.in_ok-kept-2.ensures) c.in_ok-comings.ensures
    (subst (λ ys. TellsPrompt r row ys mid c.in_ok-prompt.prompt) c.as_slice-2.ensures c.in_ok-prompt.ensures) (subst (λ ys. Ends r row ys mid new) c.as_slice-3.ensures c.in_ok-end.ensures))

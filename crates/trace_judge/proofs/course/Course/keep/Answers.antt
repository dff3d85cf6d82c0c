use Rattle.std.proofs.Common.{refl}
use Rattle.trace_judge.proofs.Knowing.{gives_here, gives_nothing}
use Rattle.trace_judge.proofs.Telling.{on_ok}
use Rattle.trace_judge.proofs.course.Course.keep.Goals as goal

pub returns-in-Reply : goal.returns-in-Reply
returns-in-Reply c =
    on_ok c.put.result (λ k. gives_here c.args.out.now _ _ c.args.self.now (record { here = c.args.self.now.here; replies = c.put.new.self; made = c.args.self.now.made; mark = c.args.self.now.mark }) c.in-Reply.is refl refl refl k) c.put.ensures

pub returns-in_default : goal.returns-in_default
returns-in_default c = gives_nothing c.args.out.now _ c.args.self.now c.in_default.not-Reply

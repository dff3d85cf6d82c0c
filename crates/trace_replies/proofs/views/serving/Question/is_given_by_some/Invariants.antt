-- those before gave nothing
use Rattle.trace_replies.specs.views.Serving.{Gives}
use Rattle.trace_replies.proofs.lemmas.views.Among.{Left}
use Rattle.trace_replies.proofs.views.serving.Question.is_given_by_some.Given as goal

abbrev pub invariant-loop-reply : goal.invariant-loop-reply
invariant-loop-reply l = record {
  can_next : (goal.iterator-loop-reply).can_next l.reply-iterator;
  is_finite : (goal.iterator-loop-reply).is_finite l.reply-iterator;
  left : Left (Gives l.self.manner l.self.settings.now l.self.request l.self.moment l.self.message.now) l.self.asks.now l.replies l.reply-iterator;
}

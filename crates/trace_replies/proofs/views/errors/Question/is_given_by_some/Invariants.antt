-- those before gave nothing
use Rattle.trace_replies.specs.views.Errors.{GivesError}
use Rattle.trace_replies.proofs.lemmas.views.Among.{Left}
use Rattle.trace_replies.proofs.views.errors.Question.is_given_by_some.Given as goal

abbrev pub invariant-loop-reply : goal.invariant-loop-reply
invariant-loop-reply l = record {
  can_next : (goal.iterator-loop-reply).can_next l.reply-iterator;
  is_finite : (goal.iterator-loop-reply).is_finite l.reply-iterator;
  left : Left (GivesError l.self.settings.now l.self.request l.self.moment l.self.error) l.self.asks.now l.replies l.reply-iterator;
}

use Rattle.std.proofs.Common.{sym, ◌∙◌}
use Rattle.trace_replies.specs.views.Serving.{Gives}
use Rattle.trace_replies.proofs.lemmas.views.Among.{begins, goes_by, stops_at, finds, ends}
use Rattle.trace_replies.proofs.lemmas.views.Giving.{too_old}
use Rattle.trace_replies.proofs.views.serving.Question.is_given_by_some.Goals as goal

pub loop-reply-init : goal.loop-reply-init
loop-reply-init c =
    let v = c.args.self.now in
    record { can_next = tt; is_finite = tt; left = begins (Gives v.manner v.settings.now v.request v.moment v.message.now) v.asks.now c.args.replies.now c.into_iter-reply-iterator.result c.into_iter-reply-iterator.ensures.into_iter_gives }

pub returns-then-is_past : goal.returns-then-is_past
returns-then-is_past c =
    let v = c.args.self.now in
    let e = c.in-Some.reply.now in
    stops_at (Gives v.manner v.settings.now v.request v.moment v.message.now) v.asks.now c.args.replies.now c.loop-reply.reply-iterator c.next.new.self e c.in-Some.ensures.steps
    (too_old v.manner v.settings.now v.request v.asks.now v.moment v.message.now e.moment (sym c.is_past.ensures ∙ c.if-is_past.true)) c.loop-reply.invariant.left

pub returns-then-gives : goal.returns-then-gives
returns-then-gives c =
    let v = c.args.self.now in
    let e = c.in-Some.reply.now in
    finds (Gives v.manner v.settings.now v.request v.moment v.message.now) v.asks.now c.args.replies.now c.loop-reply.reply-iterator c.next.new.self e c.in-Some.ensures.steps (c.in_ok-gives.ensures.so c.if-gives.true)
    c.loop-reply.invariant.left

pub loop-reply-preserved : goal.loop-reply-preserved
loop-reply-preserved c =
    let v = c.args.self.now in
    let e = c.in-Some.reply.now in
    record {
      can_next = tt;
      is_finite = tt;
      left = goes_by (Gives v.manner v.settings.now v.request v.moment v.message.now) v.asks.now c.args.replies.now c.loop-reply.reply-iterator c.next.new.self e c.in-Some.ensures.steps (c.in_ok-gives.ensures.non c.if-gives.false)
          c.loop-reply.invariant.left;
    }

pub returns : goal.returns
returns c =
    let v = c.args.self.now in
    ends (Gives v.manner v.settings.now v.request v.moment v.message.now) v.asks.now c.args.replies.now c.loop-reply.reply-iterator c.in-None.ensures.steps.0 c.loop-reply.invariant.left

use Rattle.std.proofs.Common.{◌≡◌, ℕ, ◌+◌, ◌-◌, ◌<◌, true, arith, sym, ◌∙◌, ap, subst, length, Option, None, Some, Result, List, slice_index_or, slice_set}
use Rattle.std.specs.Prelude.{is_some, not}
use Rattle.client_request.specs.declared.error.Error.{Error}
use Rattle.client_request.specs.declared.event.Out.{Out}
use Rattle.client_loop.specs.All.{of_each, or_each}
use Rattle.client_loop.specs.Replies.{reply_of}
use Rattle.client_loop.proofs.AllReplies.{earlier, index_same, kept, no_reply, none_of, taken, unsaid}
use Rattle.client_loop.proofs.all.take_reply.Goals as goal
use Rattle.client_loop.proofs.all.take_reply.Goals.{else-place-len-via-then-place-len+else-is_none, else-place-len-via-else-place-len}

pub returns-in_default : goal.returns-in_default
returns-in_default c = unsaid (λ k. reply_of k c.args.out) c.args.number c.args.replies.now.items (λ k behind. no_reply c.args.out c.in_default.not-Reply k)

pub returns-then-request-number : goal.returns-then-request-number
returns-then-request-number c =
    subst (λ (out : Out). c.args.replies.now.items ≡ or_each c.args.replies.now.items (of_each (λ k. reply_of k out) c.args.number (length c.args.replies.now.items))) (sym c.in-Reply.is)
    (earlier c.args.number c.in-Reply.request c.in-Reply.result c.args.replies.now.items c.if-request-number.true)

pub returns-then-is_none : goal.returns-then-is_none
returns-then-is_none c =
    let items = c.args.replies.now.items in
    let d : ℕ = c.in-Reply.request - c.args.number in
    let behind = c.if-request-number.false in
    let is : c.in-Reply.request ≡ c.args.number + d = omega arith in
    let len = c.len.ensures in
    let ok = c.args.replies.now.ok.0 in
    let below = c.if-place-len.true in
    let within : d < length items = omega arith in
    let none = none_of c.index.result.now (c.is_none.ensures ∙ ap not c.if-is_none.true) in
    subst (λ (out : Out). slice_set items d (Some c.in-Reply.result) ≡ or_each items (of_each (λ k. reply_of k out) c.args.number (length items))) (sym c.in-Reply.is)
    (taken c.args.number c.in-Reply.request d c.in-Reply.result items is within (subst (λ (o : Option (Result (List ℕ) Error)). o ≡ slice_index_or items d o) none c.index.ensures))

pub returns-else-place-len : goal.returns-else-place-len
returns-else-place-len c =
    let items = c.args.replies.now.items in
    let d : ℕ = c.in-Reply.request - c.args.number in
    let behind = c.if-request-number.false in
    let is : c.in-Reply.request ≡ c.args.number + d = omega arith in
    let len = c.len.ensures in
    let ok = c.args.replies.now.ok.0 in
    let has : d < length items → is_some (slice_index_or items d None) ≡ true =
    elim c.else-place-len.branch [
      | else-place-len-via-then-place-len+else-is_none w ↦ λ within. ap is_some (index_same items d None w.index.result.now within ∙ sym w.index.ensures) ∙ w.is_none.ensures ∙ ap not w.if-is_none.false
      | else-place-len-via-else-place-len w ↦ λ within. (let not_within = w.if-place-len.false in absurd (omega arith))
    ] in
    subst (λ (out : Out). items ≡ or_each items (of_each (λ k. reply_of k out) c.args.number (length items))) (sym c.in-Reply.is)
    (kept c.args.number c.in-Reply.request d c.in-Reply.result items is has)

use Rattle.std.proofs.Common.{◌≡◌, IfOk, subst}
use Rattle.client_request.specs.Cx.{view_of}
use Rattle.client_cache.specs.Plain as plain
use Rattle.client_cache.proofs.steps.send.Goals as goal

pub returns-clause-response : goal.returns-clause-response
returns-clause-response g c =
    subst
    (λ kept. IfOk c.give_or_hand_on.result (λ r. r ≡ plain.response_to (plain.read g.CR.Compose.requests g.CR.Compose.header_of g.CR.Compose.is_dnssec_ok) g.U.SendRequest.transport c.args.request c.args.below.now kept (view_of g.W.Words.stream c.args.cx.now)))
    c.kept.view_is
    (subst
    (λ way. IfOk c.give_or_hand_on.result (λ r. r ≡ plain.response_below g.U.SendRequest.transport c.args.request c.args.below.now (view_of g.W.Words.stream c.args.cx.now) way))
    c.in_ok-way.ensures.way
    c.give_or_hand_on.ensures.response)

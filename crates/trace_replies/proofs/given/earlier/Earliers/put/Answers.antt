use Rattle.std.proofs.Common.{ap, subst}
use Rattle.client_request.specs.Request.{Request}
use Rattle.right_trace.specs.Requests.{Asking}
use Rattle.trace_replies.specs.given.Asks.{IsTold}
use Rattle.trace_replies.proofs.lemmas.given.Putting.{kept_told}
use Rattle.trace_replies.proofs.given.earlier.Earliers.put.Goals as goal

pub returns : goal.returns
returns c =
    let a = c.args in
    let seen : Path Asking (record { request = c.asked.inside.request; moment = c.asked.inside.moment }) c.in-Some.asked.now = (cc c.asked.view_is) in
    kept_told a.requests.now a.request a.outcome.now c.in_ok-copy_of.field-0 a.self.now c.self.inside.replies.entries c.add.new.table.entries c.in-Some.asked.now c.in-Some-2.asks c.add.result c.in_ok-asks.field-0 c.in-Some.ensures
    (subst (λ (r : Request). IsTold r c.in_ok-asks.field-0) (ap (λ (x : Asking). x.request) seen) c.in_ok-asks.ensures) c.in-Some-2.is c.in_ok-copy_of.ensures (cc c.self.view_is) c.add.ensures

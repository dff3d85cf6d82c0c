use Rattle.std.proofs.Common.{sym, ap, subst}
use Rattle.client_request.specs.Request.{Request}
use Rattle.right_trace.specs.Requests.{Asking}
use Rattle.trace_replies.specs.given.Asks.{IsTold}
use Rattle.trace_replies.proofs.lemmas.views.Failing.{found_none, found_unkept, found_no_reply, found_among}
use Rattle.trace_replies.proofs.views.errors.find.Goals as goal

pub returns-in_default : goal.returns-in_default
returns-in_default c = let a = c.args in found_none a.settings.now a.request a.error a.requests.now a.earlier.now (sym c.in_default.ensures)

pub returns-in_default-2 : goal.returns-in_default-2
returns-in_default-2 c =
    let a = c.args in
    let seen : Path Asking (record { request = c.asked.inside.request; moment = c.asked.inside.moment }) c.in-Some.asked.now = (cc c.asked.view_is) in
    let told = subst (λ (r : Request). IsTold r c.in_ok-asks.field-0) (ap (λ (x : Asking). x.request) seen) c.in_ok-asks.ensures in
    found_unkept a.settings.now a.request a.error a.requests.now a.earlier.now c.in-Some.asked.now (sym c.in-Some.ensures) (rw c.in_default-2.is at told)

pub returns-in_default-get : goal.returns-in_default-get
returns-in_default-get c =
    let a = c.args in
    let seen : Path Asking (record { request = c.asked.inside.request; moment = c.asked.inside.moment }) c.in-Some.asked.now = (cc c.asked.view_is) in
    let told = subst (λ (r : Request). IsTold r c.in_ok-asks.field-0) (ap (λ (x : Asking). x.request) seen) c.in_ok-asks.ensures in
    found_no_reply a.settings.now a.request a.error a.requests.now a.earlier.now c.in-Some.asked.now c.in-Some-2.asks (sym c.in-Some.ensures) (rw c.in-Some-2.is at told) c.in_default-get.ensures

pub returns : goal.returns
returns c =
    let a = c.args in
    let seen : Path Asking (record { request = c.asked.inside.request; moment = c.asked.inside.moment }) c.in-Some.asked.now = (cc c.asked.view_is) in
    let told = subst (λ (r : Request). IsTold r c.in_ok-asks.field-0) (ap (λ (x : Asking). x.request) seen) c.in_ok-asks.ensures in
    found_among a.settings.now a.request a.error a.requests.now a.earlier.now c.in-Some.asked.now c.in-Some-2.asks c.in-Some-get.replies.now c.is_given_by_some.result (sym c.in-Some.ensures) (rw c.in-Some-2.is at told) c.in-Some-get.ensures c.is_given_by_some.ensures

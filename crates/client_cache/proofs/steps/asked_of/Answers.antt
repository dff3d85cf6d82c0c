use Rattle.std.proofs.Common.{◌≡◌, IfOk, List, ℕ, Bool, subst}
use Rattle.client_cache.specs.Keeping.{asked_about}
use Rattle.client_cache.proofs.LookUps.{asked_is}
use Rattle.client_cache.proofs.steps.asked_of.Goals as goal

pub returns : goal.returns
returns g c =
    let question = c.sole_question-question.result in
    asked_is (g.CR.Compose.header_of c.args.request.now) (g.CR.Compose.is_dnssec_ok c.args.request.now) (g.CR.Compose.requests.composed c.args.request.now) question c.asked_about.result c.sole_question-question.ensures
    (subst (λ (d : Bool). IfOk c.asked_about.result (λ asked. asked ≡ asked_about (g.CR.Compose.header_of c.args.request.now) d question)) c.dnssec_ok.ensures
    (subst (λ (h : List ℕ). IfOk c.asked_about.result (λ asked. asked ≡ asked_about h c.dnssec_ok.result question)) c.header.ensures c.asked_about.ensures))

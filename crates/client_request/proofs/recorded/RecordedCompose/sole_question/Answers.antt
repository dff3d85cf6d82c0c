use Rattle.std.proofs.Common.{◌≡◌, Option, Some, None, Result, Ok, Err, IfOk, ap, sym, subst, ◌∙◌}
use Rattle.std.specs.Prelude.{MatchResult}
use Rattle.std.specs.Result.{result_ok}
use Rattle.dns_values.specs.declared.error.ParseError.{ParseError}
use Rattle.dns_base.specs.Message.{Asked, sole_question}
use Rattle.client_request.specs.Request.{Request}
use Rattle.client_request.specs.Composed.{composed}
use Rattle.client_request.specs.Composing.{IsAsked}
use Rattle.client_request.proofs.SoleQuestion.{composed_asks}
use Rattle.client_request.proofs.recorded.RecordedCompose.sole_question.Goals as goal

found : (o : Option Asked) (r : Result Asked ParseError) → MatchResult r (λ q. o ≡ Some q) (λ x. o ≡ None) → o ≡ result_ok r
found o (Ok q) e = e
found o (Err x) e = e

pub returns : goal.returns
returns c =
    let base : sole_question c.args.self.now.base ≡ sole_question c.self.inside.base = ap (λ (r : Request). sole_question r.base) (sym c.self.view_is) in
    subst (λ o. IfOk (composed c.args.self.now) (λ m. IsAsked m o))
    (base ∙ (found (sole_question c.self.inside.base) c.sole_question.result c.sole_question.ensures ∙ sym c.ok.ensures.value))
    (composed_asks c.args.self.now c.is_of_octets.ensures)

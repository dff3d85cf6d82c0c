-- A base is taken where it is not misformed.
use Rattle.std.proofs.Common.{◌≡◌, false, ap}
use Rattle.std.proofs.lemmas.Bool.{false_from_ne_true}
use Rattle.client_request.specs.Request.{Request, is_misformed}
use Rattle.dns_script.proofs.Requests.{error_is, made_request, misformed_request, ok_is_no_error}
use Rattle.dns_script.proofs.reading.request_of.Goals as goal

pub returns-in-Ok : goal.returns-in-Ok
returns-in-Ok c =
    let sound : is_misformed c.args.base ≡ false = false_from_ne_true _ (λ t. ok_is_no_error c.in-Ok.request _ (c.in-Ok.ensures.misformed.1 t)) in
    let base : c.in-Ok.request.base ≡ c.args.base = ap (λ (r : Request). r.base) c.in-Ok.ensures.made in
    rw (made_request c.args.base c.args.header c.args.word.now sound, ← base) c.with_recorded.ensures

pub returns-in-Err : goal.returns-in-Err
returns-in-Err c = misformed_request c.args.base c.args.header c.args.word.now (c.in-Err.ensures.misformed.0 (error_is c.in-Err.field-0 _ c.in-Err.ensures.refused))

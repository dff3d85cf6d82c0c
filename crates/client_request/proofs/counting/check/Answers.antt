use Rattle.std.proofs.Common.{◌∙◌, ap}
use Rattle.std.specs.Prelude.{Result, Err}
use Rattle.client_request.specs.declared.error.Error.{Error}
use Rattle.client_request.specs.Request.{Request}
use Rattle.client_request.proofs.Verdicts.{verdict}
use Rattle.client_request.proofs.counting.check.Goals as goal

pub returns-in-Ok : goal.returns-in-Ok
returns-in-Ok c =
    let r : Request = record { base = c.args.base.now; header = c.args.header; opt = c.args.opt } in
    verdict r _ _ c.none-counts.ensures c.in-Ok.ensures

pub returns-in-Err : goal.returns-in-Err
returns-in-Err c =
    let r : Request = record { base = c.args.base.now; header = c.args.header; opt = c.args.opt } in
    let refused : Error → Result (Unit {0}) Error = λ e. Err e in
    ap refused c.from.ensures ∙ verdict r _ _ c.none-counts.ensures c.in-Err.ensures

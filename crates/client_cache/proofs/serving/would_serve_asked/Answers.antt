use Rattle.std.proofs.Common.{◌≡◌, IfOk, Some, Bool, sym, subst}
use Rattle.std.specs.Prelude.{is_some}
use Rattle.right_trace.specs.Keys.{Key}
use Rattle.client_cache.specs.Keeping.{Asked, takes}
use Rattle.client_cache.specs.Plain.{way_asked}
use Rattle.client_cache.specs.Serving.{is_given}
use Rattle.client_cache.proofs.LookUps.{other_served}
use Rattle.client_cache.proofs.serving.would_serve_asked.Goals as goal

pub returns : goal.returns
returns c =
    let asked : Asked = record { key = c.asked.inside.key; name = c.asked.inside.name } in
    subst (λ (a : Asked). IfOk c.would_derive.result (λ served. served ≡ is_given (way_asked c.args.config.now c.args.now c.args.table.now (Some a)).0)) c.asked.view_is
    (subst (λ (b : Bool). IfOk c.would_derive.result (λ served. served ≡ b))
    (other_served c.args.config.now c.args.now c.args.table.now asked c.in-Some-first_other.flags (sym c.in-Some-first_other.ensures.kept))
    (subst
    (λ (k : Key). IfOk c.would_derive.result (λ served. served ≡ is_some (takes c.args.config.now (record { key = k; name = c.asked.inside.name }) c.args.now c.args.table.now (Some c.in-Some-first_other.flags)).answer))
    c.first_other.ensures.same
    c.would_derive.ensures))

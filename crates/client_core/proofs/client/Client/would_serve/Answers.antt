use Rattle.std.proofs.Common.{◌≡◌, ℕ, IfOk, subst}
use Rattle.std.specs.Prelude.{max}
use Rattle.client_steps.specs.Whole.{Whole, reading}
use Rattle.client_cache.specs.Serving.{would_serve}
use Rattle.client_core.proofs.client.Client.would_serve.Goals as goal

pub returns : goal.returns
returns c =
    subst
    (λ (s : Whole). IfOk c.would_serve.result (λ served. served ≡ would_serve reading c.args.request.now (max s.now c.args.moment.0) s.layer.kept))
    c.self.view_is
    (subst (λ (n : ℕ). IfOk c.would_serve.result (λ served. served ≡ would_serve reading c.args.request.now n c.self.inside.layer.kept)) c.max.ensures c.would_serve.ensures)

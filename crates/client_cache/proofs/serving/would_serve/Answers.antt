use Rattle.std.proofs.Common.{◌≡◌, IfOk, subst}
use Rattle.client_cache.specs.Plain.{read}
use Rattle.client_cache.specs.Serving.{would_serve}
use Rattle.client_cache.proofs.serving.would_serve.Goals as goal

pub returns : goal.returns
returns g c =
    subst
    (λ kept. IfOk c.would_serve_by.result (λ served. served ≡ would_serve (read g.CR.Compose.requests g.CR.Compose.header_of g.CR.Compose.is_dnssec_ok) c.args.request.now c.args.now kept))
    c.kept.view_is
    c.would_serve_by.ensures

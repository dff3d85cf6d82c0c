use Rattle.std.proofs.Common.{ℕ, List, refl, ap, sym, ◌∙◌}
use Rattle.zone_refresh_run.specs.Acts.{after_act, did_read}
use Rattle.zone_refresh_run.specs.Fetching.{comes, fails}
use Rattle.zone_refresh_run.proofs.fetching.bring.Goals as goal

pub returns-then-not-is_there : goal.returns-then-not-is_there
returns-then-not-is_there g c = fails c.fetch-status.result.0 c.fetch-status.ensures (sym c.is_there.ensures ∙ c.if-not-is_there.true) refl

pub returns : goal.returns
returns g c =
    comes c.fetch-status.result.0 (g.S.System.acts c.fetch-status.new.system) c.fetch-status.ensures (sym c.is_there.ensures ∙ c.if-not-is_there.false)
    (c.held.ensures ∙ ap (λ (p : List ℕ). after_act (did_read c.args.listed.now.zone p c.held.result) (g.S.System.acts c.fetch-status.new.system)) c.as_str.ensures)

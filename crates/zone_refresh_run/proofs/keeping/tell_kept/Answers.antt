use Rattle.std.proofs.Common.{ℕ, List, ap, ◌∙◌}
use Rattle.zone_refresh_run.specs.Acts.{after_act, did_tell, tells}
use Rattle.zone_refresh_run.proofs.keeping.tell_kept.Goals as goal

pub returns-in-Ok : goal.returns-in-Ok
returns-in-Ok g c =
    tells (c.tell.ensures ∙ ap (λ (s : List ℕ). after_act (did_tell s) (g.S.System.acts c.args.system.now)) (c.as_str.ensures.value ∙ c.in-Ok.ensures))

use Rattle.std.proofs.Common.{ap, sym, ◌∙◌}
use Rattle.cache_rules.specs.Validity.{kept_for}
use Rattle.cache_rules.proofs.keeping.validity.Goals as goal

pub returns-in-Ok : goal.returns-in-Ok
returns-in-Ok c = c.validity_of.ensures ∙ ap (kept_for c.args.config.now) (sym c.in-Ok.is)

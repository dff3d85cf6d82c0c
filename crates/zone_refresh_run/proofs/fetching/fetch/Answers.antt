use Rattle.std.proofs.Common.{sym, ◌∙◌}
use Rattle.zone_refresh_run.specs.Fetching.{once, twice}
use Rattle.zone_refresh_run.proofs.fetching.fetch.Goals as goal

pub returns-then-not-is_lost : goal.returns-then-not-is_lost
returns-then-not-is_lost g c = once c.fetch_once-status.ensures (sym c.is_lost.ensures ∙ c.if-not-is_lost.true)

pub returns : goal.returns
returns g c =
    twice c.fetch_once-status.result.0 (g.S.System.acts c.fetch_once-status.new.system) c.fetch_once-status.ensures (sym c.is_lost.ensures ∙ c.if-not-is_lost.false) c.fetch_once.ensures

use Rattle.client_choice.proofs.StatsLaws.{estimate_le}
use Rattle.client_choice.proofs.stats.Stats.estimate.Goals as goal

pub returns-clause-bound : goal.returns-clause-bound
returns-clause-bound c =
    rw (c.square_root.ensures.value, c.saturating_sub-variance.ensures) (estimate_le (record { mean = c.self.inside.mean; square = c.self.inside.square }) c.self.invariant)

use Rattle.std.proofs.Common.{◌≤◌, arith}
use Rattle.client_choice.proofs.StatsLaws.{with_time_in_range}
use Rattle.client_choice.proofs.stats.Stats.update.Goals as goal

pub invariant_of-self : goal.invariant_of-self
invariant_of-self c =
    let within : c.min-time.result ≤ 3600000000 = omega (arith, c.min-time.ensures) in
    rw (c.averaged.ensures, c.averaged-2.ensures) (with_time_in_range c.min-time.result (record { mean = c.self.inside.mean; square = c.self.inside.square }) within c.self.invariant)

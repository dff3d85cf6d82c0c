-- What a balancer may be set to, and each of its servers: times in microseconds.
use Rattle.std.specs.Prelude.{ℕ, Option, None}
use Rattle.client_settings.specs.Settings.{RedundantSettings, default_redundant}

-- Which results are put off while another server may still answer; and how many thousandths of the least estimate a server that is not slow takes.
pub record BalancerSettings : Type 0 where
  pub deferring : RedundantSettings
  pub slow_rt_factor : ℕ

-- nothing is put off, and five times the least estimate is not slow
abbrev pub default_balancer : BalancerSettings
default_balancer = record { deferring = default_redundant; slow_rt_factor = 5000 }

-- how many requests a server gets in a burst, if that is limited; and how long a burst lasts
pub record BurstSettings : Type 0 where
  pub max_burst : Option ℕ
  pub burst_interval : ℕ

-- no limit, in a second
abbrev pub default_bursts : BurstSettings
default_bursts = record { max_burst = None; burst_interval = 1000000 }

-- The settings of a stream connection: times in microseconds.
use Rattle.std.specs.Prelude.{ℕ, ◌≤◌}

-- The second time is that of transfers.
pub record Settings : Type 0 where
  pub response_timeout : ℕ
  pub streaming_response_timeout : ℕ
  pub idle_timeout : ℕ

abbrev pub default_settings : Settings
default_settings = record { response_timeout = 19000000; streaming_response_timeout = 19000000; idle_timeout = 10000000 }

-- what all settings have: a millisecond at least for a frame
abbrev pub AreLimited : Settings → Type 0
AreLimited s = 1000 ≤ s.response_timeout

-- The settings of reconnection: the time in microseconds, and those of each connection.
use Rattle.std.specs.Prelude.{ℕ, ◌≤◌}
use Rattle.client_settings.specs.Stream as stream
use Rattle.client_settings.specs.Stream.{Settings as StreamSettings, default_settings as default_stream}

pub record Settings : Type 0 where
  pub response_timeout : ℕ
  pub stream : StreamSettings

abbrev pub over_stream : StreamSettings → Settings
over_stream stream = record { response_timeout = 30000000; stream = stream }

abbrev pub default_settings : Settings
default_settings = over_stream default_stream

abbrev pub with_stream : Settings → StreamSettings → Settings
with_stream settings stream = record settings { stream = stream }

-- what all settings have: a millisecond at least for a request, and for a frame
abbrev pub AreLimited : Settings → Type 0
AreLimited s = (1000 ≤ s.response_timeout) × stream.AreLimited s.stream

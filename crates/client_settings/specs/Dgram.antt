-- The settings of a datagram transport: times in microseconds, sizes in octets.
use Rattle.std.specs.Prelude.{ℕ, ◌<◌, ◌≤◌, Option, Some, None}

pub record Settings : Type 0 where
  pub max_parallel : ℕ
  pub read_timeout : ℕ
  pub max_retries : ℕ
  pub udp_payload_size : Option ℕ
  pub recv_size : ℕ

abbrev pub default_settings : Settings
default_settings = record {
  max_parallel = 100;
  read_timeout = 5000000;
  max_retries = 5;
  udp_payload_size = Some 1232;
  recv_size = 2000;
}

-- a payload size has two octets
abbrev pub IsSize : Option ℕ → Type 0
IsSize None = Unit {0}
IsSize (Some size) = size < 65536

-- What all settings have: a place at least, a millisecond at least for an answer, and a payload size that can be announced.
abbrev pub AreLimited : Settings → Type 0
AreLimited s = (1 ≤ s.max_parallel) × (1000 ≤ s.read_timeout) × IsSize s.udp_payload_size

-- What a client may be set to: times in microseconds.
use Rattle.std.specs.Prelude.{ℕ, ◌*◌, Bool, false}

abbrev pub seconds : ℕ → ℕ
seconds n = n * 1000000

-- which results of one server are put off while another may still answer
pub record RedundantSettings : Type 0 where
  pub defer_transport_error : Bool
  pub defer_refused : Bool
  pub defer_servfail : Bool

-- nothing is put off
abbrev pub default_redundant : RedundantSettings
default_redundant = record { defer_transport_error = false; defer_refused = false; defer_servfail = false }

-- how many answers are kept, how many octets they may weigh together, for how long each kind of them, and whether truncated ones are kept
pub record CacheSettings : Type 0 where
  pub max_cache_entries : ℕ
  pub max_cache_octets : ℕ
  pub max_validity : ℕ
  pub transport_failure_duration : ℕ
  pub misc_error_duration : ℕ
  pub max_nxdomain_validity : ℕ
  pub max_nodata_validity : ℕ
  pub max_delegation_validity : ℕ
  pub cache_truncated : Bool
  pub stale_for : ℕ

-- the greatest number of 64 bits: no bound by octets
abbrev pub no_bound : ℕ
no_bound = 18446744073709551615

-- a week at most; half a minute for failures, an hour for what is not there
abbrev pub default_cache : CacheSettings
default_cache = record {
  max_cache_entries = 1000;
  max_cache_octets = no_bound;
  max_validity = seconds 604800;
  transport_failure_duration = seconds 30;
  misc_error_duration = seconds 30;
  max_nxdomain_validity = seconds 3600;
  max_nodata_validity = seconds 3600;
  max_delegation_validity = seconds 1000000;
  cache_truncated = false;
  stale_for = seconds 0;
}

-- The settings of a trace are those of its cache.
use Rattle.std.proofs.Common.{◌≡◌, Bool, refl, sym, ap, subst}
use Rattle.client_settings.specs.Settings.{CacheSettings}
use Rattle.right_trace.specs.Settings.{Settings}
use Rattle.trace_errors.specs.promptness.Settings.{settings_of}

module _ (c : CacheSettings) (s : Settings) (is : settings_of c s.defers_errors s.defers_refused s.defers_servfail ≡ s) where
  pub kept_for : c.max_validity ≡ s.max_validity
  kept_for = ap (λ (s : Settings). s.max_validity) is

  pub expired_for : c.stale_for ≡ s.stale_for
  expired_for = ap (λ (s : Settings). s.stale_for) is

  pub failed_for : c.transport_failure_duration ≡ s.transport_failure_duration
  failed_for = ap (λ (s : Settings). s.transport_failure_duration) is

-- so they are where they are made of a copy
pub made_of : (c copy : CacheSettings) (a b d : Bool) (s : Settings) → copy ≡ c → s ≡ settings_of copy a b d → settings_of c s.defers_errors s.defers_refused s.defers_servfail ≡ s
made_of c copy a b d s is made = subst (λ (s : Settings). settings_of c s.defers_errors s.defers_refused s.defers_servfail ≡ s) (sym made) (subst (λ (x : CacheSettings). settings_of c a b d ≡ settings_of x a b d) (sym is) refl)

-- Whether a message has a validity depends on what is kept alone.
use Rattle.std.proofs.Common.{◌≡◌, ℕ, Bool, Option, Some, None, refl, ap, ◌∙◌}
use Rattle.std.specs.Prelude.{is_some, is_ok, Ok}
use Rattle.client_settings.specs.Settings.{CacheSettings}
use Rattle.right_trace.specs.{Messages.Octets, Validity.validity_of_message}
use Rattle.cache_rules.specs.Validity.{cached_by, or_unread, kept_for}
use Rattle.trace_errors.specs.promptness.Settings.{settings_of}

read_is : (o : Option ℕ) → is_ok (or_unread o) ≡ is_some o
read_is None = refl
read_is (Some n) = refl

same : (c : CacheSettings) (a b d : Bool) (m : Octets) → validity_of_message (cached_by c) m ≡ validity_of_message (settings_of c a b d) m
unfolding validity_of_message
same c a b d m = refl

pub has_validity : (c : CacheSettings) (a b d : Bool) (m : Octets) → is_ok (kept_for c (Ok m)) ≡ is_some (validity_of_message (settings_of c a b d) m)
has_validity c a b d m = read_is (validity_of_message (cached_by c) m) ∙ ap is_some (same c a b d m)

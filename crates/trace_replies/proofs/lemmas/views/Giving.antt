-- What is found of one earlier reply.
use Rattle.std.proofs.Common.{◌≡◌, ◌≤◌, ◌<◌, ℕ, ◌+◌, ◌-◌, Bool, true, false, refl, sym, ap, ◌∙◌, subst, arith}
use Rattle.std.specs.Prelude.{Ok, is_ok, nat_lt}
use Rattle.std.proofs.lemmas.Bool.Decides.{nat_tests}
use Rattle.client_request.specs.Request.{Request}
use Rattle.client_settings.specs.Settings.{CacheSettings}
use Rattle.right_trace.specs.{Messages.Octets, Settings.Settings, Validity.validity_of_message}
use Rattle.right_trace.specs.Keys.{key_of, spelled_name}
use Rattle.right_trace.specs.Views.{viewed, view_validity}
use Rattle.cache_rules.specs.Validity.{cached_by}
use Rattle.message_judging.specs.declared.views.serving.Flags.{Flags}
use Rattle.message_judging.specs.views.Serving.{IsViewOf, IsStaleOf, TellsView, TellsStale}
use Rattle.message_judging.proofs.lemmas.views.Viewing.{validity_limited}
use Rattle.trace_errors.specs.promptness.Settings.{settings_of}
use Rattle.trace_replies.specs.declared.given.asks.Asks.{Asks}
use Rattle.trace_replies.specs.declared.given.earlier.Earlier.{Earlier}
use Rattle.trace_replies.specs.given.Asks.{covers_flags}
use Rattle.trace_replies.proofs.lemmas.given.Asking.{covers_so, so_covers}
use Rattle.trace_replies.specs.declared.views.serving.Manner.{Manner}
use Rattle.trace_replies.specs.declared.views.serving.Manner.TheVariants.{Valid, Expired}
use Rattle.trace_replies.specs.views.Among.{No, TellsOne}
use Rattle.trace_replies.specs.views.Serving.{IsGivenOf, longest, Gives, TellsKept, is_past}
use Rattle.trace_replies.proofs.lemmas.views.Among.{never}

-- ---- settings

same_validity : (c : CacheSettings) (a b d : Bool) (m : Octets) → validity_of_message (cached_by c) m ≡ validity_of_message (settings_of c a b d) m
unfolding validity_of_message
same_validity c a b d m = refl

module _ (c : CacheSettings) (a b d : Bool) (q r : Request) (kept : Octets) (age : ℕ) (m : Octets) where
  view_so : IsViewOf (cached_by c) q r kept age m → IsViewOf (settings_of c a b d) q r kept age m
  view_so v = record {
    parts = v.parts;
    valid = record { known = v.valid.known; validity = v.valid.validity; is_validity = sym (same_validity c a b d kept) ∙ v.valid.is_validity; kept = v.valid.kept; in_time = v.valid.in_time };
    says = v.says;
  }

  so_view : IsViewOf (settings_of c a b d) q r kept age m → IsViewOf (cached_by c) q r kept age m
  so_view v = record {
    parts = v.parts;
    valid = record { known = v.valid.known; validity = v.valid.validity; is_validity = same_validity c a b d kept ∙ v.valid.is_validity; kept = v.valid.kept; in_time = v.valid.in_time };
    says = v.says;
  }

  stale_so : IsStaleOf (cached_by c) q r kept age m → IsStaleOf (settings_of c a b d) q r kept age m
  stale_so v = record {
    parts = v.parts;
    valid = record { known = v.valid.known; validity = v.valid.validity; is_validity = sym (same_validity c a b d kept) ∙ v.valid.is_validity; kept = v.valid.kept; tells = v.valid.tells; allowed = v.valid.allowed; in_time = v.valid.in_time };
    says = v.says;
  }

  so_stale : IsStaleOf (settings_of c a b d) q r kept age m → IsStaleOf (cached_by c) q r kept age m
  so_stale v = record {
    parts = v.parts;
    valid = record { known = v.valid.known; validity = v.valid.validity; is_validity = same_validity c a b d kept ∙ v.valid.is_validity; kept = v.valid.kept; tells = v.valid.tells; allowed = v.valid.allowed; in_time = v.valid.in_time };
    says = v.says;
  }

-- the settings of a trace are those of its cache
pub valid_told : (c : CacheSettings) (s : Settings) (asks : Asks) (m kept : Octets) (f : Flags) (age : ℕ) (b : Bool) → settings_of c s.defers_errors s.defers_refused s.defers_servfail ≡ s
    → TellsView (cached_by c) kept f asks.flags asks.name age m b → TellsKept Valid s asks m kept f age b
valid_told c s asks m kept f age b is t = subst (λ s. TellsKept Valid s asks m kept f age b) is (λ q r asked covers has. (
  (λ e. view_so c s.defers_errors s.defers_refused s.defers_servfail q r kept age m (t.so q r has asked.flags asked.name e)),
  (λ v. t.back q r has asked.flags asked.name (so_view c s.defers_errors s.defers_refused s.defers_servfail q r kept age m v)),
))

pub expired_told : (c : CacheSettings) (s : Settings) (asks : Asks) (m kept : Octets) (f : Flags) (age : ℕ) (b : Bool) → settings_of c s.defers_errors s.defers_refused s.defers_servfail ≡ s
    → TellsStale (cached_by c) kept f asks.flags asks.name age m b → TellsKept Expired s asks m kept f age b
expired_told c s asks m kept f age b is t = subst (λ s. TellsKept Expired s asks m kept f age b) is (λ q r asked covers has. (
  (λ e. stale_so c s.defers_errors s.defers_refused s.defers_servfail q r kept age m (t.so q r covers has asked.flags asked.name e)),
  (λ v. t.back q r covers has asked.flags asked.name (so_stale c s.defers_errors s.defers_refused s.defers_servfail q r kept age m v)),
))

-- ---- one reply

module _ (u : Manner) (s : Settings) (k : ℕ) (a : Asks) (n : ℕ) (m : Octets) (e : Earlier) where
  pub no_message : is_ok e.outcome ≡ false → No (Gives u s k n m) a e
  no_message is q r asked key has g = absurd (let z : false ≡ true = sym is ∙ ap is_ok g.is in cc)

  pub not_below : k ≤ e.request → No (Gives u s k n m) a e
  not_below le q r asked key has g = absurd (let lt = g.below in omega arith)

  pub not_covered : covers_flags e.flags a.flags a.key.rtype ≡ false → No (Gives u s k n m) a e
  not_covered f q r asked key has g = never (covers_flags e.flags a.flags a.key.rtype) (so_covers q r e.flags a.flags a.key (sym key) asked.key has asked.flags g.covers) f

  pub one_told : (kept : Octets) (b : Bool) → e.outcome ≡ Ok kept → e.request < k → covers_flags e.flags a.flags a.key.rtype ≡ true → TellsKept u s a m kept e.flags (n - e.moment) b → TellsOne (Gives u s k n m) a e b
  one_told kept b is below covers t = record {
    so = λ holds q r asked key has. (
        let c = covers_so q r e.flags a.flags a.key (sym key) asked.key has asked.flags covers in
        record { below = below; covers = c; kept = kept; is = is; given = (t q r asked c has).0 holds });
    non = λ fails q r asked key has g. (
        let same : g.kept ≡ kept = (let z : Ok g.kept ≡ Ok kept = sym g.is ∙ is in cc) in
        never b ((t q r asked g.covers has).1 (subst (λ kept. IsGivenOf u s q r kept (n - e.moment) m) same g.given)) fails);
  }

below : (a b : ℕ) → nat_lt a b ≡ true → a < b
below a b e = grind (arith, nat_tests)

no_longer : (age valid most : ℕ) → age ≤ valid → valid ≤ most → age ≤ most
no_longer age valid most a b = omega arith

no_longer_than : (age valid most more : ℕ) → age ≤ valid + more → valid ≤ most → age ≤ most + more
no_longer_than age valid most more a b = omega arith

-- what is given is not too long ago
not_past : (u : Manner) (s : Settings) (q r : Request) (kept : Octets) (age : ℕ) (m : Octets) → IsGivenOf u s q r kept age m → age ≤ longest u s
not_past Valid s q r kept age m v = no_longer age (view_validity s q r v.parts) s.max_validity v.valid.in_time (validity_limited s (viewed (key_of q) (key_of r) (spelled_name r) 0 v.parts))
not_past Expired s q r kept age m v =
    no_longer_than age (view_validity s q r v.parts) s.max_validity s.stale_for v.valid.in_time (validity_limited s (viewed (key_of q) (key_of r) (spelled_name r) 0 v.parts))

older : (most n t moment : ℕ) → n - moment ≤ most → most < n - t → moment ≤ t → ⊥
older most n t moment a b d = absurd (omega arith)

pub too_old : (u : Manner) (s : Settings) (k : ℕ) (a : Asks) (n : ℕ) (m : Octets) (t : ℕ) → is_past u s n t ≡ true → (e : Earlier) → e.moment ≤ t → No (Gives u s k n m) a e
too_old u s k a n m t past e le q r asked key has g = older (longest u s) n t e.moment (not_past u s q r g.kept (n - e.moment) m g.given) (below (longest u s) (n - t) past) le

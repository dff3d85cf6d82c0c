-- Which way a request goes through a cache.
use Rattle.std.proofs.Common.{◌≡◌, ℕ, List, Option, Some, None, Ok, Err, refl, sym, ap, ◌∙◌}
use Rattle.std.specs.Prelude.{option_map}
use Rattle.client_request.specs.Carries.{IsOfOctets}
use Rattle.client_request.specs.Composed.{composed}
use Rattle.client_request.specs.Request.{Request, is_dnssec_ok}
use Rattle.client_request.proofs.Carrying.{composed_says}
use Rattle.dns_base.specs.Message.{sole_question}
use Rattle.right_trace.specs.Keys.{Key, question_or}
use Rattle.cache_rules.specs.Laws.{kept_key}
use Rattle.cache_rules.specs.Key.{key_in}
use Rattle.cache_rules.proofs.KeyLaws.{keys_are_of_requests}
use Rattle.client_cache.specs.Keeping.{Outcome, Table, Asked, Found, Spare, asked_in, first_kept, spare_in, takes}
use Rattle.client_cache.specs.declared.table.Flags.{Flags}
use Rattle.client_cache.specs.Plain.{way_of, way_asked, way_found, way_looked}
use Rattle.client_cache.specs.declared.steps.Way.{Way}
use Rattle.client_cache.specs.declared.steps.Way.TheVariants.{Given, Asks}
use Rattle.proof_cache.specs.Caching.{Caching}
use Rattle.proof_cache.specs.Laws.{found_for, found_asking, spare_asking, spare_for, spare_looked}

-- It finds something, or is handed on with what it has to spare.
pub data Ways (r : Request) (x : Way × Table) (spare : Option Spare) (f : Found) : Type 0 where
  Finds : (o : Outcome) → x.0 ≡ Given o → f.answer ≡ Some o → x.1 ≡ f.table → Ways r x spare f
  Goes_on : (m : List ℕ) → composed r ≡ Ok m → x.0 ≡ Asks (kept_key r) spare → (kept_key r ≡ None → spare ≡ None) → f.answer ≡ None → x.1 ≡ f.table → Ways r x spare f

-- what a message asks, by its key
abbrev asking : List ℕ → Key → Asked
asking m k = record { key = k; name = (question_or (sole_question m)).name }

module _ (g : Caching) (r : Request) (octets : IsOfOctets r) (now : ℕ) (t : Table) where
  abbrev pub way_at : Outcome → Way × Table
  way_at o = way_of g.cache r.header (is_dnssec_ok r) now t o

  abbrev pub found_at : Outcome → Found
  found_at o = found_for g.cache r.header (is_dnssec_ok r) now t o

  abbrev pub spare_at : Outcome → Option Spare
  spare_at o = spare_for g.cache r.header (is_dnssec_ok r) now t o

  pub ways : (o : Outcome) → composed r ≡ o → Ways r (way_at o) (spare_at o) (found_at o)
  ways (Err e) made = Finds (Err e) refl refl refl
  ways (Ok m) made = by (key_in r.header (is_dnssec_ok r) m) (asked_in r.header (is_dnssec_ok r) m) refl refl
    where
      key_is : key_in r.header (is_dnssec_ok r) m ≡ kept_key r
      key_is = keys_are_of_requests.of_message r m octets (composed_says r m octets made)

      by : (k : Option Key) (a : Option Asked) → key_in r.header (is_dnssec_ok r) m ≡ k → asked_in r.header (is_dnssec_ok r) m ≡ a → Ways r (way_asked g.cache now t a) (spare_asking g.cache now t a) (found_asking g.cache now t a)
      by None None is asked = Goes_on m made (ap (λ k. Asks k None) (sym is ∙ key_is)) (λ none. refl) refl refl
      by None (Some a) is asked = absurd (none_asked (key_in r.header (is_dnssec_ok r) m) is asked)
        where
          none_asked : (k : Option Key) → k ≡ None → option_map (asking m) k ≡ Some a → ⊥
          none_asked k e f = cc
      by (Some k) None is asked = absurd (some_asked (key_in r.header (is_dnssec_ok r) m) is asked)
        where
          some_asked : (x : Option Key) → x ≡ Some k → option_map (asking m) x ≡ None → ⊥
          some_asked x e f = cc
      by (Some k) (Some a) is asked = looked (first_kept t a.key)
        where
          same : (x : Option Key) → x ≡ Some k → option_map (asking m) x ≡ Some a → k ≡ a.key
          same x e f = cc

          key_of : Some a.key ≡ kept_key r
          key_of = ap Some (sym (same (key_in r.header (is_dnssec_ok r) m) is asked)) ∙ (sym is ∙ key_is)

          some_key : {k : Key} {x : Option Key} → Some k ≡ x → x ≡ None → ⊥
          some_key p q = cc

          looked : (f : Option Flags) → Ways r (way_looked g.cache a now t f) (spare_looked g.cache a now t f) (takes g.cache a now t f)
          looked None = Goes_on m made (ap (λ k. Asks k None) key_of) (λ none. refl) refl refl
          looked (Some f) = finds (takes g.cache a now t (Some f)).answer refl
            where
              seen : Found
              seen = takes g.cache a now t (Some f)

              finds : (o : Option Outcome) → seen.answer ≡ o → Ways r (way_found g.cache a seen.table seen.answer, seen.table) (spare_in g.cache a seen.table) seen
              finds None e = Goes_on m made (ap (way_found g.cache a seen.table) e ∙ ap (λ k. Asks k (spare_in g.cache a seen.table)) key_of) (λ none. absurd (some_key key_of none)) e refl
              finds (Some o) e = Finds o (ap (way_found g.cache a seen.table) e) e refl

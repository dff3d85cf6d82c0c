-- What stands at each of several servers, and which lists of them are fit.
use Rattle.std.proofs.Common.{◌≡◌, ◌≢◌, ℕ, zero, suc, pred, ◌⊎◌, inl, inr, List, [], ◌∷◌, length, Option, Some, None, refl, sym, ap, subst, ◌∙◌, slice_get}
use Rattle.std.proofs.lemmas.List.{map-set, length-map}
use Rattle.std.proofs.lemmas.Option.{slice_get-map}
use Rattle.std.specs.Prelude.{set, option_map, option_and_then}
use Rattle.client_choice.specs.Servers.{Server}
use Rattle.proof_cutting.specs.Choices.{octets_or, servers_octets, longer_servers, AreFitServers}

module _ {A : Type 0} where
  pub set_same : (xs : List A) (i : ℕ) (a : A) → slice_get xs i ≡ Some a → set xs i a ≡ xs
  set_same [] i a e = refl
  set_same (x ∷ xs) zero a e = cc
  set_same (x ∷ xs) (suc i) a e = ap (λ (ys : List A). x ∷ ys) (set_same xs i a e)

  -- an element of the list is the one that was set, or it was there
  pub set_was : (xs : List A) (i j : ℕ) (a b : A) → slice_get (set xs i b) j ≡ Some a → ((i ≡ j) × (b ≡ a)) ⊎ ((i ≡ j → ⊥) × (slice_get xs j ≡ Some a))
  set_was [] i j a b e = absurd (cc)
  set_was (x ∷ xs) zero zero a b e = inl (refl, cc)
  set_was (x ∷ xs) zero (suc j) a b e = inr (λ q. absurd (cc), e)
  set_was (x ∷ xs) (suc i) zero a b e = inr (λ q. absurd (cc), e)
  set_was (x ∷ xs) (suc i) (suc j) a b e = elim (set_was xs i j a b e) [ inl h ↦ inl (ap suc h.0, h.1) | inr h ↦ inr (λ q. h.0 (ap pred q), h.1) ]

module _ {U : Type 0} (longer : List ℕ → U → U) (piece : List ℕ) where
  abbrev pub longer_one : Server U → Server U
  longer_one s = record s { upstream = longer piece s.upstream }

  pub longer_get : (servers : List (Server U)) (i : ℕ) → slice_get (longer_servers longer piece servers) i ≡ option_map longer_one (slice_get servers i)
  longer_get servers i = slice_get-map longer_one servers i

  pub longer_set : (servers : List (Server U)) (i : ℕ) (s : Server U) → set (longer_servers longer piece servers) i (longer_one s) ≡ longer_servers longer piece (set servers i s)
  longer_set servers i s = sym (map-set longer_one servers i s)

  pub longer_length : (servers : List (Server U)) → length (longer_servers longer piece servers) ≡ length servers
  longer_length servers = length-map servers longer_one

module _ {U : Type 0} (octets : U → Option (List ℕ)) where
  abbrev pub seen : List (Server U) → ℕ → Option (List ℕ)
  seen servers i = option_and_then (λ (s : Server U). octets s.upstream) (slice_get servers i)

  pub seen_at : (servers : List (Server U)) (i : ℕ) (s : Server U) → slice_get servers i ≡ Some s → seen servers i ≡ octets s.upstream
  seen_at servers i s at = ap (option_and_then (λ (s : Server U). octets s.upstream)) at

  -- whose octets are seen
  pub whose : (servers : List (Server U)) (i : ℕ) → seen servers i ≢ None → (s : Server U) × (slice_get servers i ≡ Some s) × (octets s.upstream ≢ None)
  whose servers i some = by (slice_get servers i) refl some
    where
      by : (o : Option (Server U)) → slice_get servers i ≡ o → option_and_then (λ (s : Server U). octets s.upstream) o ≢ None → (s : Server U) × (slice_get servers i ≡ Some s) × (octets s.upstream ≢ None)
      by None at some = absurd (some refl)
      by (Some s) at some = (s, at, some)

  pub none_of : (servers : List (Server U)) → ((i : ℕ) → seen servers i ≡ None) → servers_octets octets servers ≡ None
  none_of [] none = refl
  none_of (s ∷ more) none = ap (λ o. octets_or o (servers_octets octets more)) (none zero) ∙ none_of more (λ i. none (suc i))

  pub first_of_all : (servers : List (Server U)) (k : ℕ) (o : List ℕ) → seen servers k ≡ Some o → ((i : ℕ) → (k ≡ i → ⊥) → seen servers i ≡ None) → servers_octets octets servers ≡ Some o
  first_of_all [] k o at none = at
  first_of_all (s ∷ more) zero o at none = ap (λ o. octets_or o (servers_octets octets more)) at
  first_of_all (s ∷ more) (suc k) o at none = ap (λ o. octets_or o (servers_octets octets more)) (none zero (λ q. absurd (cc))) ∙ first_of_all more k o at (λ i ne. none (suc i) (λ q. ne (ap pred q)))

  -- where the first stand, if any do
  pub stand_at : (servers : List (Server U)) → ((i : ℕ) → seen servers i ≡ None) ⊎ ((k : ℕ) × (o : List ℕ) × (seen servers k ≡ Some o) × (servers_octets octets servers ≡ Some o))
  stand_at [] = inl (λ i. refl)
  stand_at (s ∷ more) = by (octets s.upstream) refl (stand_at more)
    where
      by : (o : Option (List ℕ)) → octets s.upstream ≡ o → ((i : ℕ) → seen more i ≡ None) ⊎ ((k : ℕ) × (o : List ℕ) × (seen more k ≡ Some o) × (servers_octets octets more ≡ Some o))
          → ((i : ℕ) → seen (s ∷ more) i ≡ None) ⊎ ((k : ℕ) × (o : List ℕ) × (seen (s ∷ more) k ≡ Some o) × (servers_octets octets (s ∷ more) ≡ Some o))
      by (Some o) e rest = inr (zero, o, e, ap (λ o. octets_or o (servers_octets octets more)) e)
      by None e (inl none) = inl (each none)
        where
          each : ((i : ℕ) → seen more i ≡ None) → (i : ℕ) → seen (s ∷ more) i ≡ None
          each none zero = e
          each none (suc i) = none i
      by None e (inr there) = inr (suc there.0, there.1, there.2, ap (λ o. octets_or o (servers_octets octets more)) e ∙ there.3)

  module _ (IsFit : U → (timer : ℕ) → Type 0) where
    pub alone_seen : (servers : List (Server U)) (n : ℕ) → AreFitServers octets IsFit servers n → (i j : ℕ) → seen servers i ≢ None → seen servers j ≢ None → i ≡ j
    alone_seen servers n f i j a b =
        let x = whose servers i a in
        let y = whose servers j b in
        f.alone i j x.0 y.0 x.1 y.1 x.2 y.2

    -- One server is as fit as it was, and has no place that it had not.
    pub fit_set : (servers : List (Server U)) (n m k : ℕ) (s t : Server U) → ((u : U) → IsFit u n → IsFit u m) → slice_get servers k ≡ Some s → IsFit t.upstream m → t.posted ≡ []
        → (octets t.upstream ≢ None → octets s.upstream ≢ None) → AreFitServers octets IsFit servers n → AreFitServers octets IsFit (set servers k t) m
    fit_set servers n m k s t later at fit posted had f = record {
      fit = λ i x is. elim (set_was servers k i x t is) [
        | inl h ↦ subst (λ (x : Server U). IsFit x.upstream m × (x.posted ≡ [])) h.1 (fit, posted)
        | inr h ↦ (let g = f.fit i x h.1 in (later x.upstream g.0, g.1))
      ];
      alone = λ i j a b is it na nb. (let x = was i a is na in let y = was j b it nb in f.alone i j x.0 y.0 x.1 y.1 x.2 y.2);
    }
      where
        was : (i : ℕ) (x : Server U) → slice_get (set servers k t) i ≡ Some x → octets x.upstream ≢ None → (a : Server U) × (slice_get servers i ≡ Some a) × (octets a.upstream ≢ None)
        was i x is some = elim (set_was servers k i x t is) [
          | inl h ↦ (s, subst (λ i. slice_get servers i ≡ Some s) h.0 at, had (subst (λ (x : Server U). octets x.upstream ≢ None) (sym h.1) some))
          | inr h ↦ (x, h.1, some)
        ]

    pub fit_later : (servers : List (Server U)) (n m : ℕ) → ((u : U) → IsFit u n → IsFit u m) → AreFitServers octets IsFit servers n → AreFitServers octets IsFit servers m
    fit_later servers n m later f = record {
      fit = λ i s at. (let g = f.fit i s at in (later s.upstream g.0, g.1));
      alone = f.alone;
    }

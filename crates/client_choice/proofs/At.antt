-- One server of the list is changed, and the others stay as they are.
use Rattle.std.proofs.Common.{◌≡◌, ℕ, zero, suc, ◌<◌, ◌∙◌, ap, refl, List, [], ◌∷◌, length, Bool, true, false, Some, slice_index_or, slice_set, slice_get, ◌||◌, Result, Ok, Err, OnOk}
use Rattle.std.proofs.Math.Seq.{map-set_same}
use Rattle.std.proofs.lemmas.Option.{slice_get_read}
use Rattle.client_choice.specs.Servers.{Server, flags, holds_failed}

module _ {A : Type 0} where
  pub set_here : (xs : List A) (i : ℕ) (a b : A) → slice_get xs i ≡ Some a → slice_get (slice_set xs i b) i ≡ Some b
  set_here [] i a b e = absurd (cc)
  set_here (x ∷ xs) zero a b e = refl
  set_here (x ∷ xs) (suc i) a b e = set_here xs i a b e

  pub set_there : (xs : List A) (i j : ℕ) (b : A) → (i ≡ j → ⊥) → slice_get (slice_set xs i b) j ≡ slice_get xs j
  set_there [] i j b ne = refl
  set_there (x ∷ xs) zero zero b ne = absurd (ne refl)
  set_there (x ∷ xs) zero (suc j) b ne = refl
  set_there (x ∷ xs) (suc i) zero b ne = refl
  set_there (x ∷ xs) (suc i) (suc j) b ne = set_there xs i j b (λ e. ne (ap suc e))

-- of each server is known what was known, where that is so of the one that is changed
pub kept_at : {U : Type 0} (f : U → Bool) (servers : List (Server U)) (i : ℕ) (old new : Server U) → old ≡ slice_index_or servers i old → f new.upstream ≡ f old.upstream → flags f (slice_set servers i new) ≡ flags f servers
kept_at f servers i old new at same = map-set_same (λ s. f s.upstream) servers i new old (same ∙ ap (λ s. f s.upstream) at)

or_true : (b : Bool) → (b || true) ≡ true
or_true true = refl
or_true false = refl

-- one gave up where that one did
pub any_at : {U : Type 0} (f : U → Bool) (servers : List (Server U)) (i : ℕ) (s : Server U) → slice_get servers i ≡ Some s → f s.upstream ≡ true → holds_failed f servers ≡ true
any_at f [] i s at is = absurd (cc)
any_at f (x ∷ servers) zero s at is = let e : x ≡ s = cc in rw e (rw is refl)
any_at f (x ∷ servers) (suc i) s at is = rw (any_at f servers i s at is) (or_true (f x.upstream))

pub found_at : {U : Type 0} (servers : List (Server U)) (i : ℕ) (s : Server U) → i < length servers → s ≡ slice_index_or servers i s → slice_get servers i ≡ Some s
found_at servers i s within at = slice_get_read servers (length servers) i s refl within at

-- the same where a call was Ok
pub kept_on : {A E U : Type 0} (r : Result A E) (f : U → Bool) (servers : List (Server U)) (i : ℕ) (old new : Server U) → old ≡ slice_index_or servers i old → OnOk r (f new.upstream ≡ f old.upstream) → OnOk r (flags f (slice_set servers i new) ≡ flags f servers)
kept_on (Ok x) f servers i old new at same = kept_at f servers i old new at same
kept_on (Err e) f servers i old new at same = tt

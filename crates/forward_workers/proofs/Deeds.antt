-- What is done, and then more.
use Rattle.std.proofs.Common.{◌≡◌, ℕ, zero, suc, ◌+◌, List, [], ◌∷◌, ◌++◌, length, take, Option, Some, None, refl, ap, sym, ◌∙◌, append_assoc, arith}
use Rattle.std.specs.List.{flat_map}
use Rattle.forward_run.specs.Front.{after_deeds}
use Rattle.forward_run.specs.declared.front.FrontDeed.{FrontDeed}

pub nil_behind : {A : Type 0} (xs : List A) → xs ++ [] ≡ xs
nil_behind [] = refl
nil_behind {A} (x ∷ xs) = ap (λ (ys : List A). x ∷ ys) (nil_behind xs)

pub no_deeds : (told : Option (List FrontDeed)) → told ≡ after_deeds [] told
no_deeds None = refl
no_deeds (Some before) = ap Some (sym (nil_behind before))

pub more_deeds : (first second : List FrontDeed) (a b c : Option (List FrontDeed)) → b ≡ after_deeds first a → c ≡ after_deeds second b → c ≡ after_deeds (first ++ second) a
more_deeds first second a b c f s = s ∙ ap (after_deeds second) f ∙ joined a
  where
    joined : (told : Option (List FrontDeed)) → after_deeds second (after_deeds first told) ≡ after_deeds (first ++ second) told
    joined None = refl
    joined (Some before) = ap Some (append_assoc before first second)

module _ {A B : Type 0} (f : A → List B) where
  pub flat_more : (xs ys : List A) → flat_map f (xs ++ ys) ≡ flat_map f xs ++ flat_map f ys
  flat_more [] ys = refl
  flat_more (x ∷ xs) ys = ap (λ (zs : List B). f x ++ zs) (flat_more xs ys) ∙ sym (append_assoc (f x) (flat_map f xs) (flat_map f ys))

module _ {A : Type 0} where
  pub take_front : (xs ys : List A) (k rest : ℕ) → k + rest ≡ length xs → take k (xs ++ ys) ≡ take k xs
  take_front xs ys zero rest is = refl
  take_front [] ys (suc k) rest is = absurd (omega (arith, is))
  take_front (x ∷ xs) ys (suc k) rest is = ap (λ (zs : List A). x ∷ zs) (take_front xs ys k rest (omega (arith, is)))

  pub take_whole : (xs ys : List A) → take (length xs) (xs ++ ys) ≡ xs
  take_whole [] ys = refl
  take_whole (x ∷ xs) ys = ap (λ (zs : List A). x ∷ zs) (take_whole xs ys)

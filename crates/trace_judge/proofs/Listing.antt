-- What is left of a list behind so many.
use Rattle.std.proofs.Common.{◌≡◌, ◌+◌, ◌<◌, ◌≤◌, length, get_or, ℕ, zero, suc, List, [], ◌∷◌, Some, None, drop, refl, subst, arith}
use Rattle.std.specs.Prelude.{slice_get}

next : {A : Type 0} (n : ℕ) (x : A) (xs : List A) → slice_get xs n ≡ Some x → drop n xs ≡ x ∷ drop (suc n) xs
next n x [] e = absurd (cc)
next zero x (y ∷ ys) e = cc
next (suc n) x (y ∷ ys) e = next n x ys e

pub left_next : {A : Type 0} (n : ℕ) (x : A) (xs : List A) → slice_get xs n ≡ Some x → drop n xs ≡ x ∷ drop (n + 1) xs
left_next n x xs e = let same : suc n ≡ n + 1 = omega arith in subst (λ m. drop n xs ≡ x ∷ drop m xs) same (next n x xs e)

pub none_next : {A : Type 0} (n : ℕ) (xs : List A) → slice_get xs n ≡ None → drop n xs ≡ []
none_next zero [] e = refl
none_next (suc n) [] e = refl
none_next zero (y ∷ ys) e = absurd (cc)
none_next (suc n) (y ∷ ys) e = none_next n ys e

pub none_left : {A : Type 0} (n : ℕ) (xs : List A) → length xs ≤ n → drop n xs ≡ []
none_left zero [] e = refl
none_left (suc n) [] e = refl
none_left zero (y ∷ ys) e = absurd (omega arith)
none_left (suc n) (y ∷ ys) e = none_left n ys (omega arith)

next_at : {A : Type 0} (n : ℕ) (x : A) (xs : List A) → n < length xs → x ≡ get_or xs n x → drop n xs ≡ x ∷ drop (suc n) xs
next_at zero x [] h e = absurd (omega arith)
next_at (suc n) x [] h e = absurd (omega arith)
next_at zero x (y ∷ ys) h e = cc
next_at (suc n) x (y ∷ ys) h e = next_at n x ys (omega arith) e

pub left_at : {A : Type 0} (n : ℕ) (x : A) (xs : List A) → n < length xs → x ≡ get_or xs n x → drop n xs ≡ x ∷ drop (n + 1) xs
left_at n x xs h e = let same : suc n ≡ n + 1 = omega arith in subst (λ m. drop n xs ≡ x ∷ drop m xs) same (next_at n x xs h e)

pub some_left : {A : Type 0} (n : ℕ) (xs : List A) → n < length xs → 0 < length (drop n xs)
some_left zero [] h = absurd (omega arith)
some_left (suc n) [] h = absurd (omega arith)
some_left zero (y ∷ ys) h = omega arith
some_left (suc n) (y ∷ ys) h = some_left n ys (omega arith)

-- Beginnings of one list, and the items of a caller in them.
use Rattle.std.proofs.Common.{◌≡◌, ℕ, suc, ◌+◌, ◌≤◌, ◌==◌, Bool, true, false, List, [], ◌∷◌, ◌++◌, length, refl, ap, sym, ◌∙◌, arith, append_assoc, length-append}
use Rattle.std.specs.Prelude.{if◌then◌else◌}
use Rattle.std.proofs.lemmas.List.{append-nil}
use mathlib.Core.List.{IsPrefix}
use Rattle.joint_history.specs.Views.{own_from, own}

module _ {A : Type 0} where
  pub prefix_self : (xs : List A) → IsPrefix xs xs
  prefix_self xs = ([], append-nil xs)

  pub prefix_front : (xs ys : List A) → IsPrefix xs (xs ++ ys)
  prefix_front xs ys = (ys, refl)

  pub prefix_trans : (xs ys zs : List A) → IsPrefix xs ys → IsPrefix ys zs → IsPrefix xs zs
  prefix_trans xs ys zs p q = (p.0 ++ q.0, sym (append_assoc xs p.0 q.0) ∙ (ap (λ w. w ++ q.0) p.1 ∙ q.1))

  -- of two beginnings of one list the shorter begins the longer
  pub prefix_shorter : (xs ys zs : List A) → IsPrefix xs zs → IsPrefix ys zs → length xs ≤ length ys → IsPrefix xs ys
  prefix_shorter [] ys zs p q le = (ys, refl)
  prefix_shorter (x ∷ xs) [] zs p q le = absurd (omega arith)
  prefix_shorter (x ∷ xs) (y ∷ ys) [] p q le = absurd (cc (p.1))
  prefix_shorter (x ∷ xs) (y ∷ ys) (z ∷ zs) p q le =
      let heads : x ≡ y = cc (p.1, q.1) in
      let rest = prefix_shorter xs ys zs (p.0, cc (p.1)) (q.0, cc (q.1)) (omega arith) in
      (rest.0, cc (heads, rest.1))

  pub prefix_length : (xs ys : List A) → IsPrefix xs ys → length xs ≤ length ys
  prefix_length xs ys p = omega (arith, sym (ap length p.1) ∙ length-append xs p.0)

  none_left : (xs ys : List A) → length (xs ++ ys) ≤ length xs → ys ≡ []
  none_left xs [] le = refl
  none_left xs (y ∷ ys) le = absurd (omega (arith, length-append xs (y ∷ ys)))

  -- what is added twice leaves the list as it was only if nothing is added
  pub between : (xs ys zs : List A) → (xs ++ ys) ++ zs ≡ xs → xs ++ ys ≡ xs
  between xs ys zs e =
      let le : length (xs ++ ys) ≤ length xs = omega (arith, sym (length-append (xs ++ ys) zs) ∙ ap length e) in
      ap (λ w. xs ++ w) (none_left xs ys le) ∙ append-nil xs

module _ {E : Type 0} (by : E → ℕ) (n : ℕ) where
  own_if : (b : Bool) (k : ℕ) (e : E) (xs ys : List (ℕ × E)) → (if b then ((k, e) ∷ (xs ++ ys)) else (xs ++ ys)) ≡ (if b then ((k, e) ∷ xs) else xs) ++ ys
  own_if true k e xs ys = refl
  own_if false k e xs ys = refl

  pub own_from-append : (k : ℕ) (xs ys : List E) → own_from by n k (xs ++ ys) ≡ own_from by n k xs ++ own_from by n (k + length xs) ys
  own_from-append k [] ys = ap (λ m. own_from by n m ys) (omega arith)
  own_from-append k (x ∷ xs) ys =
      let rest = own_from-append (suc k) xs ys in
      let at : suc k + length xs ≡ k + length (x ∷ xs) = omega arith in
      ap (λ w. if by x == n then (k, x) ∷ w else w) (rest ∙ ap (λ m. own_from by n (suc k) xs ++ own_from by n m ys) at)
      ∙ own_if (by x == n) k x (own_from by n (suc k) xs) (own_from by n (k + length (x ∷ xs)) ys)

  pub own-append : (xs ys : List E) → own by n (xs ++ ys) ≡ own by n xs ++ own_from by n (length xs) ys
  own-append xs ys = own_from-append 0 xs ys ∙ ap (λ m. own by n xs ++ own_from by n m ys) (omega arith)

  -- where no item of the caller came from a to c, none came from a to b
  pub own_between : (a b c : List E) → IsPrefix a b → IsPrefix b c → own by n c ≡ own by n a → own by n b ≡ own by n a
  own_between a b c p q e =
      let to_b : own by n b ≡ own by n a ++ own_from by n (length a) p.0 = sym (ap (own by n) p.1) ∙ own-append a p.0 in
      let to_c : own by n c ≡ own by n b ++ own_from by n (length b) q.0 = sym (ap (own by n) q.1) ∙ own-append b q.0 in
      to_b ∙ between (own by n a) (own_from by n (length a) p.0) (own_from by n (length b) q.0) (ap (λ w. w ++ own_from by n (length b) q.0) (sym to_b) ∙ (sym to_c ∙ e))

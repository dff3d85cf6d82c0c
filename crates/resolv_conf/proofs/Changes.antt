-- A list of servers that is changed in place, one after another.
use Rattle.std.proofs.Common.{◌≡◌, ◌++◌, ◌<◌, ◌+◌, ℕ, zero, suc, List, [], ◌∷◌, map, take, drop, length, get_or, refl, ap, ◌∙◌, arith}
use Rattle.std.proofs.Math.ListN.{set}

changed_at : {A : Type 0} (f : A → A) (xs : List A) (i : ℕ) (d : A) → i < length xs
    → set (map f (take i xs) ++ drop i xs) i (f (get_or (map f (take i xs) ++ drop i xs) i d)) ≡ map f (take (suc i) xs) ++ drop (suc i) xs
changed_at f [] i d h = absurd (omega arith)
changed_at f (x ∷ xs) zero d h = refl
changed_at f (x ∷ xs) (suc i) d h = ap (λ t. f x ∷ t) (changed_at f xs i d (let inner : i < length xs = omega arith in inner))

pub changed : {A : Type 0} (f : A → A) (xs ys : List A) (i : ℕ) (d : A) → i < length xs → ys ≡ map f (take i xs) ++ drop i xs
    → set ys i (f (get_or ys i d)) ≡ map f (take (i + 1) xs) ++ drop (i + 1) xs
changed f xs ys i d h e =
    ap (λ t. set t i (f (get_or t i d))) e ∙ changed_at f xs i d h
    ∙ ap (λ n. map f (take n xs) ++ drop n xs) (let more : suc i ≡ i + 1 = omega arith in more)

-- Numbers of at most five digits, two digits at a time.
use Rattle.std.proofs.Common.{◌≡◌, sym, ap, ◌∙◌, ◌<◌, ◌≤◌, ◌+◌, ◌-◌, ◌*◌, ◌/◌, ◌%◌, ℕ, zero, suc, Bool, true, ◌&&◌, T, eqb, List, [], ◌∷◌, ◌++◌, get_or, refl, inl, inr, arith, eq-zero-or-pos, eqb→eq, append_assoc}
use Rattle.std.proofs.lemmas.Fmt.{decimal_digit, decimal_step}
use Rattle.std.specs.Fmt.{decimal}
use lib.Ieee.Fits.{and_l, and_r}
use Rattle.dns_script.specs.declared.words.TheConstants.{PAIRS}

-- the two digits of a number below 100
abbrev pub pair : ℕ → List ℕ
pair p = (48 + p / 10) ∷ (48 + p % 10) ∷ []

abbrev are_pairs : ℕ → Bool
are_pairs zero = true
are_pairs (suc p) = (eqb (get_or PAIRS (p * 2) 0) (48 + p / 10) && eqb (get_or PAIRS (p * 2 + 1) 0) (48 + p % 10)) && are_pairs p

below : (n p : ℕ) → T (are_pairs n) → p < n → (get_or PAIRS (p * 2) 0 ≡ 48 + p / 10) × (get_or PAIRS (p * 2 + 1) 0 ≡ 48 + p % 10)
below zero p t h = absurd (omega arith)
below (suc n) p t h =
    elim (eq-zero-or-pos (n - p)) [
      | inl z ↦ let e : p ≡ n = omega arith in let a = and_l _ (are_pairs n) t in rw e (eqb→eq _ _ (and_l _ _ a), eqb→eq _ _ (and_r _ _ a))
      | inr g ↦ below n p (and_r _ (are_pairs n) t) (omega arith)
    ]

pub pair_stands : (p : ℕ) → p < 100 → (get_or PAIRS (p * 2) 0 ≡ 48 + p / 10) × (get_or PAIRS (p * 2 + 1) 0 ≡ 48 + p % 10)
pair_stands p h = below 100 p tt h

pub of_two : (n : ℕ) → 10 ≤ n → n < 100 → decimal n ≡ pair n
of_two n more few = rw (decimal_step n more (omega arith), decimal_digit (n / 10) (omega arith))

pair_behind : (n : ℕ) → 100 ≤ n → n < 100000 → decimal n ≡ decimal (n / 100) ++ pair (n % 100)
pair_behind n more few =
    let a : n / 10 / 10 ≡ n / 100 = omega arith in
    let b : n / 10 % 10 ≡ n % 100 / 10 = omega arith in
    let c : n % 10 ≡ n % 100 % 10 = omega arith in
    rw (decimal_step n (omega arith) (omega arith), decimal_step (n / 10) (omega arith) (omega arith), append_assoc, a, b, ← c)

pub of_three : (n : ℕ) → 100 ≤ n → n < 1000 → decimal n ≡ (48 + n / 100) ∷ pair (n % 100)
of_three n more few = rw (pair_behind n more (omega arith), decimal_digit (n / 100) (omega arith))

pub of_four : (n : ℕ) → 1000 ≤ n → n < 10000 → decimal n ≡ pair (n / 100) ++ pair (n % 100)
of_four n more few = rw (pair_behind n (omega arith) (omega arith), of_two (n / 100) (omega arith) (omega arith))

pub of_five : (n : ℕ) → 10000 ≤ n → n < 100000 → decimal n ≡ (48 + n / 100 / 100) ∷ pair (n / 100 % 100) ++ pair (n % 100)
of_five n more few = rw (pair_behind n (omega arith) (omega arith), of_three (n / 100) (omega arith) (omega arith))

pub one_added : (n behind : ℕ) → n < 10 → (48 + n) ∷ behind ∷ [] ≡ decimal n ++ behind ∷ []
one_added n behind few = rw (decimal_digit n few) refl

pub two_added : (n behind : ℕ) (ones : List ℕ) → ones ≡ pair (n % 100) → 10 ≤ n → n < 100 → get_or ones 0 0 ∷ get_or ones 1 0 ∷ behind ∷ [] ≡ decimal n ++ behind ∷ []
two_added n behind ones are more few =
    let same : n % 100 ≡ n = omega arith in
    rw (are, of_two n more few, same) refl

pub three_added : (n behind : ℕ) (ones : List ℕ) → ones ≡ pair (n % 100) → 100 ≤ n → n < 1000 → (48 + n / 100) ∷ get_or ones 0 0 ∷ get_or ones 1 0 ∷ behind ∷ [] ≡ decimal n ++ behind ∷ []
three_added n behind ones are more few = rw (are, of_three n more few) refl

pub four_added : (n behind : ℕ) (ones hundreds : List ℕ) → ones ≡ pair (n % 100) → hundreds ≡ pair (n / 100 % 100) → 1000 ≤ n → n < 10000
    → get_or hundreds 0 0 ∷ get_or hundreds 1 0 ∷ get_or ones 0 0 ∷ get_or ones 1 0 ∷ behind ∷ [] ≡ decimal n ++ behind ∷ []
four_added n behind ones hundreds are stand more few =
    let same : n / 100 % 100 ≡ n / 100 = omega arith in
    rw (are, stand, of_four n more few, same) refl

pub five_added : (n behind : ℕ) (ones hundreds : List ℕ) → ones ≡ pair (n % 100) → hundreds ≡ pair (n / 100 % 100) → 10000 ≤ n → n < 100000
    → (48 + n / 100 / 100) ∷ get_or hundreds 0 0 ∷ get_or hundreds 1 0 ∷ get_or ones 0 0 ∷ get_or ones 1 0 ∷ behind ∷ [] ≡ decimal n ++ behind ∷ []
five_added n behind ones hundreds are stand more few = rw (are, stand, of_five n more few) refl

-- the digits and the octet behind them were added
pub number_stands : (new old more digits : List ℕ) (behind : ℕ) → new ≡ old ++ more → more ≡ digits ++ behind ∷ [] → new ≡ old ++ digits ++ behind ∷ []
number_stands new old more digits behind added same = added ∙ ap (λ more. old ++ more) same ∙ sym (append_assoc old digits (behind ∷ []))

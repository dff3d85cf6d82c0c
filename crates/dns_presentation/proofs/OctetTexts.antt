-- What digits write of an octet is read as that octet.
use Rattle.std.proofs.Common.{◌≡◌, ◌≤◌, ◌<◌, ◌+◌, ◌/◌, ◌%◌, ◌^◌, ℕ, List, [], ◌∷◌, refl, ap, arith, Bool, true, false, inl, inr, ◌⊎◌}
use Rattle.std.specs.Prelude.{Some, ◌&&◌, ◌||◌, nat_lt}
use Rattle.std.specs.List.{AllByRecursion}
use Rattle.std.proofs.lemmas.Bool.{le-leb, lt-leb, ltb-true, ltb-false}
use Rattle.dns_names.specs.Text.{is_digit, three_digits}
use Rattle.dns_presentation.specs.Octets.{hex_digit, hex_text, hex_value, octets_of_hex}

pub three_are : (n : ℕ) → n < 256 → three_digits (48 + n / 100) (48 + n / 10 % 10) (48 + n % 10) ≡ n
three_are n h = omega arith

pub digit_is : (d : ℕ) → d < 10 → is_digit (48 + d) ≡ true
digit_is d h =
    let low : 48 ≤ 48 + d = omega arith in
    let high : 48 + d ≤ 57 = omega arith in
    rw (le-leb 48 (48 + d) low, le-leb (48 + d) 57 high) refl

pub one_of : (a b : Bool) → (a || b) ≡ true → (a ≡ true) ⊎ (b ≡ true)
one_of true b e = inl refl
one_of false b e = inr e

pub neither : (a b : Bool) → (a || b) ≡ false → (a ≡ false) × (b ≡ false)
neither true b e = absurd cc
neither false b e = (refl, e)

pub both : (a b : Bool) → (a && b) ≡ true → (a ≡ true) × (b ≡ true)
both true true e = (refl, refl)
both true false e = absurd cc
both false b e = absurd cc

-- a hexadecimal digit
low_digit : (d : ℕ) → d < 10 → hex_value (48 + d) ≡ Some d
low_digit d h =
    let low : 48 ≤ 48 + d = omega arith in
    let high : 48 + d ≤ 57 = omega arith in
    rw (le-leb 48 (48 + d) low, le-leb (48 + d) 57 high) (ap Some (omega arith))

high_digit : (d : ℕ) → 10 ≤ d → d < 16 → hex_value (55 + d) ≡ Some d
high_digit d ten h =
    let low : 48 ≤ 55 + d = omega arith in
    let past : 57 < 55 + d = omega arith in
    let from : 65 ≤ 55 + d = omega arith in
    let to : 55 + d ≤ 70 = omega arith in
    rw (le-leb 48 (55 + d) low, lt-leb (55 + d) 57 past, le-leb 65 (55 + d) from, le-leb (55 + d) 70 to) (ap Some (omega arith))

digit_back : (d : ℕ) → d < 16 → hex_value (hex_digit d) ≡ Some d
digit_back d h = go (nat_lt d 10) refl
  where
    go : (b : Bool) → nat_lt d 10 ≡ b → hex_value (hex_digit d) ≡ Some d
    go true e = rw e (low_digit d (ltb-true d 10 e))
    go false e = rw e (high_digit d (ltb-false d 10 e) h)

pub hex_back : (octets : List ℕ) → AllByRecursion (λ n. n < 2 ^ 8) octets → octets_of_hex (hex_text octets) ≡ Some octets
unfolding octets_of_hex
hex_back [] h = refl
hex_back (n ∷ octets) h =
    let small : n < 256 = h.0 in
    let high : n / 16 < 16 = omega arith in
    let low : n % 16 < 16 = omega arith in
    rw (digit_back (n / 16) high, digit_back (n % 16) low, hex_back octets h.1) (ap (λ m. Some (m ∷ octets)) (omega arith))

-- What generic data prints is read as that data.
use Rattle.std.proofs.Common.{◌≡◌, ◌<◌, ◌+◌, ◌*◌, ◌/◌, ◌%◌, ◌^◌, ℕ, List, [], ◌∷◌, ◌++◌, length, refl, ◌∙◌, ap, arith, append_assoc, decimal}
use Rattle.std.specs.Prelude.{Some, option_and_then}
use Rattle.std.specs.List.{AllByRecursion}
use Rattle.std.proofs.lemmas.Bool.{eq-eqb}
use Rattle.std.proofs.lemmas.Fmt.{decimal_by_steps}
use Rattle.dns_presentation.specs.Generic.{digits_behind, generic_text, read_number, read_digits, counted, read_counted, read_generic}
use Rattle.dns_presentation.proofs.OctetTexts.{digit_is, hex_back}

one_digit : (a d : ℕ) (rest : List ℕ) → d < 10 → read_number a ((48 + d) ∷ rest) ≡ read_number (10 * a + d) rest
unfolding read_number
one_digit a d rest h = rw (digit_is d h) (ap (λ m. read_number m rest) (omega arith))

number_read : (n : ℕ) → n < 2 ^ 64 → (rest : List ℕ) → read_number 0 (decimal n ++ rest) ≡ read_number n rest
number_read = decimal_by_steps (λ n digits. (rest : List ℕ) → read_number 0 (digits ++ rest) ≡ read_number n rest)
    (λ n h rest. let same : 10 * 0 + n ≡ n = omega arith in one_digit 0 n rest h ∙ ap (λ m. read_number m rest) same)
    (λ n digits ten front rest.
    let last : n % 10 < 10 = omega arith in
    let same : 10 * (n / 10) + n % 10 ≡ n = omega arith in
    ap (read_number 0) (append_assoc digits ((48 + n % 10) ∷ []) rest)
    ∙ front ((48 + n % 10) ∷ rest) ∙ one_digit (n / 10) (n % 10) rest last ∙ ap (λ m. read_number m rest) same)

stops : (n : ℕ) (octets : List ℕ) → read_number n (digits_behind octets) ≡ (n, digits_behind octets)
unfolding read_number
stops n [] = refl
stops n (m ∷ octets) = refl

digits_read : (octets : List ℕ) → AllByRecursion (λ n. n < 2 ^ 8) octets → read_digits (digits_behind octets) ≡ Some octets
digits_read [] h = refl
digits_read (n ∷ octets) h = hex_back (n ∷ octets) h

are_counted : (octets : List ℕ) → counted (length octets) octets ≡ Some octets
are_counted octets = rw (eq-eqb (length octets) (length octets) refl) refl

pub generic_read : (octets : List ℕ) → AllByRecursion (λ n. n < 2 ^ 8) octets → length octets < 65536 → read_generic (generic_text octets) ≡ Some octets
generic_read octets h few =
    let short : length octets < 2 ^ 64 = omega arith in
    ap read_counted (number_read (length octets) short (digits_behind octets) ∙ stops (length octets) octets)
    ∙ ap (option_and_then (counted (length octets))) (digits_read octets h) ∙ are_counted octets

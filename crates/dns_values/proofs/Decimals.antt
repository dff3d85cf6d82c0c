-- Digits that are read one by one, behind a number so far.
use Rattle.std.proofs.Common.{◌≡◌, ◌<◌, ◌≤◌, ◌+◌, ◌-◌, ◌*◌, ◌^◌, ◌&&◌, ℕ, suc, true, false, nat_le, List, [], ◌∷◌, length, get_or, drop, Option, Some, None, if◌then◌else◌, refl, Bool, decimal, sym, ap, ◌∙◌, arith}
use Rattle.std.specs.Char.{digit_value, is_ascii_digit}
use Rattle.std.specs.Str.{all_ascii_digits}
use Rattle.std.specs.Str.Parse.{digits_value, digits_value_after}
use Rattle.std.proofs.Math.Nat.{pow-le-pow_right}
use Rattle.std.proofs.Math.Seq.{drop-cons}
use Rattle.std.proofs.lemmas.Grind.{pow_more}
use Rattle.std.proofs.lemmas.Bool.{and_parts, and_right, leb-true, lt-leb, le-leb, lt-ltb}
use Rattle.std.proofs.lemmas.List.{drop_all}
use Rattle.std.proofs.lemmas.Option.{cond_some}
use Rattle.std.proofs.lemmas.Bool.Decides.{nat_tests}
use Rattle.std.proofs.lemmas.Fmt.{digits_decimal, digits_value-decimal, decimal_nonempty}
use Rattle.std.proofs.lemmas.Str.Parse.{IsNumeralModel, numerals_by_value, tells_all_ascii_digits}
use Rattle.dns_values.specs.Decimal.{decimal_number, is_decimal}

-- what digits say behind a number, where it is at most the greatest
abbrev pub read_on : (greatest n : ℕ) → List ℕ → Option ℕ
read_on greatest n ds = if all_ascii_digits ds && nat_le (digits_value_after 10 n ds) greatest then Some (digits_value_after 10 n ds) else None

more_digits : (n : ℕ) (ds : List ℕ) → n ≤ digits_value_after 10 n ds
more_digits n [] = omega arith
more_digits n (d ∷ ds) = omega (arith, more_digits (n * 10 + digit_value d) ds)

value_of_digit : (d : ℕ) → is_ascii_digit d ≡ true → digit_value d ≡ d - 48
value_of_digit d e = grind (arith, nat_tests)

pub read_past : (greatest n : ℕ) (ds : List ℕ) → greatest < n → read_on greatest n ds ≡ None
read_past greatest n ds past =
    let great : nat_le (digits_value_after 10 n ds) greatest ≡ false = lt-leb _ _ (omega (arith, more_digits n ds)) in
    rw (and_right (all_ascii_digits ds) (nat_le (digits_value_after 10 n ds) greatest) great) refl

read_digit : (greatest n d : ℕ) (ds : List ℕ) → is_ascii_digit d ≡ true → read_on greatest n (d ∷ ds) ≡ read_on greatest (10 * n + (d - 48)) ds
read_digit greatest n d ds digit =
    let same : n * 10 + digit_value d ≡ 10 * n + (d - 48) = omega (arith, value_of_digit d digit) in
    rw (digit, same) refl

read_other : (greatest n d : ℕ) (ds : List ℕ) → is_ascii_digit d ≡ false → read_on greatest n (d ∷ ds) ≡ None
read_other greatest n d ds other = rw other refl

one_more : (i : ℕ) (ds : List ℕ) → i < length ds → drop i ds ≡ get_or ds i 0 ∷ drop (i + 1) ds
one_more i ds inside =
    let next : suc i ≡ i + 1 = omega arith in
    drop-cons ds i 0 inside ∙ ap (λ k. get_or ds i 0 ∷ drop k ds) next

-- with one digit more
pub digit_more : (greatest n i : ℕ) (ds : List ℕ) → i < length ds → is_ascii_digit (get_or ds i 0) ≡ true → read_on greatest (10 * n + (get_or ds i 0 - 48)) (drop (i + 1) ds) ≡ read_on greatest n (drop i ds)
digit_more greatest n i ds inside digit =
    sym (ap (read_on greatest n) (one_more i ds inside) ∙ read_digit greatest n (get_or ds i 0) (drop (i + 1) ds) digit)

-- where another octet stands
pub no_digit : (greatest n i : ℕ) (ds : List ℕ) → i < length ds → is_ascii_digit (get_or ds i 0) ≡ false → read_on greatest n (drop i ds) ≡ None
no_digit greatest n i ds inside other =
    ap (read_on greatest n) (one_more i ds inside) ∙ read_other greatest n (get_or ds i 0) (drop (i + 1) ds) other

-- where the number gets too great
pub too_great : (greatest n i : ℕ) (ds : List ℕ) → i < length ds → is_ascii_digit (get_or ds i 0) ≡ true → greatest < 10 * n + (get_or ds i 0 - 48) → read_on greatest n (drop i ds) ≡ None
too_great greatest n i ds inside digit past =
    sym (digit_more greatest n i ds inside digit) ∙ read_past greatest (10 * n + (get_or ds i 0 - 48)) (drop (i + 1) ds) past

none_left : (greatest n : ℕ) → n ≤ greatest → read_on greatest n [] ≡ Some n
none_left greatest n fits = rw (le-leb n greatest fits) refl

-- where no octet is left
pub all_read : (greatest n i : ℕ) (ds : List ℕ) → length ds ≤ i → n ≤ greatest → read_on greatest n (drop i ds) ≡ Some n
all_read greatest n i ds end fits = ap (read_on greatest n) (drop_all i ds end) ∙ none_left greatest n fits

pub read_from_first : (greatest : ℕ) (ds : List ℕ) → 0 < length ds → read_on greatest 0 ds ≡ decimal_number greatest ds
unfolding decimal_number
read_from_first greatest ds some = rw (lt-ltb 0 (length ds) some) refl

pub none_empty : (greatest : ℕ) (ds : List ℕ) → length ds ≡ 0 → None ≡ decimal_number greatest ds
unfolding decimal_number
none_empty greatest ds none = rw none refl

pub within_none : (greatest : ℕ) (ds : List ℕ) → greatest < 18446744073709551616 → None ≡ decimal_number 18446744073709551615 ds → None ≡ decimal_number greatest ds
unfolding decimal_number
within_none greatest ds small none = go (is_decimal greatest ds) refl
  where
    go : (b : Bool) → is_decimal greatest ds ≡ b → None ≡ (if b then Some (digits_value 10 ds) else None)
    go false e = refl
    go true e =
        let wide : is_decimal 18446744073709551615 ds ≡ true = grind (arith, nat_tests) in
        none ∙ rw wide refl

pub within_past : (greatest n : ℕ) (ds : List ℕ) → Some n ≡ decimal_number 18446744073709551615 ds → greatest < n → None ≡ decimal_number greatest ds
unfolding decimal_number
within_past greatest n ds some past =
    let is = cond_some (is_decimal 18446744073709551615 ds) (digits_value 10 ds) n (sym some) in
    let over : is_decimal greatest ds ≡ false = grind (arith, nat_tests) in
    rw over refl

pub within_some : (greatest n : ℕ) (ds : List ℕ) → Some n ≡ decimal_number 18446744073709551615 ds → n ≤ greatest → Some n ≡ decimal_number greatest ds
unfolding decimal_number
within_some greatest n ds some within =
    let is = cond_some (is_decimal 18446744073709551615 ds) (digits_value 10 ds) n (sym some) in
    let fits : is_decimal greatest ds ≡ true = grind (arith, nat_tests) in
    rw fits (ap Some (sym is.1))

-- a number of a few digits and one digit more
pub few_digits : (n i : ℕ) → n < 10 ^ i → i < 18 → (10 * n + 9 < 10 ^ (i + 1)) × (10 * n + 9 < 18446744073709551616)
few_digits n i below few =
    let more : 10 ^ (i + 1) ≡ 10 ^ i * 10 = pow_more 10 i in
    let last : i + 1 ≤ 18 = omega arith in
    let most : 10 ^ (i + 1) ≤ 10 ^ 18 = pow-le-pow_right {n = 10} (omega arith) last in
    (omega (arith, more), omega (arith, more, most))

pub digit_at_most : (d : ℕ) → is_ascii_digit d ≡ true → d ≤ 57
digit_at_most d e = leb-true d 57 (and_parts (nat_le 48 d) (nat_le d 57) e).1

own : IsNumeralModel (λ ds. all_ascii_digits ds ≡ true) (digits_value 10)
own = numerals_by_value _ tells_all_ascii_digits

-- What a number prints is read as that number.
pub decimal_is_read : (greatest n : ℕ) → n < 2 ^ 64 → n ≤ greatest → decimal_number greatest (decimal n) ≡ Some n
unfolding decimal_number
decimal_is_read greatest n wide fits =
    let value : digits_value 10 (decimal n) ≡ n = digits_value-decimal own n wide in
    let all : all_ascii_digits (decimal n) ≡ true = digits_decimal own n wide in
    let some : 0 < length (decimal n) = decimal_nonempty n wide in
    rw (lt-ltb 0 (length (decimal n)) some, all, value, le-leb n greatest fits) refl

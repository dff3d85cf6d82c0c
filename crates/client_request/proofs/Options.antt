-- Options, one behind the other.
use Rattle.std.proofs.Common.{◌≡◌, ℕ, zero, suc, ◌+◌, ◌*◌, ◌/◌, ◌%◌, ◌^◌, ◌<◌, List, [], ◌∷◌, ◌++◌, length, refl, subst, arith, true, length-append}
use Rattle.dns_base.specs.Data.{are_options, are_options_after}
use Rattle.client_request.specs.Request.{option_octets}

-- octets that are all counted
all_counted : (octets : List ℕ) → are_options_after (length octets) octets ≡ true
all_counted [] = refl
all_counted (x ∷ octets) = all_counted octets

more_after : (n : ℕ) (xs ys : List ℕ) → are_options_after n xs ≡ true → are_options ys ≡ true → are_options_after n (xs ++ ys) ≡ true
more_after zero [] ys h k = k
more_after zero (_ ∷ []) ys h k = absurd cc
more_after zero (_ ∷ _ ∷ []) ys h k = absurd cc
more_after zero (_ ∷ _ ∷ _ ∷ []) ys h k = absurd cc
more_after zero (_ ∷ _ ∷ high ∷ low ∷ xs) ys h k = more_after (high * 256 + low) xs ys h k
more_after (suc n) [] ys h k = absurd cc
more_after (suc n) (x ∷ xs) ys h k = more_after n xs ys h k

one_option : (code : ℕ) (octets : List ℕ) → length octets < 2 ^ 16 → are_options (option_octets code octets) ≡ true
one_option code octets few =
    let n : ℕ = length octets in
    let P : ℕ → Type 0 = λ count. are_options_after count octets ≡ true in
    let is : n ≡ n / 256 % 256 * 256 + n % 256 = omega arith in
    subst P is (all_counted octets)

-- Options with one more are options.
pub option_added : (options : List ℕ) (code : ℕ) (octets : List ℕ) → are_options options ≡ true → length octets < 2 ^ 16 → are_options (options ++ option_octets code octets) ≡ true
option_added options code octets h few = more_after 0 options (option_octets code octets) h (one_option code octets few)

pub option_long : (options : List ℕ) (code : ℕ) (octets : List ℕ) → length (options ++ option_octets code octets) ≡ length options + 4 + length octets
option_long options code octets = omega (arith, length-append options (option_octets code octets))

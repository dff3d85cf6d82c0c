-- Numbers among the words of a command line.
use Rattle.std.specs.Prelude.{ℕ, ◌==◌, not, Bool, true, if◌then◌else◌, List, [], ◌∷◌, nat_lt, Option, None, Some, option_and_then}
use Rattle.dns_values.specs.Decimal.{decimal_number}

-- no zero stands before more
abbrev pub is_plain : List ℕ → Bool
is_plain [] = true
is_plain (c ∷ []) = true
is_plain (c ∷ d ∷ more) = not (c == 48)

abbrev pub at_least : (least : ℕ) → ℕ → Option ℕ
at_least least n = if nat_lt n least then None else Some n

-- a number of a range, without a sign or a leading zero
abbrev pub number_in : (least greatest : ℕ) → List ℕ → Option ℕ
number_in least greatest word = if is_plain word then option_and_then (at_least least) (decimal_number greatest word) else None

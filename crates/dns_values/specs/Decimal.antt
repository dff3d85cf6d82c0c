-- Decimal numbers.
use Rattle.std.specs.Prelude.{ℕ, Bool, List, length, Option, Some, None, nat_le, nat_lt, ◌&&◌, if◌then◌else◌}
use Rattle.std.specs.Str.{all_ascii_digits}
use Rattle.std.specs.Str.Parse.{digits_value}

-- whether digits alone, one or more, write a number that is at most the greatest
abbrev pub is_decimal : (greatest : ℕ) → List ℕ → Bool
is_decimal greatest digits = nat_lt 0 (length digits) && (all_ascii_digits digits && nat_le (digits_value 10 digits) greatest)

-- The number that digits alone write, one or more, where it is at most the greatest. Zeros may stand first.
unfoldable pub decimal_number : (greatest : ℕ) → List ℕ → Option ℕ
decimal_number greatest digits = if is_decimal greatest digits then Some (digits_value 10 digits) else None

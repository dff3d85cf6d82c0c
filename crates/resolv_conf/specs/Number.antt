-- Unsigned decimal numbers.
use Rattle.std.specs.Prelude.{ℕ, ◌^◌, Bool, List, length, Option, Some, None, nat_lt, ◌&&◌, if◌then◌else◌}
use Rattle.std.specs.Str.{all_ascii_digits}
use Rattle.std.specs.Str.Parse.{digits_value, without_leading_plus}

-- one digit or more, which write a number of 64 bits
abbrev pub is_number : List ℕ → Bool
is_number digits = nat_lt 0 (length digits) && all_ascii_digits digits && nat_lt (digits_value 10 digits) (2 ^ 64)

-- the number that a text writes, where a plus may stand first
unfoldable pub number_of : List ℕ → Option ℕ
number_of text =
    let digits = without_leading_plus text in
    if is_number digits then Some (digits_value 10 digits) else None

-- Octets in base 64 (RFC 4648 4).
use Rattle.std.specs.Prelude.{ℕ, ◌+◌, ◌*◌, ◌/◌, ◌%◌, ◌-◌, ◌==◌, nat_lt, List, [], ◌∷◌, if◌then◌else◌}

-- the digit of a number below 64: upper case, lower case, decimal digits, `+` and `/`
abbrev pub base64_digit : ℕ → ℕ
base64_digit n =
    if nat_lt n 26 then 65 + n
    else if nat_lt n 52 then 97 + (n - 26)
    else if nat_lt n 62 then 48 + (n - 52)
    else if n == 62 then 43
    else 47

-- four digits for three octets; `=` fills the end
abbrev pub base64_text : List ℕ → List ℕ
base64_text [] = []
base64_text (a ∷ []) = base64_digit (a / 4) ∷ base64_digit (a % 4 * 16) ∷ 61 ∷ 61 ∷ []
base64_text (a ∷ b ∷ []) = base64_digit (a / 4) ∷ base64_digit (a % 4 * 16 + b / 16) ∷ base64_digit (b % 16 * 4) ∷ 61 ∷ []
base64_text (a ∷ b ∷ c ∷ octets) =
    base64_digit (a / 4) ∷ base64_digit (a % 4 * 16 + b / 16) ∷ base64_digit (b % 16 * 4 + c / 64) ∷ base64_digit (c % 64) ∷ base64_text octets

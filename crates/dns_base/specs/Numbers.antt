-- Numbers among octets, the highest octet first, and readings one behind the other.
use Rattle.std.specs.Prelude.{ℕ, ◌+◌, List, Option, option_and_then, slice_range}
use Rattle.std.specs.Int.{w16, w32, from_be_bytes}

-- two octets as a number, and four
abbrev pub u16_at : List ℕ → ℕ → ℕ
u16_at octets at = from_be_bytes w16 (slice_range octets at (at + 2))

abbrev pub u32_at : List ℕ → ℕ → ℕ
u32_at octets at = from_be_bytes w32 (slice_range octets at (at + 4))

infixl 10 ◌>>=◌
abbrev pub ◌>>=◌ : {A B : Type 0} → Option A → (A → Option B) → Option B
o >>= f = option_and_then f o

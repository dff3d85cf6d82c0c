-- The first octets of a list as one number.
use Rattle.std.specs.Prelude.{ℕ, zero, suc, ◌+◌, ◌*◌, List, slice_index}

-- so many octets, the highest first, and 0 past the end
abbrev pub octets_from : ℕ → List ℕ → ℕ
octets_from zero octets = 0
octets_from (suc n) octets = octets_from n octets * 256 + slice_index octets n

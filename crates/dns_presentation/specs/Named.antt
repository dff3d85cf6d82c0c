-- Data with names that may be compressed, of seven types that came after RFC 1035 (RFC 3597 4), as text.
use Rattle.std.specs.Prelude.{ℕ, ◌-◌, ◌==◌, ◌||◌, ◌&&◌, not, nat_le, nat_lt, Bool, List, [], ◌∷◌, ◌++◌, length, slice_index, decimal, Option, Some, None, if◌then◌else◌}
use Rattle.std.specs.Int.{w16, from_be_bytes}
use Rattle.dns_names.specs.Name.{Labels}
use Rattle.dns_base.specs.Forms.{NamedData, named_spelling}
use Rattle.dns_presentation.specs.declared.named.NamedParts.{NamedParts}
use Rattle.dns_presentation.specs.Generic.{generic_text}
use Rattle.dns_presentation.specs.Names.{absolute_text}

-- the data of which these are the parts
abbrev pub parts_view : NamedParts → NamedData
parts_view it = record { before = it.before.now; first = it.first.now; second = it.second.now; behind = it.behind.now }

-- generic data has the names spelled out, since a pointer says nothing outside its message
abbrev pub spelled_text : NamedData → List ℕ
spelled_text it = generic_text (named_spelling it)

-- a name, and the second one behind a blank
abbrev pub names_text : Labels → Option Labels → List ℕ
names_text first None = absolute_text first
names_text first (Some second) = absolute_text first ++ 32 ∷ absolute_text second

-- two octets as a number, and the names (RFC 1183 1 and 3.3, RFC 2163 4)
abbrev pub preferred_text : List ℕ → NamedData → List ℕ
preferred_text (high ∷ low ∷ []) it = decimal (from_be_bytes w16 (high ∷ low ∷ [])) ++ 32 ∷ names_text it.first it.second
preferred_text before it = spelled_text it

-- the bits of types from 0 to 127, of which that of 0 isn't set, up to the last octet with one (RFC 2535 5.2)
abbrev pub are_type_bits : List ℕ → Bool
are_type_bits octets =
    (length octets == 0)
    || (nat_le (length octets) 16 && (nat_lt (slice_index octets 0) 128 && not (slice_index octets (length octets - 1) == 0)))

-- Signatures (RFC 2535 7.2), the types of a name (RFC 2535 7.3) and rules (RFC 3403 4.1) have forms of which nothing is said here,
-- where no part lacks.
abbrev pub has_named_form : ℕ → List ℕ → Bool
has_named_form rtype behind = ((rtype == 24) && not (length behind == 0)) || (((rtype == 30) && are_type_bits behind) || (rtype == 35))

abbrev pub named_text : ℕ → NamedData → Option (List ℕ)
named_text rtype it =
    if rtype == 17 then Some (names_text it.first it.second)
    else if (rtype == 18) || ((rtype == 21) || (rtype == 26)) then Some (preferred_text it.before it)
    else if has_named_form rtype it.behind then None
    else Some (spelled_text it)

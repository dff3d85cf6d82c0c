-- The message of a request.
use Rattle.std.specs.Prelude.{ℕ, ◌+◌, Bool, if◌then◌else◌, List, [], ◌∷◌, ◌++◌}
use Rattle.std.specs.Int.{w16, to_be_bytes}
use Rattle.dns_names.specs.Name.{Labels, spelling}
use Rattle.dns_lookup_words.specs.declared.manner.Ask.{Ask}
use Rattle.dns_lookup_words.specs.declared.manner.Flags.{Flags}

-- a bit, where it is set
abbrev pub bit : Bool → ℕ → ℕ
bit set value = if set then value else 0

-- the header: AA, TC and RD in the third octet, RA, the bit without a meaning, AD and CD in the fourth (RFC 1035 4.1.1, RFC 4035 3.1.6)
abbrev pub asked_header : Flags → List ℕ
asked_header flags =
    0 ∷ 0 ∷ (bit flags.authoritative 4 + bit flags.truncated 2 + bit flags.recursion 1)
    ∷ (bit flags.available 128 + bit flags.reserved 64 + bit flags.authentic 32 + bit flags.unchecked 16) ∷ []

-- the octets behind a header: a count of 1 and three of 0, the name spelled out, the type and the class
abbrev pub with_question : List ℕ → Labels → (rtype class : ℕ) → List ℕ
with_question header name rtype class =
    header ++ (0 ∷ 1 ∷ 0 ∷ 0 ∷ 0 ∷ 0 ∷ 0 ∷ 0 ∷ []) ++ spelling name ++ to_be_bytes w16 rtype ++ to_be_bytes w16 class

abbrev pub query_octets : Ask → List ℕ
query_octets ask = with_question (asked_header ask.manner.flags) ask.name ask.rtype.0 ask.manner.class.0

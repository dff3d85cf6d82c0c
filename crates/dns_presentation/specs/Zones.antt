-- What is said of a whole zone, as text: its digest, and what its parent is to take from it.
use Rattle.std.specs.Prelude.{ℕ, ◌==◌, List, [], ◌∷◌, ◌++◌, length, decimal, Option, Some, None, option_map, if◌then◌else◌}
use Rattle.std.specs.Int.{w16, w32, from_be_bytes}
use Rattle.dns_presentation.specs.declared.counted.PartKind.TheVariants.{Window}
use Rattle.dns_presentation.specs.Counted.{led_parts}
use Rattle.dns_presentation.specs.Octets.{hex_text}

-- the serial, the scheme, the algorithm and the digest, which has an octet at least (RFC 8976 2.3)
abbrev pub zonemd_text : List ℕ → Option (List ℕ)
zonemd_text (a ∷ b ∷ c ∷ d ∷ scheme ∷ algorithm ∷ digest) =
    if length digest == 0 then None
    else Some (decimal (from_be_bytes w32 (a ∷ b ∷ c ∷ d ∷ [])) ++ 32 ∷ decimal scheme ++ 32 ∷ decimal algorithm ++ 32 ∷ hex_text digest)
zonemd_text octets = None

-- a serial, flags, and types, each behind a blank (RFC 7477 2.1)
abbrev pub taken_text : ℕ → ℕ → List ℕ → Option (List ℕ)
taken_text serial flags types = option_map (λ text. (decimal serial ++ 32 ∷ decimal flags) ++ text) (led_parts Window types)

abbrev pub csync_text : List ℕ → Option (List ℕ)
csync_text (a ∷ b ∷ c ∷ d ∷ high ∷ low ∷ types) = taken_text (from_be_bytes w32 (a ∷ b ∷ c ∷ d ∷ [])) (from_be_bytes w16 (high ∷ low ∷ [])) types
csync_text octets = None

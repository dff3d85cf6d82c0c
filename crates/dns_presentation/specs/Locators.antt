-- Addresses and names of hosts and networks in other forms, as text.
use Rattle.std.specs.Prelude.{ℕ, ◌==◌, ◌&&◌, ◌||◌, List, [], ◌∷◌, ◌++◌, length, decimal, Option, Some, None, option_and_then, option_map, if◌then◌else◌}
use Rattle.std.specs.Int.{w16, from_be_bytes}
use Rattle.std.specs.List.{flat_map}
use Rattle.std.specs.Net.Text.{ipv4_text}
use Rattle.dns_names.specs.Name.{Found, Labels, name_at, octet_count}
use Rattle.dns_presentation.specs.Names.{absolute_text}
use Rattle.dns_presentation.specs.Octets.{hex_octet, hex_text}

-- `0x` and the digits of an octet at least (RFC 1706)
abbrev pub nsap_text : List ℕ → Option (List ℕ)
nsap_text octets = if length octets == 0 then None else Some (48 ∷ 120 ∷ hex_text octets)

-- octets with a `-` between, of which there are to be so many (RFC 7043 3.2 and 4.2)
abbrev pub dashed_octet : ℕ → List ℕ
dashed_octet n = 45 ∷ hex_octet n

abbrev pub dashed : List ℕ → List ℕ
dashed [] = []
dashed (n ∷ octets) = hex_octet n ++ flat_map dashed_octet octets

abbrev pub eui_text : ℕ → List ℕ → Option (List ℕ)
eui_text count octets = if length octets == count then Some (dashed octets) else None

-- four groups of digits (RFC 6742 2.1.2 and 2.3.2)
abbrev pub groups_text : List ℕ → Option (List ℕ)
groups_text (a ∷ b ∷ c ∷ d ∷ e ∷ f ∷ g ∷ h ∷ []) =
    Some (hex_text (a ∷ b ∷ []) ++ 58 ∷ hex_text (c ∷ d ∷ []) ++ 58 ∷ hex_text (e ∷ f ∷ []) ++ 58 ∷ hex_text (g ∷ h ∷ []))
groups_text octets = None

-- an IPv4 address (RFC 6742 2.2.2)
abbrev pub quad_text : List ℕ → Option (List ℕ)
quad_text octets = if length octets == 4 then Some (ipv4_text octets) else None

-- The name that fills octets. It has no pointer in it: it is as long where it is spelled out, as no name of two octets is.
abbrev pub if_spelled : ℕ → Found → Option Labels
if_spelled count found = if (found.end == count) && (octet_count found.labels == count) then Some found.labels else None

abbrev pub sole_name : List ℕ → Option Labels
sole_name octets = option_and_then (if_spelled (length octets)) (name_at octets 0)

abbrev pub sole_name_text : List ℕ → Option (List ℕ)
sole_name_text octets = option_map absolute_text (sole_name octets)

-- a preference, and behind a blank the text of the other octets (RFC 2230 3, RFC 6742 2)
abbrev pub behind_preference : (List ℕ → Option (List ℕ)) → List ℕ → Option (List ℕ)
behind_preference text (high ∷ low ∷ octets) = option_map (λ behind. decimal (from_be_bytes w16 (high ∷ low ∷ [])) ++ 32 ∷ behind) (text octets)
behind_preference text octets = None

-- NSAP, NID and L64, L32, KX and LP, EUI48, EUI64
abbrev pub locator_text : ℕ → List ℕ → Option (List ℕ)
locator_text rtype octets =
    if rtype == 22 then nsap_text octets
    else if (rtype == 104) || (rtype == 106) then behind_preference groups_text octets
    else if rtype == 105 then behind_preference quad_text octets
    else if (rtype == 36) || (rtype == 107) then behind_preference sole_name_text octets
    else if rtype == 108 then eui_text 6 octets
    else if rtype == 109 then eui_text 8 octets
    else None

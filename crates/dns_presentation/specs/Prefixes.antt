-- Lists of prefixes as text (RFC 3123).
use Rattle.std.specs.Prelude.{ℕ, zero, suc, ◌+◌, ◌-◌, ◌%◌, ◌==◌, ◌&&◌, ◌||◌, not, nat_le, Bool, List, [], ◌∷◌, ◌++◌, length, take, slice_index, decimal, Option, Some, None, if◌then◌else◌}
use Rattle.std.specs.Int.{w16, from_be_bytes}
use Rattle.std.specs.Net.Addr.{segments_of}
use Rattle.std.specs.Net.Text.{ipv4_text, ipv6_text}

-- of family 1 up to 32 bits and 4 octets, of family 2 up to 128 and 16 (RFC 3123 4.1 and 4.2)
abbrev pub fits_family : ℕ → ℕ → ℕ → Bool
fits_family family bits count =
    ((family == 1) && (nat_le bits 32 && nat_le count 4)) || ((family == 2) && (nat_le bits 128 && nat_le count 16))

-- octets that are 0 aren't written at the end of an address
abbrev pub is_trimmed : List ℕ → Bool
is_trimmed octets = (length octets == 0) || not (slice_index octets (length octets - 1) == 0)

-- An item is a family, how many bits count, a bit that makes it an exception above how many octets of the address are written, and these.
abbrev pub prefix_size : List ℕ → Option ℕ
prefix_size (high ∷ low ∷ bits ∷ count ∷ octets) =
    let address = take (count % 128) octets in
    if nat_le (count % 128) (length octets)
    && (fits_family (from_be_bytes w16 (high ∷ low ∷ [])) bits (length address) && is_trimmed address)
    then Some (4 + count % 128) else None
prefix_size octets = None

-- so many octets, of which those that lack are 0
unfoldable pub filled : ℕ → List ℕ → List ℕ
filled zero octets = []
filled (suc n) [] = 0 ∷ filled n []
filled (suc n) (octet ∷ octets) = octet ∷ filled n octets

abbrev pub network_text : ℕ → List ℕ → List ℕ
network_text family octets = if family == 1 then ipv4_text (filled 4 octets) else ipv6_text (segments_of (filled 16 octets))

-- an exclamation mark before an exception
abbrev pub sign : ℕ → List ℕ
sign count = if nat_le 128 count then 33 ∷ [] else []

-- the sign, the family, a colon, the address, a slash and the bits
abbrev pub item_text : ℕ → ℕ → ℕ → List ℕ → List ℕ
item_text family bits count octets = sign count ++ decimal family ++ 58 ∷ network_text family octets ++ 47 ∷ decimal bits

abbrev pub prefix_text : List ℕ → List ℕ
prefix_text (high ∷ low ∷ bits ∷ count ∷ octets) = item_text (from_be_bytes w16 (high ∷ low ∷ [])) bits count octets
prefix_text octets = []

-- The types that a word may name.
use Rattle.std.specs.Prelude.{ℕ, List, [], ◌∷◌, codes, Option, None, Some}
use Rattle.dns_values.specs.NumberNames.{number_of, type_of_text}

-- registered types that are printed by their numbers, and two that have a second name
unfoldable pub more_types : List (ℕ × List ℕ)
more_types =
    (19, codes "X25")
    ∷ (20, codes "ISDN")
    ∷ (21, codes "RT")
    ∷ (22, codes "NSAP")
    ∷ (23, codes "NSAP-PTR")
    ∷ (26, codes "PX")
    ∷ (27, codes "GPOS")
    ∷ (30, codes "NXT")
    ∷ (31, codes "EID")
    ∷ (32, codes "NIMLOC")
    ∷ (34, codes "ATMA")
    ∷ (38, codes "A6")
    ∷ (40, codes "SINK")
    ∷ (55, codes "HIP")
    ∷ (56, codes "NINFO")
    ∷ (57, codes "RKEY")
    ∷ (58, codes "TALINK")
    ∷ (66, codes "DSYNC")
    ∷ (67, codes "HHIT")
    ∷ (68, codes "BRID")
    ∷ (100, codes "UINFO")
    ∷ (101, codes "UID")
    ∷ (102, codes "GID")
    ∷ (103, codes "UNSPEC")
    ∷ (104, codes "NID")
    ∷ (105, codes "L32")
    ∷ (106, codes "L64")
    ∷ (107, codes "LP")
    ∷ (108, codes "EUI48")
    ∷ (109, codes "EUI64")
    ∷ (128, codes "NXNAME")
    ∷ (253, codes "MAILB")
    ∷ (254, codes "MAILA")
    ∷ (255, codes "*")
    ∷ (258, codes "AVC")
    ∷ (259, codes "DOA")
    ∷ (260, codes "AMTRELAY")
    ∷ (261, codes "RESINFO")
    ∷ (262, codes "WALLET")
    ∷ (263, codes "CLA")
    ∷ (264, codes "IPN")
    ∷ (32768, codes "TA")
    ∷ (32769, codes "DLV")
    ∷ []

abbrev pub type_or_more : Option ℕ → List ℕ → Option ℕ
type_or_more (Some number) word = Some number
type_or_more None word = number_of more_types word

-- the number of the type that a word names, in any case, by its registered name or as in TYPE123 (RFC 3597 5)
abbrev pub type_number : List ℕ → Option ℕ
type_number word = type_or_more (type_of_text word) word

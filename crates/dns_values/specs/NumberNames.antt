-- The names of types, classes and codes, as they are registered with IANA (RFC 6895).
use Rattle.std.specs.Prelude.{◌≡◌, ◌<◌, ◌==◌, ◌&&◌, ℕ, Bool, true, List, [], ◌∷◌, ◌++◌, length, take, drop, codes, decimal, nat_le, Option, Some, None, unwrap_or, if◌then◌else◌}
use Rattle.std.specs.Str.{str_eq_ignore_ascii_case}
use Rattle.dns_values.specs.Decimal.{decimal_number}

-- types (RFC 1035 3.2.2 and later)
unfoldable pub type_names : List (ℕ × List ℕ)
type_names =
    (1, codes "A")
    ∷ (2, codes "NS")
    ∷ (3, codes "MD")
    ∷ (4, codes "MF")
    ∷ (5, codes "CNAME")
    ∷ (6, codes "SOA")
    ∷ (7, codes "MB")
    ∷ (8, codes "MG")
    ∷ (9, codes "MR")
    ∷ (10, codes "NULL")
    ∷ (11, codes "WKS")
    ∷ (12, codes "PTR")
    ∷ (13, codes "HINFO")
    ∷ (14, codes "MINFO")
    ∷ (15, codes "MX")
    ∷ (16, codes "TXT")
    ∷ (17, codes "RP")
    ∷ (18, codes "AFSDB")
    ∷ (24, codes "SIG")
    ∷ (25, codes "KEY")
    ∷ (28, codes "AAAA")
    ∷ (29, codes "LOC")
    ∷ (33, codes "SRV")
    ∷ (35, codes "NAPTR")
    ∷ (36, codes "KX")
    ∷ (37, codes "CERT")
    ∷ (39, codes "DNAME")
    ∷ (41, codes "OPT")
    ∷ (42, codes "APL")
    ∷ (43, codes "DS")
    ∷ (44, codes "SSHFP")
    ∷ (45, codes "IPSECKEY")
    ∷ (46, codes "RRSIG")
    ∷ (47, codes "NSEC")
    ∷ (48, codes "DNSKEY")
    ∷ (49, codes "DHCID")
    ∷ (50, codes "NSEC3")
    ∷ (51, codes "NSEC3PARAM")
    ∷ (52, codes "TLSA")
    ∷ (53, codes "SMIMEA")
    ∷ (59, codes "CDS")
    ∷ (60, codes "CDNSKEY")
    ∷ (61, codes "OPENPGPKEY")
    ∷ (62, codes "CSYNC")
    ∷ (63, codes "ZONEMD")
    ∷ (64, codes "SVCB")
    ∷ (65, codes "HTTPS")
    ∷ (99, codes "SPF")
    ∷ (249, codes "TKEY")
    ∷ (250, codes "TSIG")
    ∷ (251, codes "IXFR")
    ∷ (252, codes "AXFR")
    ∷ (255, codes "ANY")
    ∷ (256, codes "URI")
    ∷ (257, codes "CAA")
    ∷ []

-- classes (RFC 1035 3.2.4, RFC 2136)
unfoldable pub class_names : List (ℕ × List ℕ)
class_names =
    (1, codes "IN")
    ∷ (3, codes "CH")
    ∷ (4, codes "HS")
    ∷ (254, codes "NONE")
    ∷ (255, codes "ANY")
    ∷ []

-- kinds of query (RFC 1035 4.1.1, RFC 1996, RFC 2136)
unfoldable pub opcode_names : List (ℕ × List ℕ)
opcode_names =
    (0, codes "QUERY")
    ∷ (1, codes "IQUERY")
    ∷ (2, codes "STATUS")
    ∷ (4, codes "NOTIFY")
    ∷ (5, codes "UPDATE")
    ∷ []

-- response codes of a header (RFC 1035 4.1.1, RFC 2136)
unfoldable pub rcode_names : List (ℕ × List ℕ)
rcode_names =
    (0, codes "NOERROR")
    ∷ (1, codes "FORMERR")
    ∷ (2, codes "SERVFAIL")
    ∷ (3, codes "NXDOMAIN")
    ∷ (4, codes "NOTIMP")
    ∷ (5, codes "REFUSED")
    ∷ (6, codes "YXDOMAIN")
    ∷ (7, codes "YXRRSET")
    ∷ (8, codes "NXRRSET")
    ∷ (9, codes "NOTAUTH")
    ∷ (10, codes "NOTZONE")
    ∷ []

-- those that an OPT record extends (RFC 6891 9, RFC 7873)
unfoldable pub extended_rcode_names : List (ℕ × List ℕ)
extended_rcode_names =
    (0, codes "NOERROR")
    ∷ (1, codes "FORMERR")
    ∷ (2, codes "SERVFAIL")
    ∷ (3, codes "NXDOMAIN")
    ∷ (4, codes "NOTIMP")
    ∷ (5, codes "REFUSED")
    ∷ (6, codes "YXDOMAIN")
    ∷ (7, codes "YXRRSET")
    ∷ (8, codes "NXRRSET")
    ∷ (9, codes "NOTAUTH")
    ∷ (10, codes "NOTZONE")
    ∷ (16, codes "BADVERS")
    ∷ (23, codes "BADCOOKIE")
    ∷ []

-- the name of a number
abbrev pub name_of : List (ℕ × List ℕ) → ℕ → Option (List ℕ)
name_of [] number = None
name_of (entry ∷ entries) number = if entry.0 == number then Some entry.1 else name_of entries number

-- the number of a name, in any case
abbrev pub number_of : List (ℕ × List ℕ) → List ℕ → Option ℕ
number_of [] text = None
number_of (entry ∷ entries) text =
    if str_eq_ignore_ascii_case entry.1 text then Some entry.0 else number_of entries text

-- whether each number is at most the greatest
abbrev pub are_within : ℕ → List (ℕ × List ℕ) → Bool
are_within greatest [] = true
are_within greatest (entry ∷ entries) = nat_le entry.0 greatest && are_within greatest entries

-- whether a text begins with a word, in any case
abbrev pub begins_with : List ℕ → List ℕ → Bool
begins_with word text =
    nat_le (length word) (length text) && str_eq_ignore_ascii_case (take (length word) text) word

-- The number that a text stands for: that of a name, in any case, or the decimal number behind a
-- word, as in TYPE123 (RFC 3597 5). It is at most the greatest.
unfoldable pub number_of_text : List (ℕ × List ℕ) → List ℕ → ℕ → List ℕ → Option ℕ
number_of_text names word greatest text =
    if begins_with word text then decimal_number greatest (drop (length word) text)
    else number_of names text

-- The text of a number: its name, or the word and the number where it has none.
unfoldable pub text_of_number : List (ℕ × List ℕ) → List ℕ → ℕ → List ℕ
text_of_number names word number = unwrap_or (name_of names number) (word ++ decimal number)

abbrev pub type_text : ℕ → List ℕ
type_text number = text_of_number type_names (codes "TYPE") number

abbrev pub type_of_text : List ℕ → Option ℕ
type_of_text text = number_of_text type_names (codes "TYPE") 65535 text

abbrev pub class_text : ℕ → List ℕ
class_text number = text_of_number class_names (codes "CLASS") number

abbrev pub class_of_text : List ℕ → Option ℕ
class_of_text text = number_of_text class_names (codes "CLASS") 65535 text

-- of four bits
abbrev pub opcode_text : ℕ → List ℕ
opcode_text number = text_of_number opcode_names (codes "OPCODE") number

abbrev pub opcode_of_text : List ℕ → Option ℕ
opcode_of_text text = number_of_text opcode_names (codes "OPCODE") 15 text

-- of four bits
abbrev pub rcode_text : ℕ → List ℕ
rcode_text number = text_of_number rcode_names (codes "RCODE") number

abbrev pub rcode_of_text : List ℕ → Option ℕ
rcode_of_text text = number_of_text rcode_names (codes "RCODE") 15 text

-- of twelve bits
abbrev pub extended_rcode_text : ℕ → List ℕ
extended_rcode_text number = text_of_number extended_rcode_names (codes "RCODE") number

abbrev pub extended_rcode_of_text : List ℕ → Option ℕ
extended_rcode_of_text text = number_of_text extended_rcode_names (codes "RCODE") 4095 text

-- The laws of the texts of numbers: what is printed is read as the same number, and so is the
-- number behind the word where it has a name too.
pub record NumberNameLaws : Type 0 where
  pub types : (n : ℕ) → n < 65536 → type_of_text (type_text n) ≡ Some n
  pub numbered_types : (n : ℕ) → n < 65536 → type_of_text (codes "TYPE" ++ decimal n) ≡ Some n
  pub classes : (n : ℕ) → n < 65536 → class_of_text (class_text n) ≡ Some n
  pub numbered_classes : (n : ℕ) → n < 65536 → class_of_text (codes "CLASS" ++ decimal n) ≡ Some n
  pub opcodes : (n : ℕ) → n < 16 → opcode_of_text (opcode_text n) ≡ Some n
  pub rcodes : (n : ℕ) → n < 16 → rcode_of_text (rcode_text n) ≡ Some n
  pub extended_rcodes : (n : ℕ) → n < 4096 → extended_rcode_of_text (extended_rcode_text n) ≡ Some n

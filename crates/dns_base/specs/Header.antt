-- The header of a message (RFC 1035 4.1.1, RFC 2535 6.1): an id, two octets of flags, and four counts.
use Rattle.std.specs.Prelude.{ℕ, ◌+◌, ◌-◌, ◌*◌, ◌/◌, ◌%◌, List, [], ◌∷◌, ◌++◌, drop, Bool, not, ◌==◌, slice_index, slice_set, bit_and, bit_or, if◌then◌else◌}
use Rattle.std.specs.Int.{w16, to_be_bytes}
use Rattle.dns_base.specs.Numbers.{u16_at}

abbrev pub id_of : List ℕ → ℕ
id_of octets = u16_at octets 0

abbrev pub with_id : ℕ → List ℕ → List ℕ
with_id id octets = to_be_bytes w16 id ++ drop 2 octets

-- a flag is one bit of an octet
abbrev pub has_bit : ℕ → ℕ → Bool
has_bit bit octet = not (bit_and octet bit == 0)

abbrev pub with_bit : ℕ → Bool → ℕ → ℕ
with_bit bit on octet = if on then bit_or octet bit else bit_and octet (255 - bit)

-- the flag in the third octet, or in the fourth
abbrev pub flag_of : ℕ → ℕ → List ℕ → Bool
flag_of place bit octets = has_bit bit (slice_index octets place)

abbrev pub with_flag : ℕ → ℕ → Bool → List ℕ → List ℕ
with_flag place bit on octets = slice_set octets place (with_bit bit on (slice_index octets place))

-- the message is a response
abbrev pub qr_of : List ℕ → Bool
qr_of = flag_of 2 0x80

abbrev pub with_qr : Bool → List ℕ → List ℕ
with_qr = with_flag 2 0x80

abbrev pub opcode_of : List ℕ → ℕ
opcode_of octets = bit_and (slice_index octets 2 / 8) 0x0f

abbrev pub with_opcode : ℕ → List ℕ → List ℕ
with_opcode opcode octets = slice_set octets 2 (bit_or (bit_and (slice_index octets 2) 0x87) (bit_and opcode 0x0f * 8))

-- the answer is authoritative
abbrev pub aa_of : List ℕ → Bool
aa_of = flag_of 2 0x04

abbrev pub with_aa : Bool → List ℕ → List ℕ
with_aa = with_flag 2 0x04

-- the message is truncated
abbrev pub tc_of : List ℕ → Bool
tc_of = flag_of 2 0x02

abbrev pub with_tc : Bool → List ℕ → List ℕ
with_tc = with_flag 2 0x02

-- recursion is desired
abbrev pub rd_of : List ℕ → Bool
rd_of = flag_of 2 0x01

abbrev pub with_rd : Bool → List ℕ → List ℕ
with_rd = with_flag 2 0x01

-- recursion is available
abbrev pub ra_of : List ℕ → Bool
ra_of = flag_of 3 0x80

abbrev pub with_ra : Bool → List ℕ → List ℕ
with_ra = with_flag 3 0x80

-- the data is authentic
abbrev pub ad_of : List ℕ → Bool
ad_of = flag_of 3 0x20

abbrev pub with_ad : Bool → List ℕ → List ℕ
with_ad = with_flag 3 0x20

-- checking is disabled
abbrev pub cd_of : List ℕ → Bool
cd_of = flag_of 3 0x10

abbrev pub with_cd : Bool → List ℕ → List ℕ
with_cd = with_flag 3 0x10

abbrev pub rcode_of : List ℕ → ℕ
rcode_of octets = bit_and (slice_index octets 3) 0x0f

abbrev pub with_rcode : ℕ → List ℕ → List ℕ
with_rcode rcode octets = slice_set octets 3 (bit_or (bit_and (slice_index octets 3) 0xf0) (bit_and rcode 0x0f))

-- how many entries each section has
pub record Counts : Type 0 where
  pub questions : ℕ
  pub answer : ℕ
  pub authority : ℕ
  pub additional : ℕ

abbrev pub counts_of : List ℕ → Counts
counts_of octets = record {
  questions = u16_at octets 4;
  answer = u16_at octets 6;
  authority = u16_at octets 8;
  additional = u16_at octets 10;
}

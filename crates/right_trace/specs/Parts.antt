-- What a message is read as: its flags and its lists, with the data of its records as octets or by type.
use Rattle.std.specs.Prelude.{◌≡◌, ℕ, ◌⊎◌, Bool, Option, List, [], ◌∷◌, map, option_map}
use Rattle.dns_names.specs.Name.{Labels, lowered}
use Rattle.dns_base.specs.Data.{Data}
use Rattle.dns_base.specs.Message.{Asked, Known, Written, reads}
use Rattle.dns_base.specs.Knowing.{knows, lowered_asked, lowered_data}
use Rattle.dns_base.specs.OptRecord.{opt_rcode}
use Rattle.right_trace.specs.Messages.{Octets}
use Rattle.dns_base.specs.Header as head

-- it is one of these
abbrev pub IsIn : {A : Type 0} → A → List A → Type 0
IsIn x [] = ⊥
IsIn x (y ∷ ys) = (y ≡ x) ⊎ IsIn x ys

-- All bits of the first four octets: `z` is the one that has no meaning yet, 0x40 of the fourth (RFC 1035 4.1.1, RFC 2535 6.1).
pub record Header : Type 0 where
  pub id : ℕ
  pub opcode : ℕ
  pub rcode : ℕ
  pub qr : Bool
  pub aa : Bool
  pub tc : Bool
  pub rd : Bool
  pub ra : Bool
  pub z : Bool
  pub ad : Bool
  pub cd : Bool

pub record Item (C : Type 0) : Type 0 where
  pub owner : Labels
  pub rtype : ℕ
  pub class : ℕ
  pub ttl : ℕ
  pub content : C

-- `code` is the response code with the upper bits of an OPT record (RFC 6891 6.1.3)
pub record Parts (C : Type 0) : Type 0 where
  pub header : Header
  pub code : ℕ
  pub questions : List Asked
  pub answer : List (Item C)
  pub authority : List (Item C)
  pub additional : List (Item C)

abbrev pub flags_in : Octets → Header
flags_in h = record { id = head.id_of h; opcode = head.opcode_of h; rcode = head.rcode_of h; qr = head.qr_of h; aa = head.aa_of h; tc = head.tc_of h; rd = head.rd_of h; ra = head.ra_of h; z = head.flag_of 3 0x40 h; ad = head.ad_of h; cd = head.cd_of h }

abbrev pub raw : Known → Item Octets
raw k = record { owner = k.entry.owner; rtype = k.entry.rtype; class = k.entry.class; ttl = k.entry.ttl; content = k.entry.octets }

abbrev pub typed : Written → Item Data
typed w = record { owner = w.owner; rtype = w.rtype; class = w.class; ttl = w.ttl; content = w.content }

-- the parts of a message, with data as octets; nothing where it is not in the grammar
unfoldable pub read_parts : Octets → Option (Parts Octets)
read_parts m = option_map (λ x. record { header = flags_in x.header; code = opt_rcode m; questions = x.questions; answer = map raw x.answer; authority = map raw x.authority; additional = map raw x.additional }) (reads m)

-- the same, with the data of each record read by its type
unfoldable pub known_parts : Octets → Option (Parts Data)
known_parts m = option_map (λ x. record { header = flags_in x.header; code = opt_rcode m; questions = x.questions; answer = map typed x.answer; authority = map typed x.authority; additional = map typed x.additional }) (knows m)

abbrev pub lowered_item : Item Data → Item Data
lowered_item x = record { owner = lowered x.owner; rtype = x.rtype; class = x.class; ttl = x.ttl; content = lowered_data x.content }

abbrev pub lowered_parts : Parts Data → Parts Data
lowered_parts x = record { header = x.header; code = x.code; questions = map lowered_asked x.questions; answer = map lowered_item x.answer; authority = map lowered_item x.authority; additional = map lowered_item x.additional }

-- these octets are a message that says the same as one with these parts, up to the case of names
abbrev pub Says : Octets → Parts Data → Type 0
Says m x = option_map lowered_parts (known_parts m) ≡ Option.Some (lowered_parts x)

-- A request: the base message, the recorded header, and the recorded OPT record.
use Rattle.std.specs.Prelude.{ℕ, ◌+◌, ◌*◌, ◌^◌, ◌==◌, ◌||◌, ◌&&◌, nat_le, List, [], ◌++◌, length, Option, Some, None, Bool, true, false, bit_and, bit_or, if◌then◌else◌}
use Rattle.std.specs.Option.{option_map_or}
use Rattle.std.specs.Int.{w16, to_be_bytes}
use Rattle.dns_base.specs.Header as head
use Rattle.dns_base.specs.Answering.{is_answer}
use Rattle.dns_base.specs.Data.{Opt}
use Rattle.dns_base.specs.Message.{Written, header_of, first_question}
use Rattle.dns_base.specs.OptRecord.{OptFields, dnssec_ok}

pub record Request : Type 0 where
  pub base : List ℕ
  pub header : List ℕ
  pub opt : Option OptFields

-- the OPT record that is added where none is recorded
abbrev pub empty_opt : OptFields
empty_opt = record { udp_payload_size = 0; ext_rcode = 0; version = 0; flags = 0; options = [] }

abbrev pub opt_or_empty : Option OptFields → OptFields
opt_or_empty None = empty_opt
opt_or_empty (Some opt) = opt

-- an OPT record as a record of the root (RFC 6891 6.1.3)
abbrev pub opt_written : OptFields → Written
opt_written opt = record {
  owner = [];
  rtype = 41;
  class = opt.udp_payload_size;
  ttl = opt.ext_rcode * 2 ^ 24 + opt.version * 2 ^ 16 + opt.flags;
  content = Opt opt.options;
}

-- an option: its code, its length and its octets
abbrev pub option_octets : ℕ → List ℕ → List ℕ
option_octets code octets = to_be_bytes w16 code ++ to_be_bytes w16 (length octets) ++ octets

abbrev pub with_do : Bool → OptFields → OptFields
with_do on opt = record opt { flags = (if on then bit_or opt.flags 0x8000 else bit_and opt.flags 0x7fff) }

abbrev pub option_added : ℕ → List ℕ → OptFields → OptFields
option_added code octets opt = record opt { options = opt.options ++ option_octets code octets }

-- With an option of so many octets more, the data would have more than its length can say.
abbrev pub is_too_long : ℕ → OptFields → Bool
is_too_long count opt = nat_le 65536 (length opt.options + 4 + count)

-- what is recorded, changed in one part
abbrev pub with_header : List ℕ → Request → Request
with_header header r = record r { header = header }

abbrev pub with_id : ℕ → Request → Request
with_id id r = record r { header = head.with_id id r.header }

abbrev pub with_payload_size : ℕ → Request → Request
with_payload_size size r = record r { opt = Some (record (opt_or_empty r.opt) { udp_payload_size = size }) }

abbrev pub with_dnssec_ok : Bool → Request → Request
with_dnssec_ok on r = record r { opt = Some (with_do on (opt_or_empty r.opt)) }

abbrev pub with_option : ℕ → List ℕ → Request → Request
with_option code octets r = record r { opt = Some (option_added code octets (opt_or_empty r.opt)) }

abbrev pub is_full_for : ℕ → Request → Bool
is_full_for count r = is_too_long count (opt_or_empty r.opt)

abbrev pub is_dnssec_ok : Request → Bool
is_dnssec_ok r = option_map_or dnssec_ok r.opt false

abbrev pub is_answered : List ℕ → Request → Bool
is_answered octets r = is_answer (head.id_of r.header) r.base octets

-- with the header of the base, and no OPT record
abbrev pub recorded_from : List ℕ → Request
recorded_from base = record { base = base; header = header_of base; opt = None }

-- The question is missing, can't be read or asks for a whole zone: several messages may answer that.
abbrev pub is_misformed : List ℕ → Bool
is_misformed base = head.opcode_of base == 0 && option_map_or (λ q. q.rtype == 252) (first_question base) true

-- The first question asks for a whole zone.
abbrev pub is_axfr : List ℕ → Bool
is_axfr base = option_map_or (λ q. q.rtype == 252) (first_question base) false

-- A message of a zone that is transferred may have no question (RFC 5936 2.2.1).
abbrev pub is_answered_in_part : List ℕ → Request → Bool
is_answered_in_part octets r =
    is_answered octets r
    || (is_axfr r.base && (head.qr_of octets && (head.id_of octets == head.id_of r.header && (head.counts_of octets).questions == 0)))

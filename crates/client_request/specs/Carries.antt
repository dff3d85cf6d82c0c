-- The octets that carry a request.
use Rattle.std.specs.Prelude.{◌≡◌, ℕ, ◌<◌, ◌≤◌, ◌^◌, List, [], ◌∷◌, ◌++◌, length, map, Option, Some, None, Ok, IfSome, not, option_and_then, slice_index}
use Rattle.std.specs.List.{filter}
use Rattle.dns_values.specs.declared.numbers.Section.{Section}
use Rattle.dns_values.specs.declared.numbers.Section.TheVariants.{Answer, Authority, Additional}
use Rattle.dns_base.specs.Numbers.{◌>>=◌}
use Rattle.dns_base.specs.Message.{Known, Written, Reading, all_read, reads}
use Rattle.dns_base.specs.Answering.{question_items}
use Rattle.dns_base.specs.OptRecord.{OptFields}
use Rattle.dns_base.specs.Holding.{Contents, Agree}
use Rattle.client_request.specs.Request.{Request, opt_written, with_id, with_payload_size}
use Rattle.client_request.specs.Composed.{section_items, written_from, is_replaced, composed}

-- the records of a section that are sent
abbrev pub sent_from : Section → List Known → List Written
sent_from section records = map written_from (filter (λ known. not (is_replaced section known)) records)

abbrev pub records_of : Section → List ℕ → Option (List Known)
records_of section base = option_and_then all_read (section_items section base)

abbrev pub opt_records : Option OptFields → List Written
opt_records None = []
opt_records (Some opt) = opt_written opt ∷ []

-- what the message of a request says, if its base is read
unfoldable pub contents_of : Request → Option Contents
contents_of r = do
  questions ← all_read (question_items r.base)
  answer ← records_of Answer r.base
  authority ← records_of Authority r.base
  additional ← records_of Additional r.base
  Some (record {
    questions = questions;
    answer = sent_from Answer answer;
    authority = sent_from Authority authority;
    additional = sent_from Additional additional ++ opt_records r.opt;
  })

-- The octets read as the recorded header, the base's questions and records in order without the OPT records of its
-- additional section, and then the recorded one. Names agree up to case, and data as its type reads it or octet for octet.
pub record SaysRequest (octets : List ℕ) (r : Request) : Type 0 where
  pub contents : Contents
  pub are : contents_of r ≡ Some contents
  pub reading : Reading
  pub read : reads octets ≡ Some reading
  pub header : reading.header ≡ r.header
  pub agree : Agree (record { questions = reading.questions; answer = reading.answer; authority = reading.authority; additional = reading.additional }) contents

-- a datagram that carries a request under an id
abbrev pub Carries : List ℕ → Request → ℕ → Type 0
Carries octets r id = SaysRequest octets (with_payload_size 1232 (with_id id r))

-- fields that an OPT record has room for
pub record IsOpt (opt : OptFields) : Type 0 where
  pub udp_payload_size : opt.udp_payload_size < 2 ^ 16
  pub ext_rcode : opt.ext_rcode < 2 ^ 8
  pub version : opt.version < 2 ^ 8
  pub flags : opt.flags < 2 ^ 16
  pub options : length opt.options < 2 ^ 16

-- a request that is made of octets: its base has the twelve of a header at least (RFC 1035 4.1.1)
pub record IsOfOctets (r : Request) : Type 0 where
  pub base : (i : ℕ) → slice_index r.base i < 256
  pub long : 12 ≤ length r.base
  pub header : length r.header ≡ 4
  pub opt : IfSome r.opt IsOpt

pub record CarryingLaws : Type 0 where
  pub composed_says : (r : Request) (octets : List ℕ) → IsOfOctets r → composed r ≡ Ok octets → SaysRequest octets r
  pub composed_carries : (r : Request) (id : ℕ) (octets : List ℕ) → IsOfOctets r → composed (with_payload_size 1232 (with_id id r)) ≡ Ok octets
      → Carries octets r id

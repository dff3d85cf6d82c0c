-- Messages and requests, as far as the headline speaks of them. What is not an `abbrev` is closed: no definition above looks inside.
use Rattle.std.specs.Prelude.{◌≡◌, ℕ, zero, suc, ◌+◌, ◌*◌, ◌<◌, ◌==◌, Option, Some, None, [], ◌∷◌, Bool, true, false, not, ◌&&◌, ◌||◌, nat_lt, nat_le, ◌⊎◌, List, ◌++◌, length, map, sum, drop, if◌then◌else◌, option_and_then, is_some, Result, Err, Ok}
use Rattle.std.specs.Option.{option_map_or}
use Rattle.dns_base.specs.Message.{reads}
use Rattle.dns_base.specs.Header.{tc_of, id_of}
use Rattle.dns_base.specs.Answering.{is_answer}
use Rattle.dns_base.specs.Holding.{Contents}
use Rattle.dns_base.specs.Draft.{question_size, record_size}
use Rattle.client_request.specs.declared.error.Error.{Error}
use Rattle.client_request.specs.declared.error.Error.TheVariants.{MessageParseError, MessageBuilderPushError}
use Rattle.client_request.specs.declared.event.Via.{Via}
use Rattle.client_request.specs.declared.event.Via.TheVariants.{Dgram, Stream}
use Rattle.std.specs.Int.{w16, to_be_bytes}
use Rattle.dns_base.specs.OptRecord.{opt_of}
use Rattle.client_request.specs.Request.{Request, with_id, with_option, with_payload_size, is_misformed}
use Rattle.client_request.specs.Carries.{contents_of, SaysRequest, IsOfOctets}
use Rattle.right_trace.specs.Trace.{Conf}

abbrev pub Octets : Type 0
Octets = List ℕ

-- the id of a message (RFC 1035 4.1.1)
unfoldable pub id_in : Octets → ℕ
id_in octets = id_of octets

-- By stream two octets give the length of the rest, so it is below 65536; it has the id and says the request under it, with or without the empty option 11 (RFC 7766 8, RFC 7828 3.2.1).
pub record CarriesInFrame (octets : Octets) (r : Request) (id : ℕ) : Type 0 where
  pub rest : Octets
  pub framed : octets ≡ to_be_bytes w16 (length rest) ++ rest
  pub short : length rest < 65536
  pub named : id_in rest ≡ id
  pub says : SaysRequest rest (with_id id r) ⊎ SaysRequest rest (with_option 11 [] (with_id id r))

-- the payload size is announced, if one is set; else what is recorded stays
abbrev pub announcing : Option ℕ → Request → Request
announcing None r = r
announcing (Some size) r = with_payload_size size r

-- a request under an id, as it is composed for a datagram
abbrev pub under : Conf → (id : ℕ) → Request → Request
under c id r = announcing c.transports.dgram_udp_payload_size (with_id id r)

-- these octets are the request under this id, which they have, as it is sent so (RFC 1035 4.2.1, RFC 6891 6.2.3)
abbrev pub CarriesBy : Conf → Via → Octets → Request → (id : ℕ) → Type 0
CarriesBy c Dgram octets r id = SaysRequest octets (under c id r) × (id_in octets ≡ id)
CarriesBy c Stream octets r id = CarriesInFrame octets r id

-- these octets are an answer to the request under this id (RFC 5452 4.2, 9.1)
unfoldable pub answers : Request → (id : ℕ) → Octets → Bool
answers r id octets = is_answer id r.base octets

-- TC is set (RFC 1035 4.1.1, RFC 2181 9)
unfoldable pub truncated : Octets → Bool
truncated octets = tc_of octets

-- one option: its code, its length, and what follows
abbrev pub keepalive_option : (code count : ℕ) → Octets → Option ℕ → Option ℕ
keepalive_option code count (a ∷ b ∷ os) found = if (code == 11) && (count == 2) then Some (100000 * (256 * a + b)) else found
keepalive_option code count _ found = found

-- the time in the last option 11 of two octets, in options that are as many octets long at most (RFC 7828 3.1)
abbrev pub keepalive_in : (fuel : ℕ) → Octets → Option ℕ → Option ℕ
keepalive_in zero os found = found
keepalive_in (suc n) (a ∷ b ∷ c ∷ d ∷ os) found = keepalive_in n (drop (256 * c + d) os) (keepalive_option (256 * a + b) (256 * c + d) os found)
keepalive_in (suc n) _ found = found

-- what an OPT record says of how long its connection may be idle, in microseconds
unfoldable pub keepalive_of : Octets → Option ℕ
keepalive_of octets = option_and_then (λ opt. keepalive_in (length opt.options) opt.options None) (opt_of octets)

-- the base of a request is a message that can be read (RFC 1035 4.1)
unfoldable pub base_is_read : Request → Bool
base_is_read r = is_some (reads r.base)

-- a section has more entries than its count can say
abbrev pub has_too_many : Contents → Bool
has_too_many c = nat_lt 65535 (length c.questions) || (nat_lt 65535 (length c.answer) || (nat_lt 65535 (length c.authority) || nat_lt 65535 (length c.additional)))

-- composing the request would make a 65536th entry in a section, an OPT record counted (its size is no matter)
unfoldable pub passes_count : Request → Bool
passes_count r = option_map_or has_too_many (contents_of (with_payload_size 1232 r)) false

-- how many octets a message of these contents has, without compression
abbrev pub size_of : Contents → ℕ
size_of c = 12 + sum (map question_size c.questions) + sum (map record_size (c.answer ++ c.authority ++ c.additional))

-- composed with the empty option 11 more, which is longer than with its payload size, the request has at most 65535 octets
unfoldable pub fits : Request → Bool
fits r = option_map_or (λ c. nat_le (size_of c) 65535) (contents_of (with_option 11 [] r)) false

-- A request is valid: it is no query without a question and none for a whole zone, its base is read, and it is composed within all limits.
unfoldable pub is_valid : Request → Bool
is_valid r = not (is_misformed r.base) && (base_is_read r && (not (passes_count r) && fits r))

-- why a request can't be composed
abbrev pub IsComposingFault : Request → Error → Type 0
IsComposingFault r e = ((e ≡ MessageParseError) × (base_is_read r ≡ false)) ⊎ ((e ≡ MessageBuilderPushError) × (passes_count r ≡ true))

-- A way to compose requests, whatever it chooses in compressing names: what it makes carries its request, and it is refused for a cause.
pub record Composes (c : Conf) (compose : Request → Result Octets Error) : Type 0 where
  pub carries : (r : Request) (id : ℕ) (octets : Octets) → IsOfOctets r → compose (under c id r) ≡ Ok octets → SaysRequest octets (under c id r)
  pub refused : (r : Request) (e : Error) → IsOfOctets r → compose r ≡ Err e → IsComposingFault r e
  pub refused_under : (r : Request) (id : ℕ) (e : Error) → IsOfOctets r → compose (under c id r) ≡ Err e → IsComposingFault r e

-- Answers to queries that are taken.
use Rattle.std.specs.Prelude.{ℕ, ◌/◌, ◌%◌, ◌==◌, ◌&&◌, not, max, min, nat_le, nat_lt, is_some, Bool, true, false, List, ◌∷◌, length, Option, None, option_map, Result, Ok, Err, if◌then◌else◌}
use Rattle.std.specs.Option.{option_map_or}
use Rattle.dns_values.specs.declared.numbers.Section.TheVariants.{Answer, Authority, Additional}
use Rattle.dns_names.specs.Name.{Labels}
use Rattle.dns_base.specs.Answering.{question_items}
use Rattle.dns_base.specs.Draft.{Draft, fresh, with_header}
use Rattle.dns_base.specs.Header.{id_of, with_id, with_tc, with_qr, with_ad, with_rcode}
use Rattle.dns_base.specs.Message.{Asked, header_of}
use Rattle.dns_base.specs.OptRecord.{OptFields, opt_of}
use Rattle.client_request.specs.declared.error.Error.{Error}
use Rattle.client_request.specs.Composed.{Copied, ◌>>◌, each, asks, copies_section, adds_opt, message_of}
use Rattle.front_queries.specs.Query.{Query}
use Rattle.front_queries.specs.Spelled.{own_opt, bare, spelled}

-- the high bits of the response code (RFC 6891 6.1.3)
abbrev pub high_bits : List ℕ → ℕ
high_bits message = option_map_or (λ opt. opt.ext_rcode) (opt_of message) 0

-- an OPT record of this host with these high bits, where the query has one (RFC 6891 7)
abbrev pub opt_for : Query → (high : ℕ) → Option OptFields
opt_for q high = option_map (λ e. own_opt high e.dnssec_ok) q.extension

-- The response code can't be told to a client that sent no OPT record.
abbrev pub is_untold : Query → List ℕ → Bool
is_untold q message = not (is_some q.extension) && not (high_bits message == 0)

-- a question under this name
abbrev pub asks_as : Labels → Asked → Draft → Copied
asks_as name question d = asks (record question { name = name }) d

-- what a message says, with its question spelled as the query has it, and this host's OPT record in place of its own
abbrev pub says_to : Query → (message : List ℕ) → Draft → Copied
says_to q message d =
    each (asks_as q.asked.name) (question_items message) d
    >> copies_section Answer message
    >> copies_section Authority message
    >> copies_section Additional message
    >> adds_opt (opt_for q (high_bits message))

-- the same under the query's id
unfoldable pub composed_for : Query → (message : List ℕ) → Result (List ℕ) Error
composed_for q message = message_of (says_to q message (fresh None) >> (λ all. Ok (with_header (with_id (id_of q.header) (header_of message)) all)))

-- a response that is not authentic, with the code SERVFAIL; the id and the other flags stay
abbrev pub failing : (header : List ℕ) → List ℕ
failing header = with_rcode 2 (with_ad false (with_qr true header))

-- what a query is answered that gets no message
abbrev pub failed : Query → List ℕ
failed q = spelled (failing q.header) q.asked (opt_for q 0)

-- the same of a header alone
abbrev pub turned_away : Query → List ℕ
turned_away q = bare (failing q.header)

-- What was composed, where a message may be so long.
abbrev pub unless_too_long : Query → Result (List ℕ) Error → List ℕ
unless_too_long q (Ok message) = if nat_le (length message) 65535 then message else failed q
unless_too_long q (Err error) = failed q

-- The answer to a query whose request had this reply, as long as it is.
abbrev pub answer_of : Query → (reply : Result (List ℕ) Error) → List ℕ
answer_of q (Ok message) = if is_untold q message then failed q else unless_too_long q (composed_for q message)
answer_of q (Err error) = failed q

-- how many octets a datagram to the client has at most: those that it takes, 512 at least and 1232 at most (RFC 6891 6.2.3, 6.2.5)
abbrev pub most_octets : Query → ℕ
most_octets q = min 1232 (max 512 (option_map_or (λ e. e.udp_payload_size) q.extension 0))

-- what is left of an answer that is too long: its header with TC, the question, and the OPT record
abbrev pub truncated : Query → (answer : List ℕ) → List ℕ
truncated q answer = spelled (with_tc true (header_of answer)) q.asked (opt_for q (high_bits answer))

-- an answer that fits into a datagram
abbrev pub fitting : Query → (answer : List ℕ) → List ℕ
fitting q answer = if nat_le (length answer) (most_octets q) then answer else truncated q answer

-- Of a reply of more than 4096 octets no more than its header and OPT record is read for a datagram: what it says would be cut off again.
abbrev pub is_cut : Query → (reply : List ℕ) → Bool
is_cut q reply = nat_lt 4096 (length reply) && not (is_untold q reply)

-- what such a reply is answered by a datagram: its header under the query's id with TC, the question, and the OPT record
abbrev pub cut : Query → (reply : List ℕ) → List ℕ
cut q reply = spelled (with_tc true (with_id (id_of q.header) (header_of reply))) q.asked (opt_for q (high_bits reply))

-- the answer as a datagram
abbrev pub by_datagram : Query → (reply : Result (List ℕ) Error) → List ℕ
by_datagram q (Ok message) = if is_cut q message then cut q message else fitting q (answer_of q (Ok message))
by_datagram q (Err error) = fitting q (failed q)

-- a message behind its two octets of length (RFC 1035 4.2.2)
abbrev pub framed : List ℕ → List ℕ
framed message = length message / 256 % 256 ∷ length message % 256 ∷ message

-- the octets that answer a query: behind those of others by a stream, or as a datagram
abbrev pub answer_to : Query → (by_stream : Bool) → (reply : Result (List ℕ) Error) → List ℕ
answer_to q by_stream reply = if by_stream then framed (answer_of q reply) else by_datagram q reply

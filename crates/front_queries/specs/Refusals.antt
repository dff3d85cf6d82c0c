-- Which queries of DNS clients are taken, and why and how the others are refused.
use Rattle.std.specs.Prelude.{ℕ, ◌==◌, ◌||◌, ◌&&◌, not, nat_lt, is_some, Bool, true, false, List, [], ◌∷◌, Option, Some, None, option_map, Result, Ok, Err, length, slice_index, bit_and, bit_or, if◌then◌else◌}
use Rattle.std.specs.Option.{option_map_or}
use Rattle.dns_values.specs.declared.error.ParseError.{ParseError}
use Rattle.dns_base.specs.Header.{qr_of, opcode_of, counts_of}
use Rattle.dns_base.specs.Message.{Asked, Known, additional_items, header_of, first_question}
use Rattle.dns_base.specs.OptRecord.{OptFields, opt_of, dnssec_ok}
use Rattle.front_queries.specs.Query.{Query, is_of_zone}
use Rattle.front_queries.specs.Spelled.{own_opt, bare, extended}
use Rattle.front_queries.specs.declared.query.Extension.{Extension}
use Rattle.front_queries.specs.declared.refusal.Refusal.{Refusal}
use Rattle.front_queries.specs.declared.refusal.Refusal.TheVariants.{NotImplemented, ZoneRefused, FormatError, BadVersion}
use Rattle.front_queries.specs.declared.sorting.Sorted.{Sorted}
use Rattle.front_queries.specs.declared.sorting.Sorted.TheVariants as become

-- an OPT record of the root whose data is read (RFC 6891 6.1.1)
abbrev pub is_own_opt : Known → Bool
is_own_opt known = known.entry.rtype == 41 && (is_some known.says && length known.entry.owner == 0)

-- there is nothing, or just one such record
abbrev pub is_opt_at_most : List (Result Known ParseError) → Bool
is_opt_at_most [] = true
is_opt_at_most (Err e ∷ items) = false
is_opt_at_most (Ok known ∷ []) = is_own_opt known
is_opt_at_most (Ok known ∷ item ∷ items) = false

-- one question, no record in the answer and authority sections, and nothing but an OPT record behind them
abbrev pub is_question_alone : List ℕ → Bool
is_question_alone octets =
    let counts = counts_of octets in
    counts.questions == 1
    && (counts.answer == 0 && (counts.authority == 0 && option_map_or is_opt_at_most (additional_items octets) false))

-- its OPT record is of a version above 0
abbrev pub is_of_later_version : List ℕ → Bool
is_of_later_version octets = option_map_or (λ opt. nat_lt 0 opt.version) (opt_of octets) false

-- No data is of the types OPT, TKEY, TSIG, MAILB and MAILA (RFC 6895 3.1, RFC 1035 3.2.3).
abbrev pub is_of_no_data : (rtype : ℕ) → Bool
is_of_no_data rtype = rtype == 41 || (rtype == 249 || (rtype == 250 || (rtype == 253 || rtype == 254)))

-- why a query that asks this is refused, if it is: the first of these causes
abbrev pub refusal_asking : List ℕ → Asked → Option Refusal
refusal_asking octets asked =
    if not (opcode_of octets == 0) then Some NotImplemented
    else if is_of_zone asked.rtype then Some ZoneRefused
    else if not (is_question_alone octets) then Some FormatError
    else if is_of_later_version octets then Some BadVersion
    else if is_of_no_data asked.rtype then Some FormatError
    else None

-- the same where no question is read first
abbrev pub refusal_asking_nothing : List ℕ → Refusal
refusal_asking_nothing octets = if opcode_of octets == 0 then FormatError else NotImplemented

-- the four bits of the response code (RFC 1035 4.1.1)
abbrev pub code_of : Refusal → ℕ
code_of FormatError = 1
code_of NotImplemented = 4
code_of ZoneRefused = 5
code_of BadVersion = 0

-- the query's id, opcode and RD, as a response with this code
abbrev pub refusing : List ℕ → (code : ℕ) → List ℕ
refusing octets code = slice_index octets 0 ∷ slice_index octets 1 ∷ bit_or 0x80 (bit_and (slice_index octets 2) 0x79) ∷ code ∷ []

-- the client takes DNSSEC records
abbrev pub asks_dnssec : List ℕ → Bool
asks_dnssec octets = option_map_or dnssec_ok (opt_of octets) false

-- The octets that refuse a query: a header, and an OPT record alone where the version is refused, for its code has high bits (RFC 6891 6.1.3).
abbrev pub refused_by : List ℕ → Refusal → List ℕ
refused_by octets BadVersion = extended (refusing octets 0) (own_opt 1 (asks_dnssec octets))
refused_by octets FormatError = bare (refusing octets 1)
refused_by octets NotImplemented = bare (refusing octets 4)
refused_by octets ZoneRefused = bare (refusing octets 5)

abbrev pub extension_of : OptFields → Extension
extension_of opt = record { udp_payload_size = opt.udp_payload_size; dnssec_ok = dnssec_ok opt }

-- what is kept of a query that asks this
abbrev pub taken : List ℕ → Asked → Query
taken octets asked = record { header = header_of octets; asked = asked; extension = option_map extension_of (opt_of octets) }

abbrev pub unless_refused : List ℕ → Asked → Option Refusal → Sorted
unless_refused octets asked None = become.Taken (taken octets asked)
unless_refused octets asked (Some refusal) = become.Refused (refused_by octets refusal)

abbrev pub sorted_asking : List ℕ → Option Asked → Sorted
sorted_asking octets None = become.Refused (refused_by octets (refusal_asking_nothing octets))
sorted_asking octets (Some asked) = unless_refused octets asked (refusal_asking octets asked)

-- What becomes of octets: they are no query where they have no header, or are a response.
abbrev pub sorted : List ℕ → Sorted
sorted octets = if nat_lt (length octets) 12 || qr_of octets then become.Ignored else sorted_asking octets (first_question octets)

-- Tests of what octets carry, and of what two messages say.
use Rattle.std.specs.Prelude.{◌≡◌, ℕ, ◌+◌, ◌*◌, ◌^◌, ◌==◌, ◌&&◌, ◌||◌, Bool, true, false, nat_le, nat_lt, length, take, drop, List, [], ◌∷◌, ◌++◌, Option, Some, None, Result, Ok, Err, if◌then◌else◌}
use Rattle.std.specs.Int.{w16, to_be_bytes}
use Rattle.dns_values.specs.declared.error.ParseError.{ParseError}
use Rattle.dns_values.specs.declared.numbers.Section.{Section}
use Rattle.dns_values.specs.declared.numbers.Section.TheVariants.{Answer, Authority, Additional}
use Rattle.dns_names.specs.Name.{same_name}
use Rattle.dns_base.specs.{Data.Data, OptRecord.OptFields, Header.id_of}
use Rattle.dns_base.specs.Message.{Known, Written, header_of}
use Rattle.dns_base.specs.Answering.{same_items, question_items}
use Rattle.client_request.specs.Request.{Request, opt_written, with_id, with_option}
use Rattle.client_request.specs.declared.event.Via.{Via}
use Rattle.client_request.specs.declared.event.Via.TheVariants.{Dgram, Stream}
use Rattle.client_request.specs.Composed.{section_items, written_from, is_replaced}
use Rattle.right_trace.specs.Messages.{announcing}
use Rattle.message_judging.specs.matching.Shapes.{same_octets, same_shape, shape_of, plain_octets}

-- data that is read says what other data says
abbrev pub says_as : Option Data → Data → Bool
says_as None content = false
says_as (Some found) content = same_shape (shape_of found) (shape_of content)

-- octet for octet, or by its type
abbrev pub data_reads_by : Known → Data → Option (List ℕ) → Bool
data_reads_by known content (Some octets) = same_octets known.entry.octets octets
data_reads_by known content None = says_as known.says content

abbrev pub data_reads_as : Known → Data → Bool
data_reads_as known content = data_reads_by known content (plain_octets content)

-- a record is read as it was written
abbrev pub reads_as : Known → Written → Bool
reads_as known w =
    same_name known.entry.owner w.owner
    && ((known.entry.rtype == w.rtype) && ((known.entry.class == w.class) && ((known.entry.ttl == w.ttl) && data_reads_as known w.content)))

abbrev pub is_none_left : List (Result Known ParseError) → Bool
is_none_left [] = true
is_none_left (item ∷ items) = false

-- what is read first is this record
abbrev pub begins_with : Written → List (Result Known ParseError) → Bool
begins_with w [] = false
begins_with w (Ok known ∷ items) = reads_as known w
begins_with w (Err e ∷ items) = false

abbrev pub behind_first : List (Result Known ParseError) → List (Result Known ParseError)
behind_first [] = []
behind_first (item ∷ items) = items

-- what is read is one record, as this was written, or no record where none was
abbrev pub is_last : Option OptFields → List (Result Known ParseError) → Bool
is_last None items = is_none_left items
is_last (Some opt) items = begins_with (opt_written opt) items && is_none_left (behind_first items)

-- what is read of a section is what a base has there without the records that are replaced, and then an OPT record
abbrev pub carries_items : Section → Option OptFields → (found base : List (Result Known ParseError)) → Bool
carries_items section opt found [] = is_last opt found
carries_items section opt found (Err e ∷ base) = false
carries_items section opt found (Ok source ∷ base) =
    if is_replaced section source then carries_items section opt found base
    else begins_with (written_from source) found && carries_items section opt (behind_first found) base

abbrev pub carries_found : Section → Option OptFields → (found base : Option (List (Result Known ParseError))) → Bool
carries_found section opt (Some found) (Some base) = carries_items section opt found base
carries_found section opt (Some found) None = false
carries_found section opt None base = false

abbrev pub carries_section : Section → Option OptFields → (octets base : List ℕ) → Bool
carries_section section opt octets base = carries_found section opt (section_items section octets) (section_items section base)

-- the header, the questions and the records of a request
abbrev pub says_request : List ℕ → Request → Bool
says_request octets r =
    same_octets (header_of octets) r.header
    && (same_items (question_items octets) (question_items r.base)
    && (carries_section Answer None octets r.base && (carries_section Authority None octets r.base && carries_section Additional r.opt octets r.base)))

-- octets that are long enough for a header say a request
abbrev pub is_request : List ℕ → Request → Bool
is_request octets r = nat_le 12 (length octets) && says_request octets r

-- a datagram that announces this payload size
abbrev pub is_datagram_of : (size : Option ℕ) → List ℕ → Request → (id : ℕ) → Bool
is_datagram_of size octets r id = is_request octets (announcing size (with_id id r)) && (id_of octets == id)

-- two octets give the length of the rest
abbrev pub is_framed : List ℕ → Bool
is_framed octets = nat_le 2 (length octets) && (nat_lt (length (drop 2 octets)) 65536 && same_octets (take 2 octets) (to_be_bytes w16 (length (drop 2 octets))))

-- so they say a request under this id, with or without the empty option 11
abbrev pub is_either : List ℕ → Request → (id : ℕ) → Bool
is_either octets r id = is_request octets (with_id id r) || is_request octets (with_option 11 [] (with_id id r))

abbrev pub is_frame_of : List ℕ → Request → (id : ℕ) → Bool
is_frame_of octets r id = is_framed octets && (is_either (drop 2 octets) r id && (id_of (drop 2 octets) == id))

abbrev pub carries_by : (size : Option ℕ) → Via → List ℕ → Request → (id : ℕ) → Bool
carries_by size Dgram octets r id = is_datagram_of size octets r id
carries_by size Stream octets r id = is_frame_of octets r id

-- A zone in the form that name servers load: a record a line (RFC 1035 5.1), and behind each the data in a comment.
use Rattle.std.specs.Prelude.{◌≡◌, ℕ, ◌==◌, ◌&&◌, ◌||◌, codes, nat_le, nat_lt, Bool, false, if◌then◌else◌, List, [], ◌∷◌, ◌++◌, length, take, decimal, Option, None, Some, IfSome, Result, Ok, Err}
use Rattle.std.specs.List.{list_any}
use Rattle.std.specs.Int.{w16, w32, to_be_bytes}
use Rattle.dns_values.specs.NumberNames.{class_text, type_text}
use Rattle.dns_values.specs.Sink.{with_octets}
use Rattle.dns_values.specs.declared.error.ParseError.{ParseError}
use Rattle.dns_names.specs.Name.{Found, name_at}
use Rattle.dns_base.specs.Message.{Known, answer_items}
use Rattle.dns_presentation.specs.Generic.{generic_text}
use Rattle.dns_presentation.specs.Names.{absolute_text}
use Rattle.dns_presentation.specs.Octets.{hex_text}
use Rattle.dns_presentation.specs.Records.{known_text}
use Rattle.zone_records.specs.declared.record.ZoneRecord.{ZoneRecord}

-- ---- the data of a record, in presentation form

-- a message without a question, which has one answer
abbrev pub header : List ℕ
header = 0 ∷ 0 ∷ 0 ∷ 0 ∷ 0 ∷ 0 ∷ 0 ∷ 1 ∷ 0 ∷ 0 ∷ 0 ∷ 0 ∷ []

-- the message that has a record alone
unfoldable pub message_of : ZoneRecord → List ℕ
message_of item =
    header ++ item.owner ++ to_be_bytes w16 item.rtype.0 ++ to_be_bytes w16 item.class.0 ++ to_be_bytes w32 item.ttl.0
    ++ to_be_bytes w16 (length item.rdata) ++ item.rdata

-- the first record of a section
unfoldable pub first_of : Option (List (Result Known ParseError)) → Option Known
first_of None = None
first_of (Some []) = None
first_of (Some (Err _ ∷ items)) = None
first_of (Some (Ok known ∷ items)) = Some known

-- The data in presentation form, as a message prints it; and what no message can hold is generic (RFC 3597 5). Of a type that has a
-- form of which nothing is said there, nothing is said here.
unfoldable pub read_text : List ℕ → Option Known → Option (List ℕ)
read_text rdata None = Some (generic_text rdata)
read_text rdata (Some known) = known_text known

-- Types that not each name server reads stand by number, and their data is generic: MD, MF, MB, MG, MR, NULL, WKS, X25, ISDN, RT, NSAP, SIG, PX,
-- GPOS and NXT.
abbrev pub is_rare : ℕ → Bool
is_rare rtype =
    rtype == 3 || rtype == 4 || (nat_le 7 rtype && nat_le rtype 11) || (nat_le 19 rtype && nat_le rtype 22) || rtype == 24 || rtype == 26 || rtype == 27 || rtype == 30

abbrev pub type_word : ℕ → List ℕ
type_word rtype = if is_rare rtype then codes "TYPE" ++ decimal rtype else type_text rtype

unfoldable pub data_text : ZoneRecord → Option (List ℕ)
data_text item =
    if is_rare item.rtype.0 then Some (generic_text item.rdata)
    else if nat_lt (length item.rdata) 65536 then read_text item.rdata (first_of (answer_items (message_of item))) else Some (generic_text item.rdata)

-- ---- lines

abbrev pub has_feed : List ℕ → Bool
has_feed text = list_any (λ c. c == 10) text

-- A text with a line feed would be no line, and generic data stands in its place.
abbrev pub in_line : (rdata text : List ℕ) → List ℕ
in_line rdata text = if has_feed text then generic_text rdata else text

-- an owner, where its octets are a name
abbrev pub owner_text : Option Found → List ℕ
owner_text None = []
owner_text (Some found) = absolute_text found.labels

-- the owner, the seconds, the class and the type, with a blank behind each
abbrev pub front_text : ZoneRecord → List ℕ
front_text item = owner_text (name_at item.owner 0) ++ 32 ∷ decimal item.ttl.0 ++ 32 ∷ class_text item.class.0 ++ 32 ∷ type_word item.rtype.0 ++ 32 ∷ []

-- the line without its line feed, where the data has this text
abbrev pub line_text : (shown : List ℕ) → ZoneRecord → List ℕ
line_text shown item = front_text item ++ shown ++ 32 ∷ 59 ∷ 32 ∷ hex_text item.rdata

-- The data stands on the line in presentation form, and in hexadecimal digits in a comment.
pub record IsLine (item : ZoneRecord) (line : List ℕ) : Type 0 where
  pub shown : List ℕ
  pub shown_is : IfSome (data_text item) (λ text. shown ≡ in_line item.rdata text)
  pub no_feed : has_feed shown ≡ false
  pub line_is : line ≡ line_text shown item

-- A text has one line more.
pub record PutsLine (item : ZoneRecord) (before after : List ℕ) : Type 0 where
  pub line : List ℕ
  pub is_line : IsLine item line
  pub after_is : after ≡ before ++ line ++ 10 ∷ []

-- the lines of records, each with a line feed behind it
pub data IsText : List ZoneRecord → List ℕ → Type 0 where
  no_line : IsText [] []
  line_more : (item : ZoneRecord) (items : List ZoneRecord) (line text : List ℕ) → IsLine item line → IsText items text → IsText (item ∷ items) (line ++ 10 ∷ text)

-- a text of records is written behind what was
pub record Writes (records : List ZoneRecord) (before after : Option (List ℕ)) : Type 0 where
  pub text : List ℕ
  pub is_text : IsText records text
  pub after_is : after ≡ with_octets text before

-- Of the text of the first of records the first octets are written behind what was.
pub record WritesFront (records : List ZoneRecord) (before after : Option (List ℕ)) : Type 0 where
  pub first : List ZoneRecord
  pub behind : List ZoneRecord
  pub records_are : records ≡ first ++ behind
  pub text : List ℕ
  pub is_text : IsText first text
  pub count : ℕ
  pub after_is : after ≡ with_octets (take count text) before

-- What a text says of a zone. Of a line the owner, the TTL, the class, the type and the comment count; the data before that is skipped.
use Rattle.std.specs.Prelude.{◌≡◌, ℕ, ◌+◌, ◌*◌, ◌==◌, if◌then◌else◌, List, [], ◌∷◌, map, Option, None, Some, option_map, Result, Ok, Err}
use Rattle.std.specs.Char.{to_ascii_lowercase}
use Rattle.std.specs.Result.{result_ok}
use Rattle.std.specs.declared.alloc.Global.{Global}
use Rattle.std.specs.declared.vec.Vec.{Vec}
use Rattle.dns_values.specs.Decimal.{decimal_number}
use Rattle.dns_values.specs.NumberNames.{class_of_text, type_of_text}
use Rattle.dns_names.specs.Name.{spelling}
use Rattle.dns_names.specs.Text.{name_of_text}
use Rattle.dns_presentation.specs.Octets.{hex_value, octets_of_hex}
use Rattle.zone_records.specs.declared.record.ZoneRecord.{ZoneRecord}
use Rattle.zone_text.specs.Words.{behind_last, cut_at, pieces_at}
use Rattle.zone_text.specs.declared.fault.LinePart.{LinePart}
use Rattle.zone_text.specs.declared.fault.LinePart.TheVariants as parts
use Rattle.zone_text.specs.declared.fault.TextFault.{TextFault}
use Rattle.zone_text.specs.declared.fault.TextFault.TheVariants as texts
use Rattle.zone_text.specs.declared.fault.WrongLine.{WrongLine}
use Rattle.zone_text.specs.declared.fault.PartFault.{PartFault}
use Rattle.zone_text.specs.declared.fault.PartFault.TheVariants as faults

-- ---- the parts of a line

-- what is wrong where there is nothing
abbrev pub or_wrong : {A : Type 0} → LinePart → Option A → Result A LinePart
or_wrong part None = Err part
or_wrong part (Some x) = Ok x

infixl 10 ◌>>=◌
abbrev pub ◌>>=◌ : {A B : Type 0} → Result A LinePart → (A → Result B LinePart) → Result B LinePart
Ok x >>= next = next x
Err part >>= next = Err part

-- the octets of the name that a text writes, in lower case
abbrev pub owner_says : List ℕ → Result (List ℕ) LinePart
owner_says text = or_wrong parts.Owner (option_map (λ labels. map to_ascii_lowercase (spelling labels)) (result_ok (name_of_text text)))

abbrev pub ttl_says : List ℕ → Result ℕ LinePart
ttl_says text = or_wrong parts.Ttl (decimal_number 4294967295 text)

-- a name, or a number alone, as a zone is printed in numbers
abbrev pub name_or_number : (named numbered : Option ℕ) → Option ℕ
name_or_number None numbered = numbered
name_or_number (Some n) numbered = Some n

abbrev pub class_says : List ℕ → Result ℕ LinePart
class_says text = or_wrong parts.Class (name_or_number (class_of_text text) (decimal_number 65535 text))

abbrev pub type_says : List ℕ → Result ℕ LinePart
type_says text = or_wrong parts.«Type» (name_or_number (type_of_text text) (decimal_number 65535 text))

-- the octet that two digits write
abbrev pub two_say : Option ℕ → Option ℕ → Option ℕ
two_say (Some high) (Some low) = Some (16 * high + low)
two_say high low = None

abbrev pub octet_says : (high low : ℕ) → Option ℕ
octet_says high low = two_say (hex_value high) (hex_value low)

-- a comment: a blank, and digits, two for each octet
abbrev pub comment_says : List ℕ → Option (List ℕ)
comment_says [] = None
comment_says (c ∷ digits) = if c == 32 then octets_of_hex digits else None

-- The data in digits alone, one octet at least, or a hyphen for no octet.
abbrev pub word_says : List ℕ → Option (List ℕ)
word_says [] = None
word_says (c ∷ []) = if c == 45 then Some [] else None
word_says (c ∷ d ∷ digits) = octets_of_hex (c ∷ d ∷ digits)

-- A line with a semicolon has a comment, behind the last of them.
abbrev pub digits_say : (comment : Option (List ℕ)) → List ℕ → Option (List ℕ)
digits_say (Some comment) text = comment_says comment
digits_say None text = word_says text

abbrev pub data_says : List ℕ → Result (List ℕ) LinePart
data_says text = or_wrong parts.Data (digits_say (behind_last 59 text) text)

-- ---- lines

abbrev pub cut_word : List ℕ → Result (List ℕ × List ℕ) LinePart
cut_word text = or_wrong parts.Words (cut_at 32 text)

abbrev pub record_says : (owner ttl class rtype content : List ℕ) → Result ZoneRecord LinePart
record_says owner ttl class rtype content =
    owner_says owner >>= λ owner. ttl_says ttl >>= λ ttl. class_says class >>= λ class. type_says rtype >>= λ rtype. data_says content >>= λ octets.
    Ok (record { owner = owner; rtype = record { 0 = rtype }; class = record { 0 = class }; ttl = record { 0 = ttl }; rdata = octets })

-- The record of a line without its line feed.
abbrev pub line_says : List ℕ → Result ZoneRecord LinePart
line_says line =
    cut_word line >>= λ owner. cut_word owner.1 >>= λ ttl. cut_word ttl.1 >>= λ class. cut_word class.1 >>= λ rtype.
    record_says owner.0 ttl.0 class.0 rtype.0 rtype.1

-- ---- texts

-- the record of the line that begins a text, and what stands behind the line
abbrev pub beside : List ℕ → Result ZoneRecord LinePart → Result (ZoneRecord × List ℕ) LinePart
beside behind (Err part) = Err part
beside behind (Ok item) = Ok (item, behind)

abbrev pub first_says : List ℕ → Result (ZoneRecord × List ℕ) LinePart
first_says text = or_wrong parts.End (cut_at 10 text) >>= λ cut. beside cut.1 (line_says cut.0)

abbrev pub Said : Type 0
Said = Result (List ZoneRecord) WrongLine

abbrev pub wrong : ℕ → LinePart → WrongLine
wrong line part = record { line = line; part = part }

abbrev pub with_record : ZoneRecord → Said → Said
with_record item (Err fault) = Err fault
with_record item (Ok items) = Ok (item ∷ items)

abbrev pub with_line : ℕ → Result ZoneRecord LinePart → Said → Said
with_line line (Err part) more = Err (wrong line part)
with_line line (Ok item) more = with_record item more

-- nothing stands behind the last line feed
abbrev pub end_says : ℕ → List ℕ → Said
end_says line [] = Ok []
end_says line (c ∷ text) = Err (wrong line parts.End)

-- lines in order, from the one of this number on
abbrev pub lines_say : ℕ → List (List ℕ) → Said
lines_say line [] = Ok []
lines_say line (last ∷ []) = end_says line last
lines_say line (piece ∷ next ∷ pieces) = with_line line (line_says piece) (lines_say (line + 1) (next ∷ pieces))

abbrev pub says_from : ℕ → List ℕ → Said
says_from line text = lines_say line (pieces_at 10 text)

-- the records of a text, or its first line that is no record
abbrev pub text_says : List ℕ → Said
text_says text = says_from 1 text

-- ---- what a call answers

-- it is so, or memory ran out
abbrev pub Tells : {A : Type 0} → Result A LinePart → Result A PartFault → Type 0
Tells said (Ok x) = said ≡ Ok x
Tells said (Err (faults.Wrong part)) = said ≡ Err part
Tells said (Err faults.NoMemory) = Unit {0}

-- these are the octets, if there are any to be read
abbrev pub TellsOctets : Option (List ℕ) → Option (Vec ℕ Global) → Type 0
TellsOctets said None = said ≡ None
TellsOctets said (Some octets) = said ≡ Some octets.items

-- the same of a fault alone
abbrev pub TellsPart : {A : Type 0} → Result A LinePart → PartFault → Type 0
TellsPart said (faults.Wrong part) = said ≡ Err part
TellsPart said faults.NoMemory = Unit {0}

abbrev pub TellsFault : {A : Type 0} → Result A WrongLine → TextFault → Type 0
TellsFault said (texts.Wrong at) = said ≡ Err at
TellsFault said texts.NoMemory = Unit {0}

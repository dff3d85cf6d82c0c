-- The zone that a text has.
use Rattle.std.specs.Prelude.{◌≡◌, ◌+◌, ◌-◌, ℕ, Bool, false, if◌then◌else◌, List, [], ◌∷◌, length, nat_lt, Option, None, Some, IsSome, Result, Ok, Err}
use Rattle.std.specs.Str.{IsUtf8}
use Rattle.dns_base.specs.Numbers.{u32_at}
use Rattle.dns_names.specs.Name.{Found, Labels, name_at, same_name}
use Rattle.zone_records.specs.Folding.{Zone, has}
use Rattle.zone_records.specs.Records.{is_soa}
use Rattle.zone_records.specs.declared.record.ZoneRecord.{ZoneRecord}
use Rattle.zone_text.specs.Saying.{first_says, line_says, or_wrong, text_says, wrong, ◌>>=◌}
use Rattle.zone_text.specs.Words.{pieces_at}
use Rattle.zone_text.specs.declared.fault.LinePart.{LinePart}
use Rattle.zone_text.specs.declared.fault.LinePart.TheVariants as parts
use Rattle.zone_text.specs.declared.fault.WrongLine.{WrongLine}
use Rattle.zone_text.specs.declared.zone.Flaw.TheVariants as flaws
use Rattle.zone_text.specs.declared.zone.Unread.{Unread}
use Rattle.zone_text.specs.declared.zone.Unread.TheVariants as unread

-- ---- the SOA

-- the serial in the data of an SOA without compression, which 16 octets follow (RFC 1035 3.3.13)
abbrev pub serial_of : List ℕ → Option ℕ
serial_of rdata = if nat_lt (length rdata) 20 then None else Some (u32_at rdata (length rdata - 20))

-- Octets are a name, up to case.
abbrev pub is_name : Labels → Option Found → Bool
is_name apex None = false
is_name apex (Some found) = same_name found.labels apex

-- A record's owner is the apex.
abbrev pub is_at : Labels → ZoneRecord → Bool
is_at apex item = is_name apex (name_at item.owner 0)

-- the serial of an SOA, which is to be the apex's
abbrev pub own_soa_says : Labels → ZoneRecord → Result ℕ LinePart
own_soa_says apex soa = if is_at apex soa then or_wrong parts.Serial (serial_of soa.rdata) else Err parts.Apex

-- and the first: one of this serial stands before it, or none
abbrev pub soa_says : Labels → (found : Option ℕ) → ZoneRecord → Result ℕ LinePart
soa_says apex (Some serial) soa = Err parts.SecondSoa
soa_says apex None soa = own_soa_says apex soa

abbrev pub found_one : Result ℕ LinePart → Result (Option ℕ) LinePart
found_one (Err part) = Err part
found_one (Ok serial) = Ok (Some serial)

-- the serial as far as a record, where it is this one before that, or none
abbrev pub serial_after : Labels → (found : Option ℕ) → ZoneRecord → Result (Option ℕ) LinePart
serial_after apex found item = if is_soa item then found_one (soa_says apex found item) else Ok found

abbrev pub SerialFound : Type 0
SerialFound = Result (Option ℕ) WrongLine

abbrev pub go_on : (line : ℕ) → Result (Option ℕ) LinePart → (Option ℕ → SerialFound) → SerialFound
go_on line (Err part) more = Err (wrong line part)
go_on line (Ok found) more = more found

-- ---- lines

-- the serial as far as a line, which is to be a record
abbrev pub line_serial : Labels → (found : Option ℕ) → List ℕ → Result (Option ℕ) LinePart
line_serial apex found line = line_says line >>= λ item. serial_after apex found item

-- the same of the line that begins a text
abbrev pub first_serial : Labels → (found : Option ℕ) → List ℕ → Result (Option ℕ) LinePart
first_serial apex found text = first_says text >>= λ first. serial_after apex found first.0

-- nothing stands behind the last line feed
abbrev pub end_serial : (line : ℕ) → (found : Option ℕ) → List ℕ → SerialFound
end_serial line found [] = Ok found
end_serial line found (c ∷ text) = Err (wrong line parts.End)

-- lines in order, from the one of this number on
abbrev pub serial_lines : Labels → (line : ℕ) → (found : Option ℕ) → List (List ℕ) → SerialFound
serial_lines apex line found [] = Ok found
serial_lines apex line found (last ∷ []) = end_serial line found last
serial_lines apex line found (piece ∷ next ∷ pieces) = go_on line (line_serial apex found piece) (λ serial. serial_lines apex (line + 1) serial (next ∷ pieces))

abbrev pub serial_from : Labels → (line : ℕ) → (found : Option ℕ) → List ℕ → SerialFound
serial_from apex line found text = serial_lines apex line found (pieces_at 10 text)

-- The serial of the one SOA among the lines of a text, which is the apex's, if there is one; or the first line that is no record, or has another SOA.
abbrev pub serial_said : Labels → List ℕ → SerialFound
serial_said apex text = serial_from apex 1 None text

-- ---- the zone

-- A zone has the records that a text says, and the serial of the one SOA among them, which is its apex's.
pub record IsZoneIn (text : List ℕ) (apex : Labels) (zone : Zone) : Type 0 where
  pub is_text : IsUtf8 text
  pub records : List ZoneRecord
  pub says : text_says text ≡ Ok records
  pub holds : (r : ZoneRecord) → has zone.records r ≡ has records r
  pub has_apex : zone.apex ≡ apex
  pub serial : serial_said apex text ≡ Ok zone.serial
  pub has_serial : IsSome zone.serial

-- What a flaw tells of a text that is to have a zone with this apex.
abbrev pub HasFlaw : List ℕ → Labels → Unread → Type 0
HasFlaw text apex (unread.NoZone flaws.Text) = ¬ (IsUtf8 text)
HasFlaw text apex (unread.NoZone (flaws.Line at)) = serial_said apex text ≡ Err at
HasFlaw text apex (unread.NoZone flaws.Soa) = serial_said apex text ≡ Ok None
HasFlaw text apex unread.NoMemory = Unit {0}

-- A zone as lines of text.
use Rattle.std.specs.Prelude.{◌≡◌, ℕ, Bool, true, false, List, ◌++◌, Option}
use Rattle.command_parts.specs.Ends.{IsBegun}
use Rattle.dns_values.specs.Sink.{with_octets}
use Rattle.zone_records.specs.declared.record.ZoneRecord.{ZoneRecord}
use Rattle.zone_text.specs.Lines.{IsText}
use Rattle.zone_text.specs.Numbers.{numbers_text}

-- A text has the lines of records, in numbers and hexadecimal digits alone or in the form that name servers load.
abbrev pub IsZoneText : (is_loaded : Bool) → List ZoneRecord → List ℕ → Type 0
IsZoneText false records text = text ≡ numbers_text records
IsZoneText true records text = IsText records text

-- It has the lines of the first of them, or of all.
pub record IsFrontText (is_loaded : Bool) (records : List ZoneRecord) (text : List ℕ) : Type 0 where
  pub first : List ZoneRecord
  pub behind : List ZoneRecord
  pub records_are : records ≡ first ++ behind
  pub is_text : IsZoneText is_loaded first text

-- The text of records is written behind what was.
pub record WritesZone (is_loaded : Bool) (records : List ZoneRecord) (before after : Option (List ℕ)) : Type 0 where
  pub text : List ℕ
  pub is_text : IsZoneText is_loaded records text
  pub written : after ≡ with_octets text before

-- Its first octets are, or all.
pub record BeginsZone (is_loaded : Bool) (records : List ZoneRecord) (before after : Option (List ℕ)) : Type 0 where
  pub text : List ℕ
  pub is_front : IsFrontText is_loaded records text
  pub begun : IsBegun text before after

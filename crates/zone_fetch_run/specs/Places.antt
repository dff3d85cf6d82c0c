-- Files that are put in the place of others.
use Rattle.std.specs.Prelude.{◌≡◌, ℕ, Bool, List, [], ◌∷◌, ◌++◌, Option, None, Some}
use Rattle.zone_records.specs.declared.record.ZoneRecord.{ZoneRecord}
use Rattle.zone_fetch_run.specs.Lines.{IsZoneText}

-- which octets were put in the place of the file at which path, in order, where that is told
abbrev pub Placed : Type 0
Placed = Option (List (List ℕ × List ℕ))

abbrev pub with_place : (path : List ℕ) → (octets : Option (List ℕ)) → Placed → Placed
with_place path (Some octets) (Some places) = Some (places ++ (path, octets) ∷ [])
with_place path (Some octets) None = None
with_place path None places = None

-- These octets were put there, where that is told.
abbrev pub IsPlaced : (path octets : List ℕ) → (before after : Placed) → Type 0
IsPlaced path octets (Some before) (Some after) = after ≡ before ++ (path, octets) ∷ []
IsPlaced path octets (Some before) None = Unit {0}
IsPlaced path octets None after = Unit {0}

-- The text of records was put there.
pub record PlacesZone (is_loaded : Bool) (records : List ZoneRecord) (path : List ℕ) (before after : Placed) : Type 0 where
  pub text : List ℕ
  pub is_text : IsZoneText is_loaded records text
  pub placed : IsPlaced path text before after

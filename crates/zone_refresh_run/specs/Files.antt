-- Files of zones that are kept.
use Rattle.std.specs.Prelude.{◌≡◌, ℕ, List, Option, Some, IfSome}
use Rattle.dns_names.specs.Name.{Labels}
use Rattle.dns_values.specs.Source.{Rose}
use Rattle.zone_records.specs.Folding.{Zone}
use Rattle.zone_refresh.specs.declared.kept.ZoneTimers.{ZoneTimers}
use Rattle.zone_text.specs.Zones.{IsZoneIn}
use Rattle.zone_refresh_run.specs.Timers.{timers_among}
use Rattle.zone_refresh_run.specs.declared.files.FileFault.{FileFault}
use Rattle.zone_refresh_run.specs.declared.files.FileFault.TheVariants.{Unread, NoMemory}

-- what a file has at each path, where that is told
abbrev pub Files : Type 0
Files = Option (List ℕ → Option (List ℕ))

-- The file at a path has these octets, where that is told.
abbrev pub IsAt : (path : List ℕ) → Files → (octets : List ℕ) → Type 0
IsAt path files octets = IfSome files (λ file_at. file_at path ≡ Some octets)

-- Where a file can't be read, the count of faults rose.
abbrev pub RoseUnread : (faults faults_after : ℕ) → FileFault → Type 0
RoseUnread faults faults_after Unread = Rose faults faults_after
RoseUnread faults faults_after NoMemory = Unit {0}

-- A text has a zone with this apex, whose SOA says these times.
pub record SaysTimers (text : List ℕ) (apex : Labels) (timers : ZoneTimers) : Type 0 where
  pub zone : Zone
  pub is_zone : IsZoneIn text apex zone
  pub says : timers_among zone.records ≡ Some timers

-- The file at a path has such a text.
pub record HasTimers (apex : Labels) (path : List ℕ) (files : Files) (timers : ZoneTimers) : Type 0 where
  pub text : List ℕ
  pub at : IsAt path files text
  pub says : SaysTimers text apex timers

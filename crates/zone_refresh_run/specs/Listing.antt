-- The list of the zones that are kept, as a file has it.
use Rattle.std.specs.Prelude.{◌≡◌, ℕ, List, [], Option, Ok}
use Rattle.command_parts.specs.Ends.{IsSaid}
use Rattle.zone_list.specs.Listing.{TellsFault, TextSays}
use Rattle.zone_list.specs.declared.fault.ListFault.TheVariants as lists
use Rattle.zone_list.specs.declared.listed.Listed.{Listed}
use Rattle.zone_refresh_run.specs.Files.{Files, IsAt, RoseUnread}
use Rattle.zone_refresh_run.specs.Sentences.{unlisted_sentence}
use Rattle.zone_refresh_run.specs.declared.files.FileFault.TheVariants.{Unread, NoMemory}
use Rattle.zone_refresh_run.specs.declared.listing.Unlisted.{Unlisted}
use Rattle.zone_refresh_run.specs.declared.listing.Unlisted.TheVariants as unlisted

-- The file at a path is a list of these zones.
pub record IsListed (path : List ℕ) (files : Files) (zones : List Listed) : Type 0 where
  pub text : List ℕ
  pub at : IsAt path files text
  pub says : TextSays text (Ok zones)

-- why it is none: it can't be read, what it has is no list, or one of no zone
abbrev pub IsUnlisted : (path : List ℕ) → Files → (faults faults_after : ℕ) → Unlisted → Type 0
IsUnlisted path files faults faults_after (unlisted.File fault) = RoseUnread faults faults_after fault
IsUnlisted path files faults faults_after (unlisted.List fault) = (text : List ℕ) × IsAt path files text × TellsFault text fault
IsUnlisted path files faults faults_after unlisted.NoZone = IsListed path files []

abbrev pub status_of : Unlisted → ℕ
status_of (unlisted.File Unread) = 3
status_of (unlisted.File NoMemory) = 6
status_of (unlisted.List (lists.Wrong wrong)) = 1
status_of (unlisted.List lists.TooLong) = 1
status_of (unlisted.List lists.NoMemory) = 6
status_of unlisted.NoZone = 1

-- The file at a path is no list of a zone, and a sentence says why.
pub record RefusesList (path : List ℕ) (files : Files) (before after : Option (List ℕ)) (faults faults_after : ℕ) : Type 0 where
  pub fault : Unlisted
  pub text : List ℕ
  pub at : IsAt path files text
  pub is : status_of fault ≡ 1
  pub said : IsSaid (unlisted_sentence path fault) before after faults faults_after

-- What the program ends with.
use Rattle.std.specs.Prelude.{◌≡◌, ◌⊎◌, ℕ, Bool, List, Option, None, Some, Ok, Err, String, IfSome}
use Rattle.std.specs.String.{string_bytes}
use Rattle.std.specs.declared.alloc.Global.{Global}
use Rattle.dns_names.specs.Name.{Labels}
use Rattle.client_core.specs.declared.edge.Deed.{Deed}
use Rattle.command_parts.specs.Ends.{IsSaid}
use Rattle.dns_values.specs.Sink.{IsFlushed}
use Rattle.dns_values.specs.Source.{Rose}
use Rattle.dns_values.specs.declared.numbers.Status.{Status}
use Rattle.zone_records.specs.Folding.{Zone, empty_zone}
use Rattle.zone_records.specs.declared.record.ZoneRecord.{ZoneRecord}
use Rattle.zone_text.specs.Zones.{HasFlaw, IsZoneIn}
use Rattle.zone_text.specs.declared.zone.Flaw.{Flaw}
use Rattle.zone_text.specs.declared.zone.Unread.TheVariants.{NoZone}
use Rattle.zone_transfer.specs.Turning.{Scene}
use Rattle.zone_fetch_run.specs.Fetching.{IsBrought, over}
use Rattle.zone_fetch_run.specs.Lines.{BeginsZone, WritesZone}
use Rattle.zone_fetch_run.specs.Places.{Placed, PlacesZone}
use Rattle.zone_fetch_run.specs.Sentences.{detour_sentence, refusal_sentence, stop_sentence, unwritten_sentence}
use Rattle.zone_fetch_run.specs.Stops.{Tells, line_of, status_of}
use Rattle.zone_fetch_run.specs.Words.{IsCommand}
use Rattle.zone_fetch_run.specs.declared.command.Command.{Command}
use Rattle.zone_fetch_run.specs.declared.leading.Detour.{Detour}
use Rattle.zone_fetch_run.specs.declared.leading.Left.{Left}
use Rattle.zone_fetch_run.specs.declared.stop.Stop.{Stop}
use Rattle.zone_fetch_run.specs.declared.stop.Stop.TheVariants.{Unread, NotPrinted, NotBrought, NoMemory}
use Rattle.zone_fetch_run.specs.declared.world.FetchWorld.{FetchWorld}
use Rattle.zone_fetch_run.specs.declared.wrong.Refusal.{Refusal}

-- what a file has at each path, where that is told
abbrev pub Files : Type 0
Files = Option (List ℕ → Option (List ℕ))

-- ---- the zone before

-- A file has a text of the zone with this apex, where the files are told.
pub record IsFiled (apex : Labels) (path : List ℕ) (files : Files) (zone : Zone) : Type 0 where
  pub text : List ℕ
  pub at : IfSome files (λ file_at. file_at path ≡ Some text)
  pub is_zone : IsZoneIn text apex zone

abbrev pub IsBaseAt : Option (String Global) → Labels → Files → Zone → Type 0
IsBaseAt None apex files zone = zone ≡ empty_zone apex
IsBaseAt (Some path) apex files zone = IsFiled apex (string_bytes path) files zone

-- what a file has that the words name, or nothing
abbrev pub IsBase : Command → Files → Zone → Type 0
IsBase command files zone = IsBaseAt command.file command.apex files zone

-- What a file has is no text of the zone with this apex, whatever zone, and this is why: which line is wrong first, and how.
pub record IsFlawed (apex : Labels) (path : List ℕ) (files : Files) (flaw : Flaw) : Type 0 where
  pub text : List ℕ
  pub at : IfSome files (λ file_at. file_at path ≡ Some text)
  pub flawed : HasFlaw text apex (NoZone flaw)
  pub none : (zone : Zone) → ¬ (IsZoneIn text apex zone)

-- why a file's octets are not there: it can't be read, or memory ran out
abbrev pub IsOfReading : Stop → Type 0
IsOfReading Unread = Unit {0}
IsOfReading NoMemory = Unit {0}
IsOfReading (NotPrinted flaw) = ⊥
IsOfReading (NotBrought left) = ⊥

-- why the file at a path gives no zone: it can't be read, or has no text of that zone, or memory ran out
abbrev pub IsOfFile : Labels → (path : List ℕ) → Files → Stop → Type 0
IsOfFile apex path files Unread = Unit {0}
IsOfFile apex path files (NotPrinted flaw) = IsFlawed apex path files flaw
IsOfFile apex path files NoMemory = Unit {0}
IsOfFile apex path files (NotBrought left) = ⊥

abbrev pub IsUnbasedAt : Option (String Global) → Labels → Files → Stop → Type 0
IsUnbasedAt None apex files stop = ⊥
IsUnbasedAt (Some path) apex files stop = IsOfFile apex (string_bytes path) files stop

abbrev pub IsUnbased : Command → Files → Stop → Type 0
IsUnbased command files stop = (stop ≡ NoMemory) ⊎ IsUnbasedAt command.file command.apex files stop

-- Where a file can't be read, the count of faults rose.
abbrev pub RoseUnread : (faults faults_after : ℕ) → Stop → Type 0
RoseUnread faults faults_after Unread = Rose faults faults_after
RoseUnread faults faults_after (NotPrinted flaw) = Unit {0}
RoseUnread faults faults_after NoMemory = Unit {0}
RoseUnread faults faults_after (NotBrought left) = Unit {0}

-- ---- the zone that the words ask for

abbrev pub Texts : Type 0
Texts = List (String Global)

-- There is one, by what the files and the random words tell, and by what the edges and the clock do; and why it was asked for whole, if its changes were asked for before.
pub record HasZone (command : Command) (files : Files) (random : ℕ → ℕ) (after : Zone) (detour : Option Detour) (old new later later_new : Scene) : Type 0 where
  pub zone : Zone
  pub base : IsBase command files zone
  pub brought : IsBrought command random zone after detour (Ok tt) old new later later_new

-- or why there is none
pub data HasStopped (command : Command) (files : Files) (random : ℕ → ℕ) (detour : Option Detour) (stop : Stop) (old new later later_new : Scene) : Type 0 where
  no_base : IsUnbased command files stop → detour ≡ None → HasStopped command files random detour stop old new later later_new
  is_left : (zone after : Zone) (left : Left) → stop ≡ NotBrought left → IsBase command files zone → IsBrought command random zone after detour (Err left) old new later later_new
      → HasStopped command files random detour stop old new later later_new

-- ---- how the program ends

-- what it comes to: memory ran out before anything was asked; or the words are refused; or there is no zone; or one that is written whole, or not whole; or memory ran out then
pub data End : Type 0 where
  unread : End
  refused : Refusal → End
  stopped : Command → Option Detour → Stop → End
  written : Command → Option Detour → List ZoneRecord → End
  unwritten : Command → Option Detour → List ZoneRecord → End
  ran_out : Command → End

-- how a command ends, by its status, where this is what is told at each end
pub data CommandEnds (command : Command) (files : Files) (random : ℕ → ℕ) (Tells : End → Type 0) (status : ℕ) (old new later later_new : Scene) : Type 0 where
  is_stopped : (detour : Option Detour) (stop : Stop) → HasStopped command files random detour stop old new later later_new → status ≡ status_of stop → Tells (stopped command detour stop)
      → CommandEnds command files random Tells status old new later later_new
  is_written : (detour : Option Detour) (zone : Zone) → HasZone command files random zone detour old new later later_new → status ≡ 0 → Tells (written command detour zone.records)
      → CommandEnds command files random Tells status old new later later_new
  is_unwritten : (detour : Option Detour) (zone : Zone) → HasZone command files random zone detour old new later later_new → status ≡ 4 → Tells (unwritten command detour zone.records)
      → CommandEnds command files random Tells status old new later later_new
  is_out : status ≡ 6 → Tells (ran_out command) → CommandEnds command files random Tells status old new later later_new

-- how the program does
pub data FetchEnds (words : Texts) (files : Files) (random : ℕ → ℕ) (Tells : End → Type 0) (status : ℕ) (old new later later_new : Scene) : Type 0 where
  is_unread : status ≡ 6 → Tells unread → FetchEnds words files random Tells status old new later later_new
  is_refused : (refusal : Refusal) → IsCommand words (Err refusal) → status ≡ 2 → Tells (refused refusal) → FetchEnds words files random Tells status old new later later_new
  is_command : (command : Command) → IsCommand words (Ok command) → CommandEnds command files random Tells status old new later later_new → FetchEnds words files random Tells status old new later later_new

-- What a sink holds then, where lines are written to it that tell why there is no zone.
abbrev pub TellsByLine : {K : Type 0} → (K → Option (List ℕ)) → (K → ℕ) → (before after : K) → End → Type 0
TellsByLine held faults before after unread = held after ≡ held before
TellsByLine held faults before after (refused refusal) = held after ≡ held before
TellsByLine held faults before after (stopped command detour stop) = Tells (line_of stop) (held before) (held after) (faults before) (faults after)
TellsByLine held faults before after (written command detour records) = WritesZone command.text records (held before) (held after)
TellsByLine held faults before after (unwritten command detour records) = BeginsZone command.text records (held before) (held after) × Rose (faults before) (faults after)
TellsByLine held faults before after (ran_out command) = Unit {0}

abbrev pub LineEnds : {K : Type 0} → (K → Option (List ℕ)) → (K → ℕ) → Texts → Files → (random : ℕ → ℕ) → Status → (before after : K) → (old new later later_new : Scene) → Type 0
LineEnds held faults words files random status before after old new later later_new = FetchEnds words files random (TellsByLine held faults before after) status.0 old new later later_new

-- ---- what is told where a zone may be put in the place of a file, and sentences have a sink of their own

-- The text of records was written to a sink and handed on, and no file was replaced; or it was put in the place of the file, and the sink is as it was.
abbrev pub PutsZone : Option (String Global) → (is_loaded : Bool) → List ZoneRecord → (before after : Option (List ℕ) × Placed) → (flushed : Option (List ℕ)) → Type 0
PutsZone None is_loaded records before after flushed = WritesZone is_loaded records before.0 after.0 × IsFlushed after.0 flushed × (after.1 ≡ before.1)
PutsZone (Some path) is_loaded records before after flushed = (after.0 ≡ before.0) × PlacesZone is_loaded records (string_bytes path) before.1 after.1

-- Its first octets were written to a sink, or all; or none, where it was to be put in the place of a file.
abbrev pub PutsInPart : Option (String Global) → (is_loaded : Bool) → List ZoneRecord → (before after : Option (List ℕ)) → Type 0
PutsInPart None is_loaded records before after = BeginsZone is_loaded records before after
PutsInPart (Some path) is_loaded records before after = after ≡ before

-- Nothing was written to a sink, where the zone was to be put in the place of a file.
abbrev pub IsSpared : Option (String Global) → (before after : Option (List ℕ)) → Type 0
IsSpared None before after = Unit {0}
IsSpared (Some path) before after = after ≡ before

-- The sink failed, or what puts files in the place of others.
abbrev pub Failed : Option (String Global) → (before after : ℕ × ℕ) → Type 0
Failed None before after = Rose before.0 after.0
Failed (Some path) before after = Rose before.1 after.1

-- One text is told, if it has an octet, and another behind it.
pub record SaysBoth (first second : List ℕ) (before after : Option (List ℕ)) (faults faults_after : ℕ) : Type 0 where
  pub mid : Option (List ℕ)
  pub faults_mid : ℕ
  pub first_told : Tells first before mid faults faults_mid
  pub second_told : IsSaid second mid after faults_mid faults_after

-- what the sinks tell, and what was put in the place of files
pub record Sight : Type 0 where
  pub held : Option (List ℕ)
  pub flushed : Option (List ℕ)
  pub faults : ℕ
  pub placed : Placed
  pub file_faults : ℕ
  pub said : Option (List ℕ)
  pub said_faults : ℕ

abbrev pub sight : {K F L : Type 0} → (K → Option (List ℕ)) → (K → Option (List ℕ)) → (K → ℕ) → (F → Placed) → (F → ℕ) → (L → Option (List ℕ)) → (L → ℕ) → K × F × L → Sight
sight held flushed faults placed file_faults said said_faults parts = record {
  held = held parts.0;
  flushed = flushed parts.0;
  faults = faults parts.0;
  placed = placed parts.1;
  file_faults = file_faults parts.1;
  said = said parts.2;
  said_faults = said_faults parts.2;
}

-- what holds of that before and after a call
abbrev pub seen : {K F L : Type 0} {R : Type 1} → (K → Option (List ℕ)) → (K → Option (List ℕ)) → (K → ℕ) → (F → Placed) → (F → ℕ) → (L → Option (List ℕ)) → (L → ℕ) → (old new : K × F × L)
    → (Sight → Sight → R) → R
seen held flushed faults placed file_faults said said_faults old new P =
    P (sight held flushed faults placed file_faults said said_faults old) (sight held flushed faults placed file_faults said said_faults new)

-- A zone is put where the words say; or nothing is written, and the sentence says why; or not the whole zone, which a sentence says. Before that a sentence says why the zone was asked for whole, if its changes
-- were asked for before. No file is replaced but by the whole zone, and nothing is written to the sink where one is to be.
abbrev pub TellsBySentence : Texts → (before after : Sight) → End → Type 0
TellsBySentence words before after unread = (after.held ≡ before.held) × (after.placed ≡ before.placed)
TellsBySentence words before after (refused refusal) =
    (after.held ≡ before.held) × (after.placed ≡ before.placed) × IsSaid (refusal_sentence words refusal) before.said after.said before.said_faults after.said_faults
TellsBySentence words before after (stopped command detour stop) =
    (after.held ≡ before.held) × (after.placed ≡ before.placed)
    × SaysBoth (detour_sentence command detour) (stop_sentence command stop) before.said after.said before.said_faults after.said_faults
TellsBySentence words before after (written command detour records) =
    PutsZone command.output command.text records (before.held, before.placed) (after.held, after.placed) after.flushed
    × Tells (detour_sentence command detour) before.said after.said before.said_faults after.said_faults
TellsBySentence words before after (unwritten command detour records) =
    Failed command.output (before.faults, before.file_faults) (after.faults, after.file_faults) × PutsInPart command.output command.text records before.held after.held × (after.placed ≡ before.placed)
    × SaysBoth (detour_sentence command detour) (unwritten_sentence command) before.said after.said before.said_faults after.said_faults
TellsBySentence words before after (ran_out command) = IsSpared command.output before.held after.held × (after.placed ≡ before.placed)

-- how it ends in its world, by what the parts of that tell
abbrev pub FetchEndsIn : {O E C W P F : Type 0} → (E → Option (List Deed)) → (E → ℕ) → (C → Option (List ℕ)) → (O → Files) → (W → ℕ → ℕ) → Texts → (End → Type 0) → (status : ℕ) → (old new : FetchWorld O E C W P F) → Type 0
FetchEndsIn deeds polls given files stream words Tells status old new =
    over deeds polls given (old.edge, old.later, old.means.clock) (new.edge, new.later, new.means.clock) (FetchEnds words (files old.opener) (stream old.means.random) Tells status)

-- the same of a command
abbrev pub CommandEndsIn : {O E C W P F : Type 0} → (E → Option (List Deed)) → (E → ℕ) → (C → Option (List ℕ)) → (O → Files) → (W → ℕ → ℕ) → Command → (End → Type 0) → (status : ℕ) → (old new : FetchWorld O E C W P F) → Type 0
CommandEndsIn deeds polls given files stream command Tells status old new =
    over deeds polls given (old.edge, old.later, old.means.clock) (new.edge, new.later, new.means.clock) (CommandEnds command (files old.opener) (stream old.means.random) Tells status)

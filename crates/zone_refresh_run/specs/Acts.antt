-- What a system does.
use Rattle.std.specs.Prelude.{◌≡◌, ℕ, ◌-◌, max, nat_lt, false, if◌then◌else◌, List, [], ◌∷◌, ◌++◌, length, map, Option, None, Some, is_some, Result, option_and_then, option_map, slice_get}
use Rattle.dns_names.specs.Name.{Labels}
use Rattle.dns_values.specs.declared.address.SocketAddr.{SocketAddr}
use Rattle.dns_values.specs.declared.numbers.Serial.{Serial}
use Rattle.zone_fetch_run.specs.declared.command.Command.{Command}
use Rattle.zone_list.specs.declared.listed.Listed.{Listed}
use Rattle.zone_refresh.specs.declared.kept.KeptZone.{KeptZone}
use Rattle.zone_refresh.specs.declared.kept.Phase.TheVariants.{Waiting}
use Rattle.zone_refresh.specs.declared.kept.ZoneTimers.{ZoneTimers}
use Rattle.zone_refresh_run.specs.Sentences.{kept_sentence, news_sentence}
use Rattle.zone_refresh_run.specs.declared.keeper.KeptFile.{KeptFile}
use Rattle.zone_refresh_run.specs.declared.serials.NoSerial.{NoSerial}
use Rattle.zone_refresh_run.specs.declared.world.ZoneNews.{ZoneNews}

-- Its clock gave a moment; it slept so many microseconds; it asked a primary for the SOA of a zone, and this was said; it read the file at a path, which has that zone with these times, or has it not;
-- it fetched a zone, which ended by this status; it told a sentence.
pub data Act : Type 0 where
  did_look : (moment : ℕ) → Act
  did_sleep : (micros : ℕ) → Act
  did_ask : (zone : Labels) (primary : SocketAddr) (said : Result Serial NoSerial) → Act
  did_read : (zone : Labels) (path : List ℕ) (timers : Option ZoneTimers) → Act
  did_fetch : (command : Command) (status : ℕ) → Act
  did_tell : (sentence : List ℕ) → Act

abbrev pub Acts : Type 0
Acts = Option (List Act)

abbrev pub after_act : Act → Acts → Acts
after_act act acts = option_map (λ before. before ++ act ∷ []) acts

-- ---- what is done for the zones of a list, counted from 0

-- the primary of a number of the zone of a number
abbrev pub primary_at : List KeptFile → (zone primary : ℕ) → Option SocketAddr
primary_at files zone primary = option_and_then (λ file. slice_get file.listed.primaries primary) (slice_get files zone)

-- That primary is asked for the SOA of that zone, and this was said. Without one nobody is.
pub data AsksAt (files : List KeptFile) (zone primary : ℕ) (said : Option (Result Serial NoSerial)) (old new : Acts) : Type 0 where
  asks_nobody : primary_at files zone primary ≡ None → said ≡ None → new ≡ old → AsksAt files zone primary said old new
  asks_primary : (file : KeptFile) (addr : SocketAddr) (answer : Result Serial NoSerial) → slice_get files zone ≡ Some file → slice_get file.listed.primaries primary ≡ Some addr
      → said ≡ Some answer → new ≡ after_act (did_ask file.listed.zone addr answer) old → AsksAt files zone primary said old new

-- The clock is looked at, and it is slept until this moment, if that is yet to come.
abbrev pub slept : (now moment : ℕ) → Acts → Acts
slept now moment acts = if nat_lt now moment then after_act (did_sleep (moment - now)) acts else acts

pub record Sleeps (moment : ℕ) (old new : Acts) : Type 0 where
  pub now : ℕ
  pub acts : new ≡ slept now moment (after_act (did_look now) old)

-- One sentence is told, or none, for want of memory.
pub data Tells (sentence : List ℕ) (old new : Acts) : Type 0 where
  tells : new ≡ after_act (did_tell sentence) old → Tells sentence old new
  tells_nothing : new ≡ old → Tells sentence old new

-- Of the zone of a number this is told, where this was said last; of none nothing is.
pub data TellsAt (files : List KeptFile) (zone : ℕ) (news : ZoneNews) (said : Option (Result Serial NoSerial)) (old new : Acts) : Type 0 where
  tells_of_zone : (file : KeptFile) → slice_get files zone ≡ Some file → Tells (news_sentence file.listed said news) old new → TellsAt files zone news said old new
  tells_of_none : slice_get files zone ≡ None → new ≡ old → TellsAt files zone news said old new

-- ---- how a zone begins to be kept

-- with what its file has at a moment; it is due at once
abbrev pub started : Listed → (now : ℕ) → Option ZoneTimers → KeptZone
started listed now held = record { primaries = max (length listed.primaries) 1; held = held; confirmed = now; phase = Waiting now; told = false }

-- Its file is read, and that it is kept is told.
pub record Starts (listed : Listed) (held : Option ZoneTimers) (old new : Acts) : Type 0 where
  pub mid : Acts
  pub read : mid ≡ after_act (did_read listed.zone listed.file held) old
  pub told : Tells (kept_sentence listed held) mid new

-- Each of these zones begins so, of the list in order, where each has what it says that is held.
abbrev pub all_started : List Listed → (now : ℕ) → List KeptZone → List KeptZone
all_started [] now zones = []
all_started (item ∷ items) now [] = []
all_started (item ∷ items) now (zone ∷ zones) = started item now zone.held ∷ all_started items now zones

abbrev pub listed_in : List KeptFile → List Listed
listed_in files = map (λ file. file.listed) files

-- One after another they are read, and told of.
abbrev pub StartAll : List Listed → List KeptZone → (old new : Acts) → Type 0
StartAll [] zones old new = new ≡ old
StartAll (item ∷ items) [] old new = ⊥
StartAll (item ∷ items) (zone ∷ zones) old new = (mid : Acts) × Starts item zone.held old mid × StartAll items zones mid new

-- The zones of a list are kept from a moment on, and of each it is known whether its file has it.
pub record AreStarted (listed : List Listed) (now : ℕ) (zones : List KeptZone) (files : List KeptFile) (old new : Acts) : Type 0 where
  pub same : listed_in files ≡ listed
  pub zones_begin : zones ≡ all_started listed now zones
  pub have : map (λ file. file.has_zone) files ≡ map (λ zone. is_some zone.held) zones
  pub acts : StartAll listed zones old new

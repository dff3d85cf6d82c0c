-- A zone that is fetched into its file.
use Rattle.std.specs.Prelude.{◌≡◌, ℕ, ◌==◌, ◌||◌, ◌&&◌, Bool, true, false, if◌then◌else◌, List, Option, None, Some, option_map, slice_get}
use Rattle.std.specs.String.{string_bytes}
use Rattle.dns_values.specs.declared.address.SocketAddr.{SocketAddr}
use Rattle.zone_fetch_run.specs.declared.command.Command.{Command}
use Rattle.zone_list.specs.declared.listed.Listed.{Listed}
use Rattle.zone_refresh.specs.declared.kept.ZoneTimers.{ZoneTimers}
use Rattle.zone_refresh_run.specs.Acts.{Acts, after_act, did_fetch, did_read, primary_at}
use Rattle.zone_refresh_run.specs.declared.keeper.KeptFile.{KeptFile}
use Rattle.zone_refresh_run.specs.declared.words.KeptForm.{KeptForm}

-- The command by which a zone is fetched from a primary into its file: its changes, where the file has the zone, and the whole zone where these do not lead on, or the server fails at them.
pub record IsCommandFor (listed : Listed) (primary : SocketAddr) (form : KeptForm) (has_zone : Bool) (command : Command) : Type 0 where
  pub apex : command.apex ≡ listed.zone
  pub server : command.server ≡ primary
  pub most : command.most ≡ form.most
  pub file : option_map string_bytes command.file ≡ (if has_zone then Some listed.file else None)
  pub output : option_map string_bytes command.output ≡ Some listed.file
  pub text : command.text ≡ form.text
  pub whole_at_servfail : command.whole_at_servfail ≡ true

-- ---- what a fetch ends with

-- The zone is in its file: it was fetched, or the file has it already.
abbrev pub is_there : ℕ → Bool
is_there status = status == 0 || status == 9

-- The file has no zone whose changes can be asked for.
abbrev pub has_no_base : ℕ → Bool
has_no_base status = status == 1 || status == 3

-- The file had one, and has none any more.
abbrev pub is_lost : (has_zone : Bool) → ℕ → Bool
is_lost has_zone status = has_zone && has_no_base status

-- ---- one fetch, or a second one for the whole zone

pub data FetchesOnce (listed : Listed) (primary : SocketAddr) (form : KeptForm) (has_zone : Bool) (status : ℕ) (old new : Acts) : Type 0 where
  fetches : (command : Command) → IsCommandFor listed primary form has_zone command → new ≡ after_act (did_fetch command status) old → FetchesOnce listed primary form has_zone status old new
  -- there was no memory for the command
  starves : status ≡ 6 → new ≡ old → FetchesOnce listed primary form has_zone status old new

pub data Fetches (listed : Listed) (primary : SocketAddr) (form : KeptForm) (has_zone : Bool) (status : ℕ) (old new : Acts) : Type 0 where
  once : FetchesOnce listed primary form has_zone status old new → is_lost has_zone status ≡ false → Fetches listed primary form has_zone status old new
  twice : (first : ℕ) (mid : Acts) → FetchesOnce listed primary form has_zone first old mid → is_lost has_zone first ≡ true → FetchesOnce listed primary form false status mid new
      → Fetches listed primary form has_zone status old new

-- These are the times of the zone that its file has then, or it was not fetched.
pub data Brings (listed : Listed) (primary : SocketAddr) (form : KeptForm) (has_zone : Bool) (timers : Option ZoneTimers) (old new : Acts) : Type 0 where
  comes : (status : ℕ) (mid : Acts) → Fetches listed primary form has_zone status old mid → is_there status ≡ true → new ≡ after_act (did_read listed.zone listed.file timers) mid
      → Brings listed primary form has_zone timers old new
  fails : (status : ℕ) → Fetches listed primary form has_zone status old new → is_there status ≡ false → timers ≡ None → Brings listed primary form has_zone timers old new

-- ---- what is done for the zones of a list

pub data BringsAt (files : List KeptFile) (form : KeptForm) (zone primary : ℕ) (timers : Option ZoneTimers) (old new : Acts) : Type 0 where
  brings_from_nobody : primary_at files zone primary ≡ None → timers ≡ None → new ≡ old → BringsAt files form zone primary timers old new
  brings_from : (file : KeptFile) (addr : SocketAddr) → slice_get files zone ≡ Some file → slice_get file.listed.primaries primary ≡ Some addr
      → Brings file.listed addr form file.has_zone timers old new → BringsAt files form zone primary timers old new

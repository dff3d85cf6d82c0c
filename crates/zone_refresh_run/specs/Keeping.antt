-- The zones of a list that are kept in a system: what each deed does there, and what a run comes to.
use Rattle.std.specs.Prelude.{◌≡◌, ◌<◌, ℕ, true, List, length, slice_get, Option, None, Some, option_and_then, option_map}
use Rattle.std.specs.Result.{result_ok}
use Rattle.zone_list.specs.declared.listed.Listed.{Listed}
use Rattle.zone_refresh.specs.declared.kept.KeptZone.{KeptZone}
use Rattle.zone_refresh.specs.declared.kept.ZoneTimers.{ZoneTimers}
use Rattle.zone_refresh_run.specs.Acts.{Acts, AreStarted, AsksAt, Sleeps, TellsAt, after_act, did_look, listed_in}
use Rattle.zone_refresh_run.specs.Fetching.{BringsAt}
use Rattle.zone_refresh_run.specs.Files.{Files}
use Rattle.zone_refresh_run.specs.Listing.{IsListed}
use Rattle.zone_refresh_run.specs.Turns.{AreKept}
use Rattle.zone_refresh_run.specs.declared.keeper.Keeper.{Keeper}
use Rattle.zone_refresh_run.specs.declared.keeper.KeptFile.{KeptFile}
use Rattle.zone_refresh_run.specs.declared.words.KeptForm.{KeptForm}
use Rattle.zone_refresh_run.specs.declared.world.Deed.{Deed}
use Rattle.zone_refresh_run.specs.declared.world.Deed.TheVariants.{Slept, Asked, Fetched, Looked, Told}

-- All but the system is as it was.
abbrev pub IsSame : {S : Type 0} → (old new : Keeper S) → Type 0
IsSame old new = (new.files ≡ old.files) × (new.form ≡ old.form) × (new.said ≡ old.said)

-- Where a zone came, its file has it from now on.
abbrev pub NotesAt : (old : List KeptFile) (zone : ℕ) → Option ZoneTimers → (new : List KeptFile) → Type 0
NotesAt old zone None new = new ≡ old
NotesAt old zone (Some timers) new = (listed_in new ≡ listed_in old) × (zone < length old → option_map (λ file. file.has_zone) (slice_get new zone) ≡ Some true)

-- what a deed does, where this is what a system did so far
abbrev pub Does : {S : Type 0} → (acts : S → Acts) → Deed → (old new : Keeper S) → Type 0
Does acts (Looked moment) old new = (acts new.system ≡ after_act (did_look moment) (acts old.system)) × IsSame old new
Does acts (Slept moment) old new = Sleeps moment (acts old.system) (acts new.system) × IsSame old new
Does acts (Asked zone primary came) old new =
    AsksAt old.files.items zone primary new.said (acts old.system) (acts new.system) × (came ≡ option_and_then result_ok new.said) × (new.files ≡ old.files) × (new.form ≡ old.form)
Does acts (Fetched zone primary came) old new =
    BringsAt old.files.items old.form zone primary came (acts old.system) (acts new.system) × NotesAt old.files.items zone came new.files.items × (new.form ≡ old.form) × (new.said ≡ old.said)
Does acts (Told zone news) old new = TellsAt old.files.items zone news old.said (acts old.system) (acts new.system) × IsSame old new

-- The zones of a list begin to be kept, and then so many turns are made, and nothing else is done.
pub record KeepsZones {S : Type 0} (acts : S → Acts) (form : KeptForm) (turns : ℕ) (listed : List Listed) (old new : S) : Type 0 where
  pub now : ℕ
  pub zones : List KeptZone
  pub after : List KeptZone
  pub first : Keeper S
  pub last : Keeper S
  pub begins : AreStarted listed now zones first.files.items (after_act (did_look now) (acts old)) (acts first.system)
  pub form_is : first.form ≡ form
  pub unsaid : first.said ≡ None
  pub kept : AreKept (Does acts) turns zones after first last
  pub ends : new ≡ last.system

-- They are those of the list at a path.
pub record KeepsList {S : Type 0} (acts : S → Acts) (form : KeptForm) (turns : ℕ) (path : List ℕ) (files : Files) (old new : S) : Type 0 where
  pub listed : List Listed
  pub is_listed : IsListed path files listed
  pub some : 0 < length listed
  pub keeps : KeepsZones acts form turns listed old new

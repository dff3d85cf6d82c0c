-- Zones that are kept, turn by turn.
use Rattle.std.specs.Prelude.{◌≡◌, ℕ, ◌-◌, ◌^◌, min, List, [], ◌∷◌, length, All, unwrap_or}
use Rattle.std.specs.List.{flat_map}
use Rattle.zone_refresh.specs.declared.kept.KeptZone.{KeptZone}
use Rattle.zone_refresh.specs.declared.kept.Phase.{Phase}
use Rattle.zone_refresh.specs.declared.kept.Phase.TheVariants.{Waiting, Asking, Fetching}
use Rattle.zone_refresh.specs.Timing.{next_due}
use Rattle.zone_refresh_run.specs.Deeds.{Leads}
use Rattle.zone_refresh_run.specs.Visits.{IsAwaited, Visit, befores, deeds_from, lefts}
use Rattle.zone_refresh_run.specs.declared.world.Deed.{Deed}
use Rattle.zone_refresh_run.specs.declared.world.Deed.TheVariants.{Slept}

-- the moment up to which nothing is to be done for a zone: 0 where a primary is to be asked or fetched from at once
abbrev pub due_of : KeptZone → ℕ
due_of zone = due_in zone.phase
  where
    due_in : Phase → ℕ
    due_in (Waiting due) = unwrap_or (next_due zone) (2 ^ 64 - 1)
    due_in (Asking primary) = 0
    due_in (Fetching primary) = 0

-- the least of these
abbrev pub wake_of : List KeptZone → ℕ
wake_of [] = 2 ^ 64 - 1
wake_of (zone ∷ zones) = min (due_of zone) (wake_of zones)

-- a turn: a visit of each zone
abbrev pub Turn : Type 0
Turn = List Visit

-- Before them it is slept until something is to be done for one of the zones.
abbrev pub deeds_in : Turn → List Deed
deeds_in visits = Slept (wake_of (befores visits)) ∷ deeds_from 0 visits

pub record IsTurned {W : Type 0} (does : Deed → W → W → Type 0) (zones after : List KeptZone) (old new : W) : Type 0 where
  pub turn : Turn
  pub were : befores turn ≡ zones
  pub awaited : All IsAwaited turn
  pub left : lefts turn ≡ after
  pub deeds : Leads does (deeds_in turn) old new

-- Turns lead from zones to zones.
abbrev pub Lead : (zones : List KeptZone) → List Turn → (after : List KeptZone) → Type 0
Lead zones [] after = zones ≡ after
Lead zones (turn ∷ turns) after = (befores turn ≡ zones) × All IsAwaited turn × Lead (lefts turn) turns after

-- So many turns were made, and nothing else was done.
pub record AreKept {W : Type 0} (does : Deed → W → W → Type 0) (count : ℕ) (zones after : List KeptZone) (old new : W) : Type 0 where
  pub turns : List Turn
  pub many : length turns ≡ count
  pub lead : Lead zones turns after
  pub deeds : Leads does (flat_map deeds_in turns) old new

-- What a run owes to a zone.
use Rattle.std.specs.Prelude.{◌≡◌, ◌⊎◌, ℕ, ◌-◌, ◌^◌, ◌<◌, ◌≤◌, true, false, List, [], ◌∷◌, length, All, Some, slice_index_or}
use Rattle.dns_values.specs.declared.numbers.Serial.{Serial}
use Rattle.zone_refresh.specs.declared.kept.Event.TheVariants.{Answered}
use Rattle.zone_refresh.specs.declared.kept.KeptZone.{KeptZone}
use Rattle.zone_refresh.specs.declared.kept.Phase.TheVariants.{Waiting, Asking, Fetching}
use Rattle.zone_refresh.specs.declared.kept.ZoneTimers.{ZoneTimers}
use Rattle.zone_refresh.specs.Steps.{outs_after}
use Rattle.zone_refresh.specs.Timing.{is_greater}
use Rattle.zone_refresh_run.specs.Turns.{Lead, Turn, due_of, wake_of}
use Rattle.zone_refresh_run.specs.Visits.{IsAwaited, Visit, done_for, left_by}

-- A primary that is asked said a serial of a zone that is held.
pub record IsSaid (visit : Visit) (primary : ℕ) (serial : Serial) (timers : ZoneTimers) : Type 0 where
  pub asked : visit.before.phase ≡ Asking primary
  pub said : visit.event ≡ Answered serial
  pub held : visit.before.held ≡ Some timers

-- Visits lead a zone on, each from where the one before left it.
abbrev pub Goes : KeptZone → List Visit → (after : KeptZone) → Type 0
Goes zone [] after = zone ≡ after
Goes zone (visit ∷ visits) after = (visit.before ≡ zone) × IsAwaited visit × Goes (left_by visit) visits after

pub record KeepingLaws : Type 0 where
  -- Each zone is visited once in each turn, and for none is more done in it than one asking or one fetching, so that no zone starves another.
  pub each_is_visited : (turns : List Turn) (zones after : List KeptZone) (k : ℕ) (d : KeptZone) → Lead zones turns after → k < length zones
      → (visits : List Visit) × (length visits ≡ length turns) × Goes (slice_index_or zones k d) visits (slice_index_or after k d)
  pub one_at_most : (zone : ℕ) (visit : Visit) → length (done_for zone visit.before.phase visit.event) ≤ 1
  -- Nothing is overslept, and it is slept as long as nothing is due.
  pub wakes_in_time : (zones : List KeptZone) → All (λ zone. wake_of zones ≤ due_of zone) zones
  pub sleeps_till_then : (moment : ℕ) (zones : List KeptZone) → moment ≤ 2 ^ 64 - 1 → All (λ zone. moment ≤ due_of zone) zones → moment ≤ wake_of zones
  -- A zone that waits is asked for once it is due, and not sooner.
  pub asked_when_due : (visit : Visit) (due : ℕ) → IsAwaited visit → visit.before.phase ≡ Waiting due → due ≤ visit.moment → (left_by visit).phase ≡ Asking 0
  pub asked_no_sooner : (visit : Visit) (due : ℕ) → IsAwaited visit → visit.before.phase ≡ Waiting due → visit.moment < due → (left_by visit).phase ≡ Waiting due
  -- It is fetched exactly where the serial is greater, from the primary that said it.
  pub fetched_where_greater : (visit : Visit) (primary : ℕ) (serial : Serial) (timers : ZoneTimers) → IsSaid visit primary serial timers → is_greater serial.0 timers.serial.0 ≡ true → (left_by visit).phase ≡ Fetching primary
  pub not_fetched_else : (visit : Visit) (primary : ℕ) (serial : Serial) (timers : ZoneTimers) → IsSaid visit primary serial timers → is_greater serial.0 timers.serial.0 ≡ false → (other : ℕ) → (left_by visit).phase ≡ Fetching other → ⊥
  -- An expiry that was told is told again only where the zone was confirmed then.
  pub stays_told : (visit : Visit) → visit.before.told ≡ true → ((left_by visit).told ≡ true) ⊎ ((left_by visit).confirmed ≡ visit.moment)
  pub told_again : (visit : Visit) → visit.before.told ≡ true → (outs_after visit.before visit.moment visit.event).expired ≡ true → (left_by visit).confirmed ≡ visit.moment

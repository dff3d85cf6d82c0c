-- The turn of a zone: what it waits for is done, what comes of it leads it on, and it is told.
use Rattle.std.specs.Prelude.{◌≡◌, ℕ, ◌+◌, Bool, true, false, if◌then◌else◌, List, [], ◌∷◌, ◌++◌, map, All, Option, None, Some}
use Rattle.dns_values.specs.declared.numbers.Serial.{Serial}
use Rattle.zone_refresh.specs.declared.kept.Event.{Event}
use Rattle.zone_refresh.specs.declared.kept.Event.TheVariants as events
use Rattle.zone_refresh.specs.declared.kept.KeptZone.{KeptZone}
use Rattle.zone_refresh.specs.declared.kept.Phase.{Phase}
use Rattle.zone_refresh.specs.declared.kept.Phase.TheVariants.{Waiting, Asking, Fetching}
use Rattle.zone_refresh.specs.declared.kept.ZoneTimers.{ZoneTimers}
use Rattle.zone_refresh.specs.Steps.{outs_after, zone_after}
use Rattle.zone_refresh_run.specs.Deeds.{Leads}
use Rattle.zone_refresh_run.specs.declared.world.Deed.{Deed}
use Rattle.zone_refresh_run.specs.declared.world.Deed.TheVariants.{Asked, Fetched, Looked, Told}
use Rattle.zone_refresh_run.specs.declared.world.ZoneNews.{ZoneNews}
use Rattle.zone_refresh_run.specs.declared.world.ZoneNews.TheVariants.{Came, Expired}

-- ---- what a zone waits for

-- An event is one that may come of what is waited for.
abbrev pub is_awaited : Phase → Event → Bool
is_awaited (Waiting due) events.Tick = true
is_awaited (Asking primary) (events.Answered serial) = true
is_awaited (Asking primary) events.Unanswered = true
is_awaited (Fetching primary) (events.Fetched timers) = true
is_awaited (Fetching primary) events.NotFetched = true
is_awaited phase event = false

abbrev pub serial_in : Event → Option Serial
serial_in (events.Answered serial) = Some serial
serial_in event = None

abbrev pub timers_in : Event → Option ZoneTimers
timers_in (events.Fetched timers) = Some timers
timers_in event = None

-- what is done for it, where this comes of it: nothing while it is waited for a moment
abbrev pub done_for : (zone : ℕ) → Phase → Event → List Deed
done_for zone (Waiting due) event = []
done_for zone (Asking primary) event = Asked zone primary (serial_in event) ∷ []
done_for zone (Fetching primary) event = Fetched zone primary (timers_in event) ∷ []

-- ---- what is told

abbrev pub news_of : Phase → Event → (moment : ℕ) → KeptZone → Option ZoneNews
news_of (Waiting due) event moment zone = None
news_of (Asking primary) event moment zone = Some (Came primary event moment zone)
news_of (Fetching primary) event moment zone = Some (Came primary event moment zone)

abbrev pub told_of : (zone : ℕ) → Option ZoneNews → (expired : Bool) → List Deed
told_of zone news expired = came news ++ (if expired then Told zone Expired ∷ [] else [])
  where
    came : Option ZoneNews → List Deed
    came None = []
    came (Some one) = Told zone one ∷ []

-- ---- a visit

-- a zone before it, what came, and at which moment
pub record Visit : Type 0 where
  pub before : KeptZone
  pub event : Event
  pub moment : ℕ

-- What came is what was waited for.
abbrev pub IsAwaited : Visit → Type 0
IsAwaited visit = is_awaited visit.before.phase visit.event ≡ true

abbrev pub left_by : Visit → KeptZone
left_by visit = zone_after visit.before visit.moment visit.event

abbrev pub told_by : (zone : ℕ) → Visit → List Deed
told_by zone visit =
    told_of zone (news_of visit.before.phase visit.event visit.moment (left_by visit)) (outs_after visit.before visit.moment visit.event).expired

-- What the zone waited for is done, then the clock is looked at, and then it is told.
abbrev pub deeds_of : (zone : ℕ) → Visit → List Deed
deeds_of zone visit = done_for zone visit.before.phase visit.event ++ Looked visit.moment ∷ told_by zone visit

pub record IsVisited {W : Type 0} (does : Deed → W → W → Type 0) (zone : ℕ) (before after : KeptZone) (old new : W) : Type 0 where
  pub visit : Visit
  pub was : visit.before ≡ before
  pub awaited : IsAwaited visit
  pub left : left_by visit ≡ after
  pub deeds : Leads does (deeds_of zone visit) old new

-- ---- the visits of all zones, in order

abbrev pub befores : List Visit → List KeptZone
befores visits = map (λ visit. visit.before) visits

abbrev pub lefts : List Visit → List KeptZone
lefts visits = map left_by visits

-- what is done in visits of the zones from a number on
abbrev pub deeds_from : (zone : ℕ) → List Visit → List Deed
deeds_from zone [] = []
deeds_from zone (visit ∷ visits) = deeds_of zone visit ++ deeds_from (zone + 1) visits

pub record AreVisited {W : Type 0} (does : Deed → W → W → Type 0) (zones after : List KeptZone) (old new : W) : Type 0 where
  pub visits : List Visit
  pub were : befores visits ≡ zones
  pub awaited : All IsAwaited visits
  pub left : lefts visits ≡ after
  pub deeds : Leads does (deeds_from 0 visits) old new

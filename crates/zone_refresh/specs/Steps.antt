-- What a zone that is kept does: waiting, asking primaries in turn for the SOA, and fetching from one whose serial is greater.
--
--     Waiting ──due──► Asking 0 ──no answer, no greater serial──► Asking 1 ─ .. ─► Waiting RETRY
--        ▲                │  │                                                      (behind the last)
--        │                │  └──a greater serial──► Fetching k ──failed──► Asking k + 1
--        └──REFRESH───────┴──the same serial              └──fetched──► Waiting REFRESH
use Rattle.std.specs.Prelude.{ℕ, ◌+◌, ◌==◌, ◌&&◌, not, nat_le, nat_lt, Bool, true, false, if◌then◌else◌, Option, None, Some}
use Rattle.zone_refresh.specs.declared.kept.Event.{Event}
use Rattle.zone_refresh.specs.declared.kept.Event.TheVariants.{Tick, Answered, Unanswered, Fetched, NotFetched}
use Rattle.zone_refresh.specs.declared.kept.KeptZone.{KeptZone}
use Rattle.zone_refresh.specs.declared.kept.Outs.{Outs}
use Rattle.zone_refresh.specs.declared.kept.Phase.{Phase}
use Rattle.zone_refresh.specs.declared.kept.Phase.TheVariants.{Waiting, Asking, Fetching}
use Rattle.zone_refresh.specs.declared.kept.Task.{Task}
use Rattle.zone_refresh.specs.declared.kept.Task.TheVariants as tasks
use Rattle.zone_refresh.specs.declared.kept.ZoneTimers.{ZoneTimers}
use Rattle.zone_refresh.specs.Timing.{after_seconds, has_expired, is_greater, pause, retry_of}

-- a zone, and what is to be done for it
pub record Does : Type 0 where
  pub zone : KeptZone
  pub task : Option Task

abbrev pub rests : KeptZone → Does
rests zone = record { zone = zone; task = None }

-- ---- primaries in turn

abbrev pub asks : KeptZone → (primary : ℕ) → Does
asks zone primary = record { zone = record zone { phase = Asking primary }; task = Some (tasks.AskSoa primary) }

-- Behind the last of them the zone waits for RETRY seconds.
abbrev pub asks_next : KeptZone → (now primary : ℕ) → Does
asks_next zone now primary =
    if nat_lt (primary + 1) zone.primaries then asks zone (primary + 1)
    else rests (record zone { phase = Waiting (after_seconds now (retry_of zone.held)) })

-- ---- what a primary says

-- It has the zone that is held, which is good for REFRESH seconds.
abbrev pub confirmed : KeptZone → (now : ℕ) → ZoneTimers → Does
confirmed zone now timers =
    rests (record zone { held = Some timers; confirmed = now; phase = Waiting (after_seconds now (pause timers.refresh.0)); told = false })

abbrev pub fetches : KeptZone → (primary : ℕ) → Does
fetches zone primary = record { zone = record zone { phase = Fetching primary }; task = Some (tasks.Fetch primary) }

-- A greater serial is fetched, and each where there is no zone yet. With a lesser one the primary is behind, and another is asked.
abbrev pub weighs : KeptZone → (now primary serial : ℕ) → Option ZoneTimers → Does
weighs zone now primary serial None = fetches zone primary
weighs zone now primary serial (Some timers) =
    if is_greater serial timers.serial.0 then fetches zone primary
    else if serial == timers.serial.0 then confirmed zone now timers
    else asks_next zone now primary

-- ---- events, each where it is waited for

abbrev pub ticks : KeptZone → (now : ℕ) → Phase → Does
ticks zone now (Waiting due) = if nat_le due now then asks zone 0 else rests zone
ticks zone now (Asking primary) = rests zone
ticks zone now (Fetching primary) = rests zone

abbrev pub answered : KeptZone → (now serial : ℕ) → Phase → Does
answered zone now serial (Waiting due) = rests zone
answered zone now serial (Asking primary) = weighs zone now primary serial zone.held
answered zone now serial (Fetching primary) = rests zone

abbrev pub unanswered : KeptZone → (now : ℕ) → Phase → Does
unanswered zone now (Waiting due) = rests zone
unanswered zone now (Asking primary) = asks_next zone now primary
unanswered zone now (Fetching primary) = rests zone

abbrev pub fetched : KeptZone → (now : ℕ) → ZoneTimers → Phase → Does
fetched zone now timers (Waiting due) = rests zone
fetched zone now timers (Asking primary) = rests zone
fetched zone now timers (Fetching primary) = confirmed zone now timers

abbrev pub not_fetched : KeptZone → (now : ℕ) → Phase → Does
not_fetched zone now (Waiting due) = rests zone
not_fetched zone now (Asking primary) = rests zone
not_fetched zone now (Fetching primary) = asks_next zone now primary

abbrev pub happens : KeptZone → (now : ℕ) → Event → Does
happens zone now Tick = ticks zone now zone.phase
happens zone now (Answered serial) = answered zone now serial.0 zone.phase
happens zone now Unanswered = unanswered zone now zone.phase
happens zone now (Fetched timers) = fetched zone now timers zone.phase
happens zone now NotFetched = not_fetched zone now zone.phase

-- ---- a step

-- whether it has expired, and that wasn't told
abbrev pub is_to_tell : (now : ℕ) → KeptZone → Bool
is_to_tell now zone = has_expired now zone && not zone.told

-- A zone that has expired is told once.
abbrev pub told_by : Bool → KeptZone → KeptZone
told_by expired zone = if expired then record zone { told = true } else zone

abbrev pub outs_of : Bool → Option Task → Outs
outs_of expired task = record { expired = expired; task = task }

-- what is left of the zone, and what is put out
abbrev pub zone_after : KeptZone → (now : ℕ) → Event → KeptZone
zone_after zone now event = told_by (is_to_tell now (happens zone now event).zone) (happens zone now event).zone

abbrev pub outs_after : KeptZone → (now : ℕ) → Event → Outs
outs_after zone now event = outs_of (is_to_tell now (happens zone now event).zone) (happens zone now event).task

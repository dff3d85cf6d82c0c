-- What a run owes to a zone.
use Rattle.std.proofs.Common.{◌≡◌, ◌⊎◌, inl, inr, ℕ, ◌+◌, ◌-◌, ◌^◌, ◌<◌, ◌≤◌, Bool, true, false, List, [], ◌∷◌, Option, Some, None, refl, ap, sym, ◌∙◌, arith}
use Rattle.std.specs.Prelude.{All, ◌==◌, ◌&&◌, not, nat_le, nat_lt}
use Rattle.std.proofs.lemmas.Bool.{le-leb, leb-true}
use Rattle.std.proofs.lemmas.List.Elements.{All-cons, All-head, All-nil, All-tail}
use Rattle.dns_values.specs.declared.numbers.Serial.{Serial}
use Rattle.zone_refresh.specs.declared.kept.Event.{Event}
use Rattle.zone_refresh.specs.declared.kept.Event.TheVariants.{Tick, Answered, Unanswered, Fetched, NotFetched}
use Rattle.zone_refresh.specs.declared.kept.KeptZone.{KeptZone}
use Rattle.zone_refresh.specs.declared.kept.Phase.{Phase}
use Rattle.zone_refresh.specs.declared.kept.Phase.TheVariants.{Waiting, Asking, Fetching}
use Rattle.zone_refresh.specs.declared.kept.ZoneTimers.{ZoneTimers}
use Rattle.zone_refresh.specs.Steps.{Does, answered, asks_next, fetched, happens, is_to_tell, not_fetched, outs_after, ticks, told_by, unanswered, weighs}
use Rattle.zone_refresh.specs.Timing.{after_seconds, has_expired, is_greater, pause, retry_of}
use Rattle.zone_refresh_run.specs.Laws.{IsSaid, KeepingLaws}
use Rattle.zone_refresh_run.proofs.Going.{each_is_visited, one_at_most}
use Rattle.zone_refresh_run.specs.Turns.{due_of, wake_of}
use Rattle.zone_refresh_run.specs.Visits.{IsAwaited, Visit, is_awaited, left_by}

-- ---- sleeping

none_overslept : (moment : ℕ) (zones : List KeptZone) → moment ≤ wake_of zones → All (λ zone. moment ≤ due_of zone) zones
none_overslept moment [] h = All-nil (λ zone. moment ≤ due_of zone)
none_overslept moment (zone ∷ zones) h =
    let here : moment ≤ due_of zone = omega arith in
    let behind : moment ≤ wake_of zones = omega arith in
    All-cons (λ z. moment ≤ due_of z) zone zones here (none_overslept moment zones behind)

wakes_in_time : (zones : List KeptZone) → All (λ zone. wake_of zones ≤ due_of zone) zones
wakes_in_time zones = none_overslept (wake_of zones) zones (let h : wake_of zones ≤ wake_of zones = omega arith in h)

sleeps_till_then : (moment : ℕ) (zones : List KeptZone) → moment ≤ 2 ^ 64 - 1 → All (λ zone. moment ≤ due_of zone) zones → moment ≤ wake_of zones
sleeps_till_then moment [] last all = last
sleeps_till_then moment (zone ∷ zones) last all =
    let here : moment ≤ due_of zone = All-head (λ z. moment ≤ due_of z) zone zones all in
    let behind : moment ≤ wake_of zones = sleeps_till_then moment zones last (All-tail (λ z. moment ≤ due_of z) zone zones all) in
    omega arith

-- ---- phases

phase_stays : (b : Bool) (zone : KeptZone) → (told_by b zone).phase ≡ zone.phase
phase_stays true zone = refl
phase_stays false zone = refl

confirmed_stays : (b : Bool) (zone : KeptZone) → (told_by b zone).confirmed ≡ zone.confirmed
confirmed_stays true zone = refl
confirmed_stays false zone = refl

phase_left : (visit : Visit) → (left_by visit).phase ≡ (happens visit.before visit.moment visit.event).zone.phase
phase_left visit = phase_stays (is_to_tell visit.moment (happens visit.before visit.moment visit.event).zone) (happens visit.before visit.moment visit.event).zone

only_tick : (due : ℕ) (event : Event) → is_awaited (Waiting due) event ≡ true → event ≡ Tick
only_tick due Tick h = refl
only_tick due (Answered serial) h = absurd (cc)
only_tick due Unanswered h = absurd (cc)
only_tick due (Fetched timers) h = absurd (cc)
only_tick due NotFetched h = absurd (cc)

ticks_at : (visit : Visit) (due : ℕ) → IsAwaited visit → visit.before.phase ≡ Waiting due → happens visit.before visit.moment visit.event ≡ ticks visit.before visit.moment (Waiting due)
ticks_at visit due awaited waits =
    let tick : visit.event ≡ Tick = only_tick due visit.event (ap (λ (p : Phase). is_awaited p visit.event) (sym waits) ∙ awaited) in
    ap (happens visit.before visit.moment) tick ∙ ap (ticks visit.before visit.moment) waits

ticked : (zone : KeptZone) (now due : ℕ) (b : Bool) → nat_le due now ≡ b → (due ≤ now → (ticks zone now (Waiting due)).zone.phase ≡ Asking 0) × (zone.phase ≡ Waiting due → now < due → (ticks zone now (Waiting due)).zone.phase ≡ Waiting due)
ticked zone now due true e = ((λ h. rw e refl), (λ same h. let past : due ≤ now = leb-true due now e in absurd (omega arith)))
ticked zone now due false e = ((λ h. let past : nat_le due now ≡ true = le-leb due now h in absurd (cc)), (λ same h. rw e same))

asked_when_due : (visit : Visit) (due : ℕ) → IsAwaited visit → visit.before.phase ≡ Waiting due → due ≤ visit.moment → (left_by visit).phase ≡ Asking 0
asked_when_due visit due awaited waits h =
    phase_left visit ∙ ap (λ (d : Does). d.zone.phase) (ticks_at visit due awaited waits) ∙ (ticked visit.before visit.moment due (nat_le due visit.moment) refl).0 h

asked_no_sooner : (visit : Visit) (due : ℕ) → IsAwaited visit → visit.before.phase ≡ Waiting due → visit.moment < due → (left_by visit).phase ≡ Waiting due
asked_no_sooner visit due awaited waits h =
    phase_left visit ∙ ap (λ (d : Does). d.zone.phase) (ticks_at visit due awaited waits) ∙ (ticked visit.before visit.moment due (nat_le due visit.moment) refl).1 waits h

weighed : (visit : Visit) (primary : ℕ) (serial : Serial) (timers : ZoneTimers) → IsSaid visit primary serial timers → happens visit.before visit.moment visit.event ≡ weighs visit.before visit.moment primary serial.0 (Some timers)
weighed visit primary serial timers is =
    ap (happens visit.before visit.moment) is.said
    ∙ ap (answered visit.before visit.moment serial.0) is.asked
    ∙ ap (weighs visit.before visit.moment primary serial.0) is.held

fetched_where_greater : (visit : Visit) (primary : ℕ) (serial : Serial) (timers : ZoneTimers) → IsSaid visit primary serial timers → is_greater serial.0 timers.serial.0 ≡ true → (left_by visit).phase ≡ Fetching primary
fetched_where_greater visit primary serial timers is greater =
    phase_left visit ∙ ap (λ (d : Does). d.zone.phase) (weighed visit primary serial timers is) ∙ rw greater refl

next_fetches_none : (zone : KeptZone) (now primary other : ℕ) (b : Bool) → nat_lt (primary + 1) zone.primaries ≡ b → (asks_next zone now primary).zone.phase ≡ Fetching other → ⊥
next_fetches_none zone now primary other true e h = let at : (asks_next zone now primary).zone.phase ≡ Asking (primary + 1) = rw e refl in absurd (cc)
next_fetches_none zone now primary other false e h =
    let at : (asks_next zone now primary).zone.phase ≡ Waiting (after_seconds now (retry_of zone.held)) = rw e refl in absurd (cc)

weighs_none : (zone : KeptZone) (now primary serial other : ℕ) (timers : ZoneTimers) (b : Bool) → is_greater serial timers.serial.0 ≡ false → (serial == timers.serial.0) ≡ b → (weighs zone now primary serial (Some timers)).zone.phase ≡ Fetching other → ⊥
weighs_none zone now primary serial other timers true g e h =
    let at : (weighs zone now primary serial (Some timers)).zone.phase ≡ Waiting (after_seconds now (pause timers.refresh.0)) = rw (g, e) refl in absurd (cc)
weighs_none zone now primary serial other timers false g e h =
    let same : weighs zone now primary serial (Some timers) ≡ asks_next zone now primary = rw (g, e) refl in
    next_fetches_none zone now primary other (nat_lt (primary + 1) zone.primaries) refl (sym (ap (λ (d : Does). d.zone.phase) same) ∙ h)

not_fetched_else : (visit : Visit) (primary : ℕ) (serial : Serial) (timers : ZoneTimers) → IsSaid visit primary serial timers → is_greater serial.0 timers.serial.0 ≡ false → (other : ℕ) → (left_by visit).phase ≡ Fetching other → ⊥
not_fetched_else visit primary serial timers is lesser other h =
    weighs_none visit.before visit.moment primary serial.0 other timers (serial.0 == timers.serial.0) lesser refl
    (sym (phase_left visit ∙ ap (λ (d : Does). d.zone.phase) (weighed visit primary serial timers is)) ∙ h)

-- ---- what was told

-- A zone is as told as it was, or was confirmed then.
abbrev IsToldOn : KeptZone → (now : ℕ) → Does → Type 0
IsToldOn zone now d = (d.zone.told ≡ zone.told) ⊎ (d.zone.confirmed ≡ now)

next_on : (zone : KeptZone) (now primary : ℕ) (b : Bool) → nat_lt (primary + 1) zone.primaries ≡ b → IsToldOn zone now (asks_next zone now primary)
next_on zone now primary true e = inl (rw e refl)
next_on zone now primary false e = inl (rw e refl)

weighs_on : (zone : KeptZone) (now primary serial : ℕ) (timers : ZoneTimers) (b c : Bool) → is_greater serial timers.serial.0 ≡ b → (serial == timers.serial.0) ≡ c → IsToldOn zone now (weighs zone now primary serial (Some timers))
weighs_on zone now primary serial timers true c e f = inl (rw e refl)
weighs_on zone now primary serial timers false true e f = inr (rw (e, f) refl)
weighs_on zone now primary serial timers false false e f =
    let same : weighs zone now primary serial (Some timers) ≡ asks_next zone now primary = rw (e, f) refl in
    rw same (next_on zone now primary (nat_lt (primary + 1) zone.primaries) refl)

held_on : (zone : KeptZone) (now primary serial : ℕ) (held : Option ZoneTimers) → IsToldOn zone now (weighs zone now primary serial held)
held_on zone now primary serial None = inl refl
held_on zone now primary serial (Some timers) = weighs_on zone now primary serial timers (is_greater serial timers.serial.0) (serial == timers.serial.0) refl refl

ticks_on : (zone : KeptZone) (now : ℕ) (phase : Phase) → IsToldOn zone now (ticks zone now phase)
ticks_on zone now (Waiting due) = go (nat_le due now) refl
  where
    go : (b : Bool) → nat_le due now ≡ b → IsToldOn zone now (ticks zone now (Waiting due))
    go true e = inl (rw e refl)
    go false e = inl (rw e refl)
ticks_on zone now (Asking primary) = inl refl
ticks_on zone now (Fetching primary) = inl refl

answered_on : (zone : KeptZone) (now serial : ℕ) (phase : Phase) → IsToldOn zone now (answered zone now serial phase)
answered_on zone now serial (Waiting due) = inl refl
answered_on zone now serial (Asking primary) = held_on zone now primary serial zone.held
answered_on zone now serial (Fetching primary) = inl refl

unanswered_on : (zone : KeptZone) (now : ℕ) (phase : Phase) → IsToldOn zone now (unanswered zone now phase)
unanswered_on zone now (Waiting due) = inl refl
unanswered_on zone now (Asking primary) = next_on zone now primary (nat_lt (primary + 1) zone.primaries) refl
unanswered_on zone now (Fetching primary) = inl refl

fetched_on : (zone : KeptZone) (now : ℕ) (timers : ZoneTimers) (phase : Phase) → IsToldOn zone now (fetched zone now timers phase)
fetched_on zone now timers (Waiting due) = inl refl
fetched_on zone now timers (Asking primary) = inl refl
fetched_on zone now timers (Fetching primary) = inr refl

not_fetched_on : (zone : KeptZone) (now : ℕ) (phase : Phase) → IsToldOn zone now (not_fetched zone now phase)
not_fetched_on zone now (Waiting due) = inl refl
not_fetched_on zone now (Asking primary) = inl refl
not_fetched_on zone now (Fetching primary) = next_on zone now primary (nat_lt (primary + 1) zone.primaries) refl

happens_on : (zone : KeptZone) (now : ℕ) (event : Event) → IsToldOn zone now (happens zone now event)
happens_on zone now Tick = ticks_on zone now zone.phase
happens_on zone now (Answered serial) = answered_on zone now serial.0 zone.phase
happens_on zone now Unanswered = unanswered_on zone now zone.phase
happens_on zone now (Fetched timers) = fetched_on zone now timers zone.phase
happens_on zone now NotFetched = not_fetched_on zone now zone.phase

told_on : (b : Bool) (zone : KeptZone) → zone.told ≡ true → (told_by b zone).told ≡ true
told_on true zone h = refl
told_on false zone h = h

stays_told : (visit : Visit) → visit.before.told ≡ true → ((left_by visit).told ≡ true) ⊎ ((left_by visit).confirmed ≡ visit.moment)
stays_told visit h = go (happens_on visit.before visit.moment visit.event)
  where
    go : IsToldOn visit.before visit.moment (happens visit.before visit.moment visit.event) → ((left_by visit).told ≡ true) ⊎ ((left_by visit).confirmed ≡ visit.moment)
    go (inl same) = inl (told_on (is_to_tell visit.moment (happens visit.before visit.moment visit.event).zone) (happens visit.before visit.moment visit.event).zone (same ∙ h))
    go (inr now) = inr (confirmed_stays (is_to_tell visit.moment (happens visit.before visit.moment visit.event).zone) (happens visit.before visit.moment visit.event).zone ∙ now)

not_untold : (now : ℕ) (zone : KeptZone) (b : Bool) → has_expired now zone ≡ b → zone.told ≡ true → is_to_tell now zone ≡ true → ⊥
not_untold now zone true e told h = let no : is_to_tell now zone ≡ false = ap (λ (c : Bool). c && not zone.told) e ∙ ap (λ (c : Bool). not c) told in absurd (cc)
not_untold now zone false e told h = let no : is_to_tell now zone ≡ false = ap (λ (c : Bool). c && not zone.told) e in absurd (cc)

told_again : (visit : Visit) → visit.before.told ≡ true → (outs_after visit.before visit.moment visit.event).expired ≡ true → (left_by visit).confirmed ≡ visit.moment
told_again visit told h = go (happens_on visit.before visit.moment visit.event)
  where
    go : IsToldOn visit.before visit.moment (happens visit.before visit.moment visit.event) → (left_by visit).confirmed ≡ visit.moment
    go (inl same) =
        absurd (not_untold visit.moment (happens visit.before visit.moment visit.event).zone (has_expired visit.moment (happens visit.before visit.moment visit.event).zone) refl (same ∙ told) h)
    go (inr now) = confirmed_stays (is_to_tell visit.moment (happens visit.before visit.moment visit.event).zone) (happens visit.before visit.moment visit.event).zone ∙ now

pub promises : KeepingLaws
promises = record {
  each_is_visited = each_is_visited;
  one_at_most = one_at_most;
  wakes_in_time = wakes_in_time;
  sleeps_till_then = sleeps_till_then;
  asked_when_due = asked_when_due;
  asked_no_sooner = asked_no_sooner;
  fetched_where_greater = fetched_where_greater;
  not_fetched_else = not_fetched_else;
  stays_told = stays_told;
  told_again = told_again;
}

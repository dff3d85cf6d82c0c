-- A zone that has expired is told, and primaries are asked in turn.
use Rattle.std.proofs.Common.{◌≡◌, ◌<◌, ℕ, ◌+◌, suc, zero, List, ◌∷◌, Bool, true, false, refl, ap, sym, ◌∙◌, arith, Option, Some, None}
use Rattle.std.specs.Prelude.{◌==◌, ◌&&◌, not, nat_le, nat_lt}
use Rattle.std.proofs.lemmas.Bool.{lt-ltb}
use Rattle.zone_refresh.specs.declared.kept.Event.{Event}
use Rattle.zone_refresh.specs.declared.kept.Event.TheVariants.{Tick, Answered, Unanswered, Fetched, NotFetched}
use Rattle.zone_refresh.specs.declared.kept.KeptZone.{KeptZone}
use Rattle.zone_refresh.specs.declared.kept.Phase.{Phase}
use Rattle.zone_refresh.specs.declared.kept.Phase.TheVariants.{Waiting, Asking, Fetching}
use Rattle.zone_refresh.specs.declared.kept.Task.{Task}
use Rattle.zone_refresh.specs.declared.kept.Task.TheVariants.{AskSoa}
use Rattle.zone_refresh.specs.declared.kept.ZoneTimers.{ZoneTimers}
use Rattle.zone_refresh.specs.Timing.{has_expired, is_greater}
use Rattle.zone_refresh.specs.Steps.{Does, answered, asks, asks_next, fetched, happens, is_to_tell, not_fetched, outs_after, ticks, told_by, unanswered, weighs, zone_after}
use Rattle.zone_refresh.specs.Laws.{RefreshLaws, asked_from, tasks_of_silence}

told_then : (now : ℕ) (zone : KeptZone) (expired told : Bool) → has_expired now zone ≡ expired → zone.told ≡ told → has_expired now (told_by (is_to_tell now zone) zone) ≡ true → (told_by (is_to_tell now zone) zone).told ≡ true
told_then now zone true true e t h =
    let known : is_to_tell now zone ≡ false = ap (λ (b : Bool). b && not zone.told) e ∙ ap (λ (b : Bool). not b) t in
    ap (λ (b : Bool). (told_by b zone).told) known ∙ t
told_then now zone true false e t h =
    let new : is_to_tell now zone ≡ true = ap (λ (b : Bool). b && not zone.told) e ∙ ap (λ (b : Bool). not b) t in
    ap (λ (b : Bool). (told_by b zone).told) new
told_then now zone false told e t h =
    let known : is_to_tell now zone ≡ false = ap (λ (b : Bool). b && not zone.told) e in
    let no : has_expired now (told_by (is_to_tell now zone) zone) ≡ false = ap (λ (b : Bool). has_expired now (told_by b zone)) known ∙ e in
    absurd cc

expired_is_told : (zone : KeptZone) (now : ℕ) (event : Event) → has_expired now (zone_after zone now event) ≡ true → (zone_after zone now event).told ≡ true
expired_is_told zone now event h = told_then now (happens zone now event).zone (has_expired now (happens zone now event).zone) (happens zone now event).zone.told refl refl h

-- ---- nothing but a step that puts it out makes a zone told

next_keeps : (zone : KeptZone) (now primary : ℕ) → (asks_next zone now primary).zone.told ≡ true → zone.told ≡ true
next_keeps zone now primary h = go (nat_lt (primary + 1) zone.primaries) refl
  where
    go : (b : Bool) → nat_lt (primary + 1) zone.primaries ≡ b → zone.told ≡ true
    go true e = let same : (asks_next zone now primary).zone.told ≡ zone.told = rw e refl in sym same ∙ h
    go false e = let same : (asks_next zone now primary).zone.told ≡ zone.told = rw e refl in sym same ∙ h

weighing_keeps : (zone : KeptZone) (now primary serial : ℕ) (held : Option ZoneTimers) → (weighs zone now primary serial held).zone.told ≡ true → zone.told ≡ true
weighing_keeps zone now primary serial None h = h
weighing_keeps zone now primary serial (Some timers) h = go (is_greater serial timers.serial.0) (serial == timers.serial.0) refl refl
  where
    go : (b c : Bool) → is_greater serial timers.serial.0 ≡ b → (serial == timers.serial.0) ≡ c → zone.told ≡ true
    go true c e f = let same : (weighs zone now primary serial (Some timers)).zone.told ≡ zone.told = rw e refl in sym same ∙ h
    go false true e f = let same : (weighs zone now primary serial (Some timers)).zone.told ≡ false = rw (e, f) refl in absurd cc
    go false false e f =
        let same : weighs zone now primary serial (Some timers) ≡ asks_next zone now primary = rw (e, f) refl in
        next_keeps zone now primary (sym (ap (λ (d : Does). d.zone.told) same) ∙ h)

ticking_keeps : (zone : KeptZone) (now : ℕ) (phase : Phase) → (ticks zone now phase).zone.told ≡ true → zone.told ≡ true
ticking_keeps zone now (Waiting due) h = go (nat_le due now) refl
  where
    go : (b : Bool) → nat_le due now ≡ b → zone.told ≡ true
    go true e = let same : (ticks zone now (Waiting due)).zone.told ≡ zone.told = rw e refl in sym same ∙ h
    go false e = let same : (ticks zone now (Waiting due)).zone.told ≡ zone.told = rw e refl in sym same ∙ h
ticking_keeps zone now (Asking primary) h = h
ticking_keeps zone now (Fetching primary) h = h

answer_keeps : (zone : KeptZone) (now serial : ℕ) (phase : Phase) → (answered zone now serial phase).zone.told ≡ true → zone.told ≡ true
answer_keeps zone now serial (Waiting due) h = h
answer_keeps zone now serial (Asking primary) h = weighing_keeps zone now primary serial zone.held h
answer_keeps zone now serial (Fetching primary) h = h

silence_keeps : (zone : KeptZone) (now : ℕ) (phase : Phase) → (unanswered zone now phase).zone.told ≡ true → zone.told ≡ true
silence_keeps zone now (Waiting due) h = h
silence_keeps zone now (Asking primary) h = next_keeps zone now primary h
silence_keeps zone now (Fetching primary) h = h

fetch_keeps : (zone : KeptZone) (now : ℕ) (timers : ZoneTimers) (phase : Phase) → (fetched zone now timers phase).zone.told ≡ true → zone.told ≡ true
fetch_keeps zone now timers (Waiting due) h = h
fetch_keeps zone now timers (Asking primary) h = h
fetch_keeps zone now timers (Fetching primary) h = absurd cc

failure_keeps : (zone : KeptZone) (now : ℕ) (phase : Phase) → (not_fetched zone now phase).zone.told ≡ true → zone.told ≡ true
failure_keeps zone now (Waiting due) h = h
failure_keeps zone now (Asking primary) h = h
failure_keeps zone now (Fetching primary) h = next_keeps zone now primary h

event_keeps : (zone : KeptZone) (now : ℕ) (event : Event) → (happens zone now event).zone.told ≡ true → zone.told ≡ true
event_keeps zone now Tick h = ticking_keeps zone now zone.phase h
event_keeps zone now (Answered serial) h = answer_keeps zone now serial.0 zone.phase h
event_keeps zone now Unanswered h = silence_keeps zone now zone.phase h
event_keeps zone now (Fetched timers) h = fetch_keeps zone now timers zone.phase h
event_keeps zone now NotFetched h = failure_keeps zone now zone.phase h

told_now : (zone : KeptZone) (now : ℕ) (event : Event) → (outs_after zone now event).expired ≡ false → (zone_after zone now event).told ≡ true → zone.told ≡ true
told_now zone now event silent h =
    let same : zone_after zone now event ≡ (happens zone now event).zone = ap (λ (b : Bool). told_by b (happens zone now event).zone) silent in
    event_keeps zone now event (sym (ap (λ (z : KeptZone). z.told) same) ∙ h)

-- ---- primaries in turn

told_stays : (b : Bool) (zone : KeptZone) → ((told_by b zone).phase ≡ zone.phase) × ((told_by b zone).primaries ≡ zone.primaries)
told_stays true zone = (refl, refl)
told_stays false zone = (refl, refl)

each_is_asked : (zone : KeptZone) (now primary others : ℕ) → zone.phase ≡ Asking primary → primary + others + 1 ≡ zone.primaries → tasks_of_silence zone now others ≡ asked_from (primary + 1) others
each_is_asked zone now primary zero asks count = refl
each_is_asked zone now primary (suc n) here count =
    let more : primary + 1 < zone.primaries = omega arith in
    let hap : happens zone now Unanswered ≡ asks zone (primary + 1) = ap (unanswered zone now) here ∙ rw (lt-ltb (primary + 1) zone.primaries more) refl in
    let task : (outs_after zone now Unanswered).task ≡ Some (AskSoa (primary + 1)) = ap (λ (d : Does). d.task) hap in
    let stays = told_stays (is_to_tell now (happens zone now Unanswered).zone) (happens zone now Unanswered).zone in
    let phase : (zone_after zone now Unanswered).phase ≡ Asking (primary + 1) = stays.0 ∙ ap (λ (d : Does). d.zone.phase) hap in
    let primaries : (zone_after zone now Unanswered).primaries ≡ zone.primaries = stays.1 ∙ ap (λ (d : Does). d.zone.primaries) hap in
    let left : primary + 1 + n + 1 ≡ (zone_after zone now Unanswered).primaries = omega (arith, primaries, count) in
    ap (λ (t : Option Task). t ∷ tasks_of_silence (zone_after zone now Unanswered) now n) task
    ∙ ap (λ (ts : List (Option Task)). Some (AskSoa (primary + 1)) ∷ ts) (each_is_asked (zone_after zone now Unanswered) now (primary + 1) n phase left)

pub promises : RefreshLaws
promises = record { expired_is_told = expired_is_told; told_now = told_now; each_is_asked = each_is_asked }

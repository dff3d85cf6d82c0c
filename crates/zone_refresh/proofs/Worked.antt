-- A zone with two primaries, at moments in microseconds.
use Rattle.std.proofs.Common.{◌≡◌, true, false, refl, Some}
use Rattle.zone_refresh.specs.declared.kept.Event.TheVariants.{Tick, Answered, Unanswered}
use Rattle.zone_refresh.specs.declared.kept.KeptZone.{KeptZone}
use Rattle.zone_refresh.specs.declared.kept.Phase.{Phase}
use Rattle.zone_refresh.specs.declared.kept.Phase.TheVariants.{Waiting, Asking}
use Rattle.zone_refresh.specs.declared.kept.Task.TheVariants.{AskSoa, Fetch}
use Rattle.zone_refresh.specs.Timing.{is_greater, next_due}
use Rattle.zone_refresh.specs.Steps.{outs_after, zone_after}

unfoldable pub kept : Phase → KeptZone
kept phase = record { primaries = 2; held = Some (record { serial = record { 0 = 7 }; refresh = record { 0 = 10 }; retry = record { 0 = 3 }; expire = record { 0 = 20 } }); confirmed = 1000000; phase = phase; told = false }

due_is_asked : (outs_after (kept (Waiting 5)) 5 Tick).task ≡ Some (AskSoa 0)
unfolding kept
due_is_asked = refl

silent_is_passed : (outs_after (kept (Asking 0)) 6 Unanswered).task ≡ Some (AskSoa 1)
unfolding kept
silent_is_passed = refl

last_silent_waits : (zone_after (kept (Asking 1)) 2000000 Unanswered).phase ≡ Waiting 5000000
unfolding kept
last_silent_waits = refl

same_waits : (zone_after (kept (Asking 0)) 2000000 (Answered (record { 0 = 7 }))).phase ≡ Waiting 12000000
unfolding kept
same_waits = refl

greater_is_fetched : (outs_after (kept (Asking 1)) 2000000 (Answered (record { 0 = 8 }))).task ≡ Some (Fetch 1)
unfolding kept
greater_is_fetched = refl

lesser_is_passed : (outs_after (kept (Asking 0)) 2000000 (Answered (record { 0 = 6 }))).task ≡ Some (AskSoa 1)
unfolding kept
lesser_is_passed = refl

wraps : is_greater 2 4294967295 ≡ true
wraps = refl

half_is_not : is_greater 2147483648 0 ≡ false
half_is_not = refl

expires : (outs_after (kept (Asking 0)) 21000000 Unanswered).expired ≡ true
unfolding kept
expires = refl

expires_no_sooner : (outs_after (kept (Asking 0)) 20999999 Unanswered).expired ≡ false
unfolding kept
expires_no_sooner = refl

sleeps_until : next_due (kept (Waiting 12000000)) ≡ Some 12000000
unfolding kept
sleeps_until = refl

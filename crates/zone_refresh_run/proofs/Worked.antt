-- Zones with two primaries, at moments in microseconds.
use Rattle.std.proofs.Common.{◌≡◌, [], ◌∷◌, false, refl, Some, None}
use Rattle.zone_refresh.specs.declared.kept.Event.TheVariants.{Tick, Unanswered, NotFetched}
use Rattle.zone_refresh.specs.declared.kept.KeptZone.{KeptZone}
use Rattle.zone_refresh.specs.declared.kept.Phase.{Phase}
use Rattle.zone_refresh.specs.declared.kept.Phase.TheVariants.{Waiting, Asking, Fetching}
use Rattle.zone_refresh_run.specs.Turns.{wake_of}
use Rattle.zone_refresh_run.specs.Visits.{Visit, deeds_of, left_by}
use Rattle.zone_refresh_run.specs.declared.world.Deed.TheVariants.{Asked, Fetched, Looked, Told}
use Rattle.zone_refresh_run.specs.declared.world.ZoneNews.TheVariants.{Came, Expired}

unfoldable pub kept : Phase → KeptZone
kept phase = record { primaries = 2; held = Some (record { serial = record { 0 = 7 }; refresh = record { 0 = 10 }; retry = record { 0 = 3 }; expire = record { 0 = 20 } }); confirmed = 1000000; phase = phase; told = false }

wakes_for_the_first : wake_of (kept (Waiting 12000000) ∷ kept (Waiting 5000000) ∷ []) ≡ 5000000
unfolding kept
wakes_for_the_first = refl

wakes_for_an_expiry : wake_of (kept (Waiting 30000000) ∷ []) ≡ 21000000
unfolding kept
wakes_for_an_expiry = refl

wakes_at_once : wake_of (kept (Waiting 12000000) ∷ kept (Fetching 1) ∷ []) ≡ 0
unfolding kept
wakes_at_once = refl

unfoldable pub asked_first : Visit
asked_first = record { before = kept (Asking 0); event = Unanswered; moment = 2000000 }

next_is_asked : deeds_of 3 asked_first ≡ Asked 3 0 None ∷ Looked 2000000 ∷ Told 3 (Came 0 Unanswered 2000000 (left_by asked_first)) ∷ []
unfolding kept asked_first
next_is_asked = refl

next_waits_for_the_second : (left_by asked_first).phase ≡ Asking 1
unfolding kept asked_first
next_waits_for_the_second = refl

nothing_is_asked : deeds_of 0 (record { before = kept (Waiting 12000000); event = Tick; moment = 2000000 }) ≡ Looked 2000000 ∷ []
unfolding kept
nothing_is_asked = refl

unfoldable pub too_late : Visit
too_late = record { before = kept (Fetching 1); event = NotFetched; moment = 21000000 }

expiry_is_told : deeds_of 0 too_late ≡ Fetched 0 1 None ∷ Looked 21000000 ∷ Told 0 (Came 1 NotFetched 21000000 (left_by too_late)) ∷ Told 0 Expired ∷ []
unfolding kept too_late
expiry_is_told = refl

expiry_is_told_once : deeds_of 0 (record { before = left_by too_late; event = Tick; moment = 22000000 }) ≡ Looked 22000000 ∷ []
unfolding kept too_late
expiry_is_told_once = refl

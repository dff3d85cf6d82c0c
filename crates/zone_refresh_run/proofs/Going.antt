-- Each zone is led on by a visit in each turn.
use Rattle.std.proofs.Common.{◌≡◌, ℕ, zero, suc, ◌<◌, ◌≤◌, List, [], ◌∷◌, length, get_or, refl, ap, sym, subst, ◌∙◌, arith}
use Rattle.std.specs.Prelude.{All}
use Rattle.std.proofs.lemmas.List.{length-map}
use Rattle.std.proofs.lemmas.List.Elements.{All-head, All-tail}
use Rattle.zone_refresh.specs.declared.kept.Event.{Event}
use Rattle.zone_refresh.specs.declared.kept.KeptZone.{KeptZone}
use Rattle.zone_refresh.specs.declared.kept.Phase.{Phase}
use Rattle.zone_refresh.specs.declared.kept.Phase.TheVariants.{Waiting, Asking, Fetching}
use Rattle.zone_refresh_run.specs.Laws.{Goes}
use Rattle.zone_refresh_run.specs.Turns.{Lead, Turn}
use Rattle.zone_refresh_run.specs.Visits.{IsAwaited, Visit, befores, done_for, left_by, lefts}

-- the visit of the zone at a place
pub record IsVisitAt (turn : List Visit) (k : ℕ) (d : KeptZone) : Type 0 where
  pub visit : Visit
  pub was : get_or (befores turn) k d ≡ visit.before
  pub left : get_or (lefts turn) k d ≡ left_by visit
  pub awaited : IsAwaited visit

visit_at : (turn : List Visit) (k : ℕ) (d : KeptZone) → All IsAwaited turn → k < length turn → IsVisitAt turn k d
visit_at [] k d all within = absurd (omega arith)
visit_at (visit ∷ turn) zero d all within = record { visit = visit; was = refl; left = refl; awaited = All-head IsAwaited visit turn all }
visit_at (visit ∷ turn) (suc k) d all within =
    let behind = visit_at turn k d (All-tail IsAwaited visit turn all) (omega arith) in
    record { visit = behind.visit; was = behind.was; left = behind.left; awaited = behind.awaited }

pub each_is_visited : (turns : List Turn) (zones after : List KeptZone) (k : ℕ) (d : KeptZone) → Lead zones turns after → k < length zones
    → (visits : List Visit) × (length visits ≡ length turns) × Goes (get_or zones k d) visits (get_or after k d)
each_is_visited [] zones after k d lead within = ([], refl, ap (λ (zs : List KeptZone). get_or zs k d) lead)
each_is_visited (turn ∷ turns) zones after k d lead within =
    let many : length turn ≡ length zones = sym (length-map turn (λ (v : Visit). v.before)) ∙ ap length lead.0 in
    let here : IsVisitAt turn k d = visit_at turn k d lead.1 (omega (arith, many, within)) in
    let left : length (lefts turn) ≡ length turn = length-map turn left_by in
    let behind = each_is_visited turns (lefts turn) after k d lead.2 (omega (arith, many, left, within)) in
    let was : here.visit.before ≡ get_or zones k d = sym here.was ∙ ap (λ (zs : List KeptZone). get_or zs k d) lead.0 in
    let on : Goes (left_by here.visit) behind.0 (get_or after k d) = subst (λ (z : KeptZone). Goes z behind.0 (get_or after k d)) here.left behind.2 in
    (here.visit ∷ behind.0, ap suc behind.1, (was, here.awaited, on))

pub one_at_most : (zone : ℕ) (visit : Visit) → length (done_for zone visit.before.phase visit.event) ≤ 1
one_at_most zone visit = go visit.before.phase visit.event
  where
    go : (phase : Phase) (event : Event) → length (done_for zone phase event) ≤ 1
    go (Waiting due) event = omega arith
    go (Asking primary) event = omega arith
    go (Fetching primary) event = omega arith

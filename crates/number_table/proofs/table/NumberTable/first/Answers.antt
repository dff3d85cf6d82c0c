use Rattle.std.proofs.Common.{◌∙◌, ◌≤◌, ◌<◌, ap, subst, length, true, false, refl, List, ℕ, ◌≡◌, get_or}
use Rattle.std.specs.Prelude.{option_map, slice_get}
use Rattle.number_table.specs.Slots.{AreEmptyBefore, empty_at}
use Rattle.number_table.specs.declared.slots.Slot.{Slot}
use Rattle.number_table.proofs.SlotTable.{is_within, is_past, no_key, key_there}
use Rattle.number_table.proofs.table.NumberTable.first.Goals as goal

pub returns-in_err-slot : goal.returns-in_err-slot
returns-in_err-slot g c =
    let n = c.first_place-place.result in
    let told = c.first_place-place.ensures in
    let lent = c.as_slice.ensures.value in
    let passed = subst (AreEmptyBefore n) lent (told.passed (rw lent c.self.invariant.passed)) in
    let full = subst (λ (l : List (Slot g.row.V.Denot)). empty_at n l ≡ false) lent told.full in
    let past = subst (λ (l : List (Slot g.row.V.Denot)). length l ≤ n) c.deref.ensures.value (is_past n _ false c.in_err-slot.ensures.lookup.0 refl) in
    c.from_residual.ensures
    ∙ no_key n c.self.inside.slots.items passed full past
    ∙ ap (λ (l : List (ℕ × g.row.V.Denot)). option_map (λ e. e.0) (slice_get l 0)) c.self.view_is

pub returns : goal.returns
returns g c =
    let n = c.first_place-place.result in
    let told = c.first_place-place.ensures in
    let lent = c.as_slice.ensures.value in
    let slot = c.in_ok-slot.slot.now in
    let passed = subst (AreEmptyBefore n) lent (told.passed (rw lent c.self.invariant.passed)) in
    let full = subst (λ (l : List (Slot g.row.V.Denot)). empty_at n l ≡ false) lent told.full in
    let there = c.in_ok-slot.ensures.lookup in
    let within = subst (λ (l : List (Slot g.row.V.Denot)). n < length l) c.deref.ensures.value (is_within n _ true there.0 refl) in
    let is = subst (λ (l : List (Slot g.row.V.Denot)). slot ≡ get_or l n slot) c.deref.ensures.value there.1 in
    key_there n c.self.inside.slots.items slot passed full within is
    ∙ ap (λ (l : List (ℕ × g.row.V.Denot)). option_map (λ e. e.0) (slice_get l 0)) c.self.view_is

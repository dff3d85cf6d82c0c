use Rattle.std.proofs.Common.{◌≡◌, ◌+◌, Option, Some, None, List, [], ◌∷◌, ◌++◌, length, map, reverse, sym, ◌∙◌, ap, arith, append_assoc}
use Rattle.std.proofs.lemmas.List.{reverse-append}
use Rattle.client_stream.specs.IdTable.{held_from}
use Rattle.client_stream.proofs.IdTable.{last_free, last_held, one_more}
use Rattle.client_stream.proofs.queries.gather.Goals as goal

module _ {T : Type 0} where
  -- the slots before the last one, which holds an item or is free
  held_last : (all before : List (Option T)) (slot : Option T) (x : T) → all ≡ before ++ slot ∷ [] → slot ≡ Some x → all ≡ before ++ Some x ∷ []
  held_last all before slot x e is = e ∙ ap (λ slot. before ++ slot ∷ []) is

  room_more : (all before : List (Option T)) (x : T) → all ≡ before ++ Some x ∷ [] → length (held_from 0 all) ≡ length (held_from 0 before) + 1
  room_more all before x e = ap (λ s. length (held_from 0 s)) e ∙ one_more x before

  moves : (all before : List (Option T)) (x : T) (found found' whole : List T) → all ≡ before ++ Some x ∷ [] → found' ≡ found ++ x ∷ []
      → map (λ entry. entry.1) (held_from 0 all) ++ reverse found ≡ whole → map (λ entry. entry.1) (held_from 0 before) ++ reverse found' ≡ whole
  moves all before x found found' whole e more kept =
      ap (λ f. map (λ entry. entry.1) (held_from 0 before) ++ reverse f) more
      ∙ ap (λ f. map (λ entry. entry.1) (held_from 0 before) ++ f) (reverse-append found (x ∷ []))
      ∙ sym (append_assoc (map (λ entry. entry.1) (held_from 0 before)) (x ∷ []) (reverse found))
      ∙ ap (λ f. f ++ reverse found) (sym (last_held 0 x before))
      ∙ ap (λ s. map (λ entry. entry.1) (held_from 0 s) ++ reverse found) (sym e)
      ∙ kept

  same : (all before : List (Option T)) (slot : Option T) → all ≡ before ++ slot ∷ [] → slot ≡ None → held_from 0 all ≡ held_from 0 before
  same all before slot e is = ap (held_from 0) (e ∙ ap (λ slot. before ++ slot ∷ []) is) ∙ last_free 0 before

pub push_reserved-requires : goal.push_reserved-requires
push_reserved-requires g c =
    let e = held_last c.loop-slot.slots.items c.pop.new.self.items c.in-Some.slot c.in-Some-slot.item c.in-Some.ensures.items c.in-Some-slot.is in
    let n = room_more c.loop-slot.slots.items c.pop.new.self.items c.in-Some-slot.item e in
    let r = c.loop-slot.invariant.room in
    omega arith

pub loop-slot-preserved-in-Some-slot : goal.loop-slot-preserved-in-Some-slot
loop-slot-preserved-in-Some-slot g c =
    let e = held_last c.loop-slot.slots.items c.pop.new.self.items c.in-Some.slot c.in-Some-slot.item c.in-Some.ensures.items c.in-Some-slot.is in
    let n = room_more c.loop-slot.slots.items c.pop.new.self.items c.in-Some-slot.item e in
    let r = c.loop-slot.invariant.room in
    record {
      items = moves c.loop-slot.slots.items c.pop.new.self.items c.in-Some-slot.item c.loop-slot.items.items c.push_reserved.new.self.items _ e c.push_reserved.ensures.items c.loop-slot.invariant.items;
      room = omega arith;
    }

pub loop-slot-preserved : goal.loop-slot-preserved
loop-slot-preserved g c =
    let e = same c.loop-slot.slots.items c.pop.new.self.items c.in-Some.slot c.in-Some.ensures.items c.in-None.is in
    let n : length (held_from 0 c.loop-slot.slots.items) ≡ length (held_from 0 c.pop.new.self.items) = ap length e in
    let r = c.loop-slot.invariant.room in
    record {
      items = ap (λ es. map (λ entry. entry.1) es ++ reverse c.loop-slot.items.items) (sym e) ∙ c.loop-slot.invariant.items;
      room = omega arith;
    }

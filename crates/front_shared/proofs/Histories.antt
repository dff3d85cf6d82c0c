-- Histories that grow by one item.
use Rattle.std.proofs.Common.{◌≡◌, ℕ, zero, suc, ◌+◌, ◌<◌, ◌≤◌, ◌^◌, ◌==◌, Bool, true, false, true≢false, List, [], ◌∷◌, ◌++◌, map, length, Option, Some, None, refl, sym, ap, subst, ◌∙◌, eq-eqb, arith}
use Rattle.std.specs.Prelude.{if◌then◌else◌, is_some, All}
use Rattle.std.proofs.lemmas.List.{append-nil}
use mathlib.Core.List.{IsPrefix, map-append}
use Rattle.joint_history.specs.Views.{own, own_from}
use Rattle.joint_history.proofs.Beginnings.{own-append, prefix_trans}
use Rattle.client_request.specs.declared.event.Row.{Row}
use Rattle.client_steps.specs.Whole.{Whole}
use Rattle.front_core.specs.Forwarded.{Forwards, Makes, begins, goes_on}
use Rattle.front_peers.specs.declared.event.FrontEvent.{FrontEvent}
use Rattle.front_peers.specs.declared.event.FrontOut.{FrontOut}
use Rattle.front_peers.specs.declared.event.FrontRow.{FrontRow}
use Rattle.front_steps.specs.Steps.{Forwarding}
use Rattle.front_shared.specs.Waiting.{after_row, waits_behind}
use Rattle.front_shared.specs.declared.entry.Entry.{Entry}
use Rattle.front_shared.specs.declared.entry.Item.{Item}
use Rattle.front_shared.specs.declared.entry.Item.TheVariants.{Made, Ended}
use Rattle.front_shared.specs.History.{AreMade, EndsEnded, IsBehind, IsEnded, IsFull, IsLegal, IsSettled, Opening, Passed, Puts, caller_of, calls, entry_of, history, rows_in, rows_of}

module _ {A : Type 0} (P : A → Type 0) where
  pub all_more : (xs : List A) (x : A) → All P xs → P x → All P (xs ++ x ∷ [])
  all_more [] x h p zero d lt = p
  all_more [] x h p (suc k) d lt = absurd (omega arith)
  all_more (y ∷ ys) x h p zero d lt = h zero d (omega arith)
  all_more (y ∷ ys) x h p (suc k) d lt = all_more ys x (λ j e l. h (suc j) e (omega arith)) p k d (omega arith)

  pub all_none : All P []
  all_none k d lt = absurd (omega (arith, lt))

pub length_made : (entries : List Entry) → length (map Made entries) ≡ length entries
length_made [] = refl
length_made (e ∷ entries) = omega (arith, length_made entries)

pub history_more : (entries : List Entry) (e : Entry) → history (entries ++ e ∷ []) None ≡ history entries None ++ Made e ∷ []
history_more entries e = map-append Made entries (e ∷ [])

-- what waits behind one entry more
pub waits_more : (waiting : List FrontOut) (entries : List Entry) (e : Entry) → waits_behind waiting (entries ++ e ∷ []) ≡ after_row e.caller e.row.outs (waits_behind waiting entries)
waits_more waiting [] e = refl
waits_more waiting (d ∷ entries) e = waits_more (after_row d.caller d.row.outs waiting) entries e

-- no entries, and one more
pub none_made : (o : Opening) → AreMade o [] [] o.first o.words
none_made o = record { forwards = begins; below = all_none (λ (e : Entry). e.caller < o.callers) }

pub made_on : (o : Opening) (entries : List Entry) (trace : List Row) (a : Forwarding Whole) (f : ℕ → ℕ) (e : Entry) (b : Forwarding Whole) (g : ℕ → ℕ)
    → AreMade o entries trace a f → e.caller < o.callers → (made : Makes e.row a f b g) → AreMade o (entries ++ e ∷ []) (trace ++ (made.rows ++ made.now)) b g
made_on o entries trace a f e b g m below made = record {
  forwards =
      goes_on (rows_of entries) (rows_of (entries ++ e ∷ [])) e.row trace (trace ++ (made.rows ++ made.now)) a b f g m.forwards made
      (map-append (λ (d : Entry). d.row) entries (e ∷ [])) refl;
  below = all_more (λ (d : Entry). d.caller < o.callers) entries e m.below below;
}

pub legal_so : (o : Opening) (entries : List Entry) (ended : Option ℕ) (trace : List Row) (last : Forwarding Whole) (left : ℕ → ℕ) → AreMade o entries trace last left → IsLegal o (history entries ended)
legal_so o entries ended trace last left m = record { entries = entries; ended = ended; items_are = refl; trace = trace; last = last; left = left; made = m }

-- a history without items is legal
pub fresh_legal : (o : Opening) (items : List Item) → items ≡ [] → IsLegal o items
fresh_legal o items none = subst (IsLegal o) (sym none) (legal_so o [] None [] o.first o.words (none_made o))

pub rows_in-append : (xs ys : List (ℕ × Item)) → rows_in (xs ++ ys) ≡ rows_in xs ++ rows_in ys
rows_in-append [] ys = refl
rows_in-append ((k, Made e) ∷ xs) ys = ap (λ (w : List (ℕ × FrontRow)). (k, e.row) ∷ w) (rows_in-append xs ys)
rows_in-append ((k, Ended c) ∷ xs) ys = rows_in-append xs ys

own_end : (n : ℕ) (before : List Item) (item : Item) → caller_of item ≡ n → own caller_of n (before ++ item ∷ []) ≡ own caller_of n before ++ (length before, item) ∷ []
own_end n before item is =
    own-append caller_of n before (item ∷ [])
    ∙ ap (λ b. own caller_of n before ++ (if b then ((length before, item) ∷ []) else [])) (eq-eqb (caller_of item) n is)

call_added : (n : ℕ) (before : List Item) (e : Entry) → e.caller ≡ n → rows_in (own caller_of n (before ++ Made e ∷ [])) ≡ rows_in (own caller_of n before) ++ (length before, e.row) ∷ []
call_added n before e is = ap rows_in (own_end n before (Made e) is) ∙ rows_in-append (own caller_of n before) ((length before, Made e) ∷ [])

none_added : (n : ℕ) (before : List Item) → rows_in (own caller_of n (before ++ Ended n ∷ [])) ≡ rows_in (own caller_of n before)
none_added n before =
    ap rows_in (own_end n before (Ended n) refl) ∙ (rows_in-append (own caller_of n before) ((length before, Ended n) ∷ []) ∙ append-nil (rows_in (own caller_of n before)))

-- the calls of a pass that put an entry or an end at the end of a history
pub puts_call : (old new : Passed) (before : List Item) (row : FrontRow) → Puts old before (Made (entry_of old.number row)) new → calls new ≡ calls old ++ (length before, row) ∷ []
puts_call old new before row p =
    ap (λ (q : ℕ × List Item). rows_in (own caller_of q.0 q.1)) (λ i. (p.number i, p.seen i))
    ∙ (call_added old.number before (entry_of old.number row) refl
    ∙ ap (λ (xs : List (ℕ × Item)). rows_in xs ++ (length before, row) ∷ []) p.own_items)

pub puts_none : (old new : Passed) (before : List Item) → Puts old before (Ended old.number) new → calls new ≡ calls old
puts_none old new before p =
    ap (λ (q : ℕ × List Item). rows_in (own caller_of q.0 q.1)) (λ i. (p.number i, p.seen i)) ∙ (none_added old.number before ∙ ap rows_in p.own_items)

-- those of a pass that saw more, but none of its own
pub sees_none : (old new : Passed) → new.number ≡ old.number → own caller_of old.number new.seen ≡ own caller_of old.number old.seen → calls new ≡ calls old
sees_none old new number same = ap (λ (n : ℕ). rows_in (own caller_of n new.seen)) number ∙ ap rows_in same

-- what a call leaves that finds the end of a history
pub behind : (old new : Passed) → new.number ≡ old.number → IsPrefix old.seen new.seen → EndsEnded new.seen → own caller_of old.number new.seen ≡ own caller_of old.number old.seen → IsBehind old new
behind old new number from ends same = record { number = number; begins = from; ends = ends; calls_are = sees_none old new number same }

pub filled : (old new : Passed) → new.number ≡ old.number → IsPrefix old.seen new.seen → 2 ^ 64 ≤ length new.seen + 2 → own caller_of old.number new.seen ≡ own caller_of old.number old.seen → IsFull old new
filled old new number from many same = record { number = number; begins = from; many = many; calls_are = sees_none old new number same }

pub settles : (items : List Item) (old new : Passed) → new.number ≡ old.number → IsPrefix old.seen items → new.seen ≡ items → own caller_of old.number items ≡ own caller_of old.number old.seen → IsSettled items old new
settles items old new number from seen same = record {
  number = number;
  begins = from;
  seen = seen;
  calls_are = sees_none old new number (ap (own caller_of old.number) seen ∙ same);
}

-- what a call leaves by which a history ended
pub ended_by : (old new : Passed) (before : List Entry) → Puts old (map Made before) (Ended old.number) new → IsEnded old new
ended_by old new before p = record {
  number = p.number;
  before = before;
  begins = p.begins;
  seen = p.seen;
  none_between = p.own_items;
  calls_are = puts_none old new (map Made before) p;
}

-- a history that has not ended ends with no end
unended : (entries before : List Entry) (caller : ℕ) → map Made entries ≡ map Made before ++ Ended caller ∷ [] → ⊥
unended [] [] caller e = absurd (cc e)
unended [] (b ∷ before) caller e = absurd (cc e)
unended (e ∷ entries) [] caller is = absurd (cc is)
unended (e ∷ entries) (b ∷ before) caller is = unended entries before caller (cc is)

pub none_ended : (entries : List Entry) (items : List Item) → history entries None ≡ items → EndsEnded items → ⊥
none_ended entries items is ends = unended entries ends.0 ends.1 (is ∙ ends.2)

-- what a call leaves that puts an end
pub put_behind : (old new : Passed) (before : List Entry) → Puts old (map Made before) (Ended old.number) new → IsBehind old new
put_behind old new before p = record {
  number = p.number;
  begins = prefix_trans old.seen (map Made before) new.seen p.begins (Ended old.number ∷ [], sym p.seen);
  ends = (before, old.number, p.seen);
  calls_are = puts_none old new (map Made before) p;
}

-- What lies under the lock of a client of which no journal is kept.
use Rattle.std.specs.Prelude.{is_some}
use Rattle.std.proofs.Common.{◌≡◌, ℕ, ◌+◌, ◌<◌, ◌≤◌, ◌^◌, List, [], ◌∷◌, ◌++◌, map, length, Option, Some, None, false, true≢false, refl, sym, ap, subst, ◌∙◌, arith, length-append}
use mathlib.Core.List.{IsPrefix, map-append}
use Rattle.joint_history.specs.Views.{own}
use Rattle.atomic_table.specs.Seated.{TableId}
use Rattle.atomic_table.specs.declared.shared.Seat.{Seat}
use Rattle.joint_history.specs.declared.view.View.{View}
use Rattle.client_request.specs.declared.event.Event.{Event}
use Rattle.client_steps.specs.Whole.{Whole, plain_step}
use Rattle.client_shared.specs.declared.entry.Entry.{Entry}
use Rattle.client_shared.specs.declared.entry.Item.{Item}
use Rattle.client_shared.specs.declared.entry.Item.TheVariants.{Made, Lost}
use Rattle.client_shared.specs.declared.entry.Receipt.{Receipt}
use Rattle.client_shared.specs.History.{Opening, Passed, IsKeeping, Puts, StepsTo, IsLegal, IsSubmitted, IsRefused, IsStopped, EndsLost, caller_of, entry_of, history, lost_in, made_in}
use Rattle.client_shared.specs.Unjournaled.{IsCounting, IsCounted, IsFull}
use Rattle.client_shared.proofs.Histories.{stands_on, next_legal, loss_legal, submitted, refused, stopped, desk_lost, history_more, none_lost}

module _ {W : Type 0} (table : TableId) (o : Opening) (stream : W → ℕ → ℕ) (s : Whole) (words : W) (count : ℕ) (seat : Seat (Unit {0}) (View Item)) (c : IsCounting table o stream s words count seat) where
  seen : List Item
  seen = seat.me.0.seen

  pub keeps : IsKeeping table seat.me.0.seen seat
  keeps = record { table_is = c.keeping.table_is; empty = c.keeping.empty; keeps = c.keeping.keeps; seen = refl }

  pub room : count + 1 < 2 ^ 64 → length seat.me.0.seen + 1 < 2 ^ 64
  room lt = subst (λ (n : ℕ). n + 1 < 2 ^ 64) (c.count_is ∙ ap length (sym c.keeping.seen)) lt

  pub tells_legal : (e : Entry) (t : Whole) (left : W) → e.caller < o.callers → StepsTo s (stream words) e t (stream left) → IsLegal o (seat.me.0.seen ++ Made e ∷ [])
  tells_legal e t left below x = subst (λ (items : List Item). IsLegal o (items ++ Made e ∷ [])) (sym c.keeping.seen) (next_legal o stream s words c.entries e t left below c.stands x)

  pub loses_legal : (caller : ℕ) → caller < o.callers → IsLegal o (seat.me.0.seen ++ Lost caller ∷ [])
  loses_legal caller below = subst (λ (items : List Item). IsLegal o (items ++ Lost caller ∷ [])) (sym c.keeping.seen) (loss_legal o stream s words c.entries caller below c.stands)

  pub counts_on : (e : Entry) (t : Whole) (left : W) (new : Seat (Unit {0}) (View Item)) → e.caller < o.callers → StepsTo s (stream words) e t (stream left) → IsKeeping table (seat.me.0.seen ++ Made e ∷ []) new
      → IsCounting table o stream t left (count + 1) new
  counts_on e t left new below x k = record {
    entries = c.entries ++ e ∷ [];
    count_is = ap (λ (n : ℕ). n + 1) c.count_is ∙ (omega (arith, length-append (map Made c.entries) (Made e ∷ [])) ∙ ap length (sym (history_more c.entries e)));
    keeping = subst (λ (items : List Item). IsKeeping table items new) (ap (λ (items : List Item). items ++ Made e ∷ []) c.keeping.seen ∙ sym (history_more c.entries e)) k;
    stands = stands_on o stream s words c.entries e t left below c.stands x;
  }

  pub told : (old new : Passed) (event : Event) (drawn : List ℕ) (receipt : Receipt) → Puts old seat.me.0.seen (Made (entry_of old.number event drawn receipt.outs)) new → receipt.number ≡ count → receipt.event ≡ event
      → IsSubmitted old new event receipt
  told old new event drawn receipt p number is =
      submitted old new c.entries event drawn receipt (subst (λ (items : List Item). Puts old items (Made (entry_of old.number event drawn receipt.outs)) new) c.keeping.seen p) (number ∙ c.count_is) is

  lost_puts : (old new : Passed) → Puts old seat.me.0.seen (Lost old.number) new → Puts old (history c.entries None) (Lost old.number) new
  lost_puts old new p = subst (λ (items : List Item). Puts old items (Lost old.number) new) c.keeping.seen p

  pub refuses : (old new : Passed) → Puts old seat.me.0.seen (Lost old.number) new → IsRefused old new
  refuses old new p = refused old new c.entries (lost_puts old new p)

  pub stops : (event : Event) (old new : Passed) → Puts old seat.me.0.seen (Lost old.number) new → plain_step (stream words) event s ≡ None → IsStopped o new event
  stops event old new p none = stopped o stream s words c.entries event old new c.stands (lost_puts old new p) none

  pub counted : (caller : ℕ) (t : Whole) (left : W) (new : Seat (Unit {0}) (View Item)) → caller < o.callers → IsKeeping table (seat.me.0.seen ++ Lost caller ∷ []) new → IsCounted table o stream t (Some left) count (Some caller) new
  counted caller t left new below k = record {
    entries = c.entries;
    count_is = c.count_is;
    desk = desk_lost table o stream s t words left c.entries caller new below (subst (λ (items : List Item). IsKeeping table (items ++ Lost caller ∷ []) new) c.keeping.seen k) c.stands;
  }

-- what a call leaves that finds the history full
pub filled : (old new : Passed) → new.number ≡ old.number → IsPrefix old.seen new.seen → 2 ^ 64 ≤ length new.seen + 2 → own caller_of old.number new.seen ≡ own caller_of old.number old.seen → IsFull old new
filled old new number begins many same = record {
  number = number;
  begins = begins;
  many = many;
  calls_are = ap (λ n. made_in (own caller_of n new.seen)) number ∙ ap made_in same;
  lost_is = ap (λ n. lost_in (own caller_of n new.seen)) number ∙ ap lost_in same;
  none_between = same;
}

-- where nothing is lost the history ends with none
pub none_counted : {W : Type 0} (table : TableId) (o : Opening) (stream : W → ℕ → ℕ) (s : Whole) (words : Option W) (count : ℕ) (lost : Option ℕ) (seat : Seat (Unit {0}) (View Item)) (items : List Item) → IsCounted table o stream s words count lost seat → seat.me.0.seen ≡ items → is_some lost ≡ false → EndsLost items → ⊥
none_counted table o stream s words count lost seat items c is empty ends = none_lost c.entries lost items (sym c.desk.seen ∙ is) empty ends

-- where nothing is lost the history has as many items as were counted
pub counted_many : {W : Type 0} (table : TableId) (o : Opening) (stream : W → ℕ → ℕ) (s : Whole) (words : Option W) (count : ℕ) (lost : Option ℕ) (seat : Seat (Unit {0}) (View Item)) (items : List Item) → IsCounted table o stream s words count lost seat → seat.me.0.seen ≡ items → is_some lost ≡ false → 2 ^ 64 ≤ count + 2 → 2 ^ 64 ≤ length items + 2
counted_many table o stream s words count None seat items c is empty many = subst (λ (n : ℕ). 2 ^ 64 ≤ n + 2) (c.count_is ∙ ap length (sym c.desk.seen ∙ is)) many
counted_many table o stream s words count (Some caller) seat items c is empty many = absurd (true≢false empty)

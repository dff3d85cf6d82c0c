-- Histories that grow by one item.
use Rattle.std.proofs.Common.{◌≡◌, ℕ, zero, suc, ◌==◌, Bool, true, false, true≢false, List, [], ◌∷◌, ◌++◌, map, length, ◌<◌, Option, Some, None, refl, sym, ap, subst, ◌∙◌, eq-eqb, arith}
use Rattle.std.specs.Prelude.{if◌then◌else◌, is_some, All, slice_index_or}
use Rattle.std.proofs.lemmas.List.{append-nil}
use mathlib.Core.List.{IsPrefix, map-append}
use Rattle.atomic_table.specs.Seated.{TableId}
use Rattle.atomic_table.specs.declared.shared.Seat.{Seat}
use Rattle.joint_history.specs.declared.view.View.{View}
use Rattle.joint_history.specs.Views.{own, own_from}
use Rattle.joint_history.proofs.Beginnings.{own-append}
use Rattle.client_request.specs.declared.event.Event.{Event}
use Rattle.client_request.specs.declared.event.Out.{Out}
use Rattle.client_steps.specs.Whole.{Whole, plain_step}
use Rattle.client_shared.specs.declared.entry.Entry.{Entry}
use Rattle.client_shared.specs.declared.entry.Item.{Item}
use Rattle.client_shared.specs.declared.entry.Item.TheVariants.{Made, Lost}
use Rattle.client_shared.specs.declared.entry.Receipt.{Receipt}
use Rattle.client_shared.specs.History.{Opening, Passed, IsDesk, IsKeeping, StepsTo, Runs, IsLegal, Stands, Puts, IsSubmitted, IsRefused, IsStopped, IsBehind, IsSettled, IsClosed, EndsLost, AreOfCallers, opened, history, caller_of, made_in, lost_in, events_in, calls_of, entry_of, is_of}

-- one entry more
pub runs_on : (n : ℕ) (s : Whole) (f : ℕ → ℕ) (entries : List Entry) (t : Whole) (g : ℕ → ℕ) (e : Entry) (u : Whole) (h : ℕ → ℕ) → e.caller < n → Runs n s f (map Made entries) t g → StepsTo t g e u h
    → Runs n s f (map Made entries ++ Made e ∷ []) u h
runs_on n s f [] t g e u h below r x = (below, u, h, subst (λ (z : Whole × (ℕ → ℕ)). StepsTo z.0 z.1 e u h) (λ i. (sym r.0 i, sym r.1 i)) x, (refl, refl))
runs_on n s f (d ∷ entries) t g e u h below r x = (r.0, r.1, r.2, r.3, runs_on n r.1 r.2 entries t g e u h below r.4 x)

-- a loss behind entries
pub loses : (n : ℕ) (s : Whole) (f : ℕ → ℕ) (entries : List Entry) (t : Whole) (g : ℕ → ℕ) (caller : ℕ) → caller < n → Runs n s f (map Made entries) t g → Runs n s f (map Made entries ++ Lost caller ∷ []) t g
loses n s f [] t g caller below r = (below, refl, r.0, r.1)
loses n s f (d ∷ entries) t g caller below r = (r.0, r.1, r.2, r.3, loses n r.1 r.2 entries t g caller below r.4)

-- the callers of a legal history
below_all : (n : ℕ) (s : Whole) (f : ℕ → ℕ) (items : List Item) (t : Whole) (g : ℕ → ℕ) → Runs n s f items t g → AreOfCallers n items
below_all n s f [] t g r k d lt = absurd (omega (arith, lt))
below_all n s f (Made e ∷ items) t g r zero d lt = r.0
below_all n s f (Made e ∷ items) t g r (suc k) d lt = below_all n r.1 r.2 items t g r.4 k d (omega arith)
below_all n s f (Lost c ∷ items) t g r zero d lt = r.0
below_all n s f (Lost c ∷ items) t g r (suc k) d lt = absurd (omega (arith, lt, ap length r.1))

pub legal_callers : (o : Opening) (items : List Item) → IsLegal o items → AreOfCallers o.callers items
legal_callers o items legal = below_all o.callers (opened o) o.words items legal.0 legal.1 legal.2

pub history_more : (entries : List Entry) (e : Entry) → history (entries ++ e ∷ []) None ≡ history entries None ++ Made e ∷ []
history_more entries e = map-append Made entries (e ∷ [])

-- what was seen is legal, as the client stands
pub desk_legal : {W : Type 0} (o : Opening) (stream : W → ℕ → ℕ) (client : Whole) (words : Option W) (entries : List Entry) (lost : Option ℕ) → Stands o stream client words entries lost → IsLegal o (history entries lost)
desk_legal o stream client None entries lost s = absurd s
desk_legal o stream client (Some words) entries None s = (client, stream words, s.1)
desk_legal o stream client (Some words) entries (Some caller) s = s

made_in-append : (xs ys : List (ℕ × Item)) → made_in (xs ++ ys) ≡ made_in xs ++ made_in ys
made_in-append [] ys = refl
made_in-append ((k, Made e) ∷ xs) ys = ap (λ w. k ∷ w) (made_in-append xs ys)
made_in-append ((k, Lost c) ∷ xs) ys = made_in-append xs ys

lost_in_end : (xs : List (ℕ × Item)) (k caller : ℕ) → lost_in (xs ++ (k, Lost caller) ∷ []) ≡ true
lost_in_end [] k caller = refl
lost_in_end ((j, Made d) ∷ xs) k caller = lost_in_end xs k caller
lost_in_end ((j, Lost c) ∷ xs) k caller = refl

pub events_in-append : (xs ys : List (ℕ × Item)) → events_in (xs ++ ys) ≡ events_in xs ++ events_in ys
events_in-append [] ys = refl
events_in-append ((k, Made e) ∷ xs) ys = ap (λ w. e.event ∷ w) (events_in-append xs ys)
events_in-append ((k, Lost c) ∷ xs) ys = events_in-append xs ys

own_end : (n : ℕ) (before : List Item) (item : Item) → caller_of item ≡ n → own caller_of n (before ++ item ∷ []) ≡ own caller_of n before ++ (length before, item) ∷ []
own_end n before item is =
    own-append caller_of n before (item ∷ [])
    ∙ ap (λ b. own caller_of n before ++ (if b then ((length before, item) ∷ []) else [])) (eq-eqb (caller_of item) n is)

pub call_added : (n : ℕ) (before : List Item) (e : Entry) → e.caller ≡ n → calls_of n (before ++ Made e ∷ []) ≡ calls_of n before ++ length before ∷ []
call_added n before e is = ap made_in (own_end n before (Made e) is) ∙ made_in-append (own caller_of n before) ((length before, Made e) ∷ [])

pub loss_added : (n : ℕ) (before : List Item) → calls_of n (before ++ Lost n ∷ []) ≡ calls_of n before
loss_added n before = ap made_in (own_end n before (Lost n) refl) ∙ (made_in-append (own caller_of n before) ((length before, Lost n) ∷ []) ∙ append-nil (calls_of n before))

loss_is_there : (n : ℕ) (before : List Item) → lost_in (own caller_of n (before ++ Lost n ∷ [])) ≡ true
loss_is_there n before = ap lost_in (own_end n before (Lost n) refl) ∙ lost_in_end (own caller_of n before) (length before) n

-- the events of a caller, with one entry more and with a loss
pub event_added : (n : ℕ) (before : List Item) (e : Entry) → e.caller ≡ n → events_in (own caller_of n (before ++ Made e ∷ [])) ≡ events_in (own caller_of n before) ++ e.event ∷ []
event_added n before e is = ap events_in (own_end n before (Made e) is) ∙ events_in-append (own caller_of n before) ((length before, Made e) ∷ [])

pub no_event_added : (n : ℕ) (before : List Item) → events_in (own caller_of n (before ++ Lost n ∷ [])) ≡ events_in (own caller_of n before)
no_event_added n before = ap events_in (own_end n before (Lost n) refl) ∙ (events_in-append (own caller_of n before) ((length before, Lost n) ∷ []) ∙ append-nil (events_in (own caller_of n before)))

-- a history without items is legal
pub fresh_legal : (o : Opening) (items : List Item) → items ≡ [] → IsLegal o items
fresh_legal o items none = subst (IsLegal o) (sym none) (opened o, o.words, (refl, refl))

-- a step is one whoever made the call
pub for_caller : (n : ℕ) (event : Event) (words : List ℕ) (outs : List Out) (s : Whole) (f : ℕ → ℕ) (t : Whole) (g : ℕ → ℕ) → StepsTo s f (entry_of 0 event words outs) t g → StepsTo s f (entry_of n event words outs) t g
for_caller n event words outs s f t g x = record { row = x.row; drawn = x.drawn; timeout = x.timeout; lives = x.lives }

module _ {W : Type 0} (o : Opening) (stream : W → ℕ → ℕ) where
  pub stands_on : (s : Whole) (words : W) (entries : List Entry) (e : Entry) (t : Whole) (left : W) → e.caller < o.callers → Stands o stream s (Some words) entries None → StepsTo s (stream words) e t (stream left)
      → Stands o stream t (Some left) (entries ++ e ∷ []) None
  stands_on s words entries e t left below stands x =
      (x.lives, subst (λ (items : List Item). Runs o.callers (opened o) o.words items t (stream left)) (sym (map-append Made entries (e ∷ []))) (runs_on o.callers (opened o) o.words entries s (stream words) e t (stream left) below stands.1 x))

  pub next_legal : (s : Whole) (words : W) (entries : List Entry) (e : Entry) (t : Whole) (left : W) → e.caller < o.callers → Stands o stream s (Some words) entries None → StepsTo s (stream words) e t (stream left)
      → IsLegal o (history entries None ++ Made e ∷ [])
  next_legal s words entries e t left below stands x = (t, stream left, runs_on o.callers (opened o) o.words entries s (stream words) e t (stream left) below stands.1 x)

  pub loss_legal : (s : Whole) (words : W) (entries : List Entry) (caller : ℕ) → caller < o.callers → Stands o stream s (Some words) entries None → IsLegal o (history entries None ++ Lost caller ∷ [])
  loss_legal s words entries caller below stands = (s, stream words, loses o.callers (opened o) o.words entries s (stream words) caller below stands.1)

  -- what is known of a call for which there is no number
  pub stopped : (s : Whole) (words : W) (entries : List Entry) (event : Event) (old new : Passed) → Stands o stream s (Some words) entries None → Puts old (history entries None) (Lost old.number) new → plain_step (stream words) event s ≡ None
      → IsStopped o new event
  stopped s words entries event old new stands p stops = record {
    before = entries;
    seen = p.seen ∙ ap (λ (n : ℕ). map Made entries ++ Lost n ∷ []) (sym p.number);
    stops = record { client = s; words = stream words; runs = stands.1; stops = stops };
  }

-- what a call that is Ok leaves
pub submitted : (old new : Passed) (before : List Entry) (event : Event) (words : List ℕ) (receipt : Receipt) → Puts old (map Made before) (Made (entry_of old.number event words receipt.outs)) new → receipt.number ≡ length (map Made before) → receipt.event ≡ event → IsSubmitted old new event receipt
submitted old new before event words receipt p place is = record {
  number = p.number;
  before = before;
  words = words;
  begins = p.begins;
  seen = p.seen;
  place = place;
  event_is = is;
  calls_are =
      ap (λ (q : ℕ × List Item). calls_of q.0 q.1) (λ i. (p.number i, p.seen i))
      ∙ (call_added old.number (map Made before) (entry_of old.number event words receipt.outs) refl
      ∙ (ap (λ xs. xs ++ length (map Made before) ∷ []) (ap made_in p.own_items) ∙ ap (λ n. calls_of old.number old.seen ++ n ∷ []) (sym place)));
  none_between = p.own_items;
}

-- what a call that is refused on its way leaves
pub refused : (old new : Passed) (before : List Entry) → Puts old (map Made before) (Lost old.number) new → IsRefused old new
refused old new before p = record {
  number = p.number;
  before = before;
  begins = p.begins;
  seen = p.seen;
  calls_are = ap (λ (q : ℕ × List Item). calls_of q.0 q.1) (λ i. (p.number i, p.seen i)) ∙ (loss_added old.number (map Made before) ∙ ap made_in p.own_items);
  lost_is = ap (λ (q : ℕ × List Item). lost_in (own caller_of q.0 q.1)) (λ i. (p.number i, p.seen i)) ∙ loss_is_there old.number (map Made before);
  none_between = p.own_items;
}

-- what a call behind a loss leaves
pub behind : (old new : Passed) → new.number ≡ old.number → IsPrefix old.seen new.seen → EndsLost new.seen → own caller_of old.number new.seen ≡ own caller_of old.number old.seen → IsBehind old new
behind old new number begins ends same = record {
  number = number;
  begins = begins;
  ends = ends;
  calls_are = ap (λ n. calls_of n new.seen) number ∙ ap made_in same;
  lost_is = ap (λ n. lost_in (own caller_of n new.seen)) number ∙ ap lost_in same;
  none_between = same;
}

-- what lies under the lock after a loss
pub desk_lost : {W : Type 0} (table : TableId) (o : Opening) (stream : W → ℕ → ℕ) (s t : Whole) (words left : W) (entries : List Entry) (caller : ℕ) (seat : Seat (Unit {0}) (View Item)) → caller < o.callers → IsKeeping table (history entries None ++ Lost caller ∷ []) seat → Stands o stream s (Some words) entries None → IsDesk table o stream t (Some left) entries (Some caller) seat
desk_lost table o stream s t words left entries caller seat below k stands = record { table_is = k.table_is; empty = k.empty; keeps = k.keeps; seen = k.seen; stands = loss_legal o stream s words entries caller below stands }

module _ {A : Type 0} (P : A → Type 0) where
  pub all_more : (xs : List A) (x : A) → All P xs → P x → All P (xs ++ x ∷ [])
  all_more [] x h p zero d lt = p
  all_more [] x h p (suc k) d lt = absurd (omega arith)
  all_more (y ∷ ys) x h p zero d lt = h zero d (omega arith)
  all_more (y ∷ ys) x h p (suc k) d lt = all_more ys x (λ j e l. h (suc j) e (omega arith)) p k d (omega arith)

  pub all_none : (xs : List A) → length xs ≡ 0 → All P xs
  all_none xs none k d lt = absurd (omega (arith, none, lt))

past_made : (n k : ℕ) (e : Entry) (items : List Item) (b : Bool) → (e.caller == n) ≡ b → lost_in (own_from caller_of n k (Made e ∷ items)) ≡ lost_in (own_from caller_of n (suc k) items)
past_made n k e items true is = ap (λ b. lost_in (if b then ((k, Made e) ∷ own_from caller_of n (suc k) items) else own_from caller_of n (suc k) items)) is
past_made n k e items false is = ap (λ b. lost_in (if b then ((k, Made e) ∷ own_from caller_of n (suc k) items) else own_from caller_of n (suc k) items)) is

-- whose the loss is
lost_by : (n k : ℕ) (entries : List Entry) (lost : Option ℕ) → lost_in (own_from caller_of n k (history entries lost)) ≡ is_of n lost
lost_by n k [] None = refl
lost_by n k [] (Some caller) = lost_one n k caller (caller == n) refl
  where
    lost_one : (n k caller : ℕ) (b : Bool) → (caller == n) ≡ b → lost_in (if caller == n then ((k, Lost caller) ∷ []) else []) ≡ (caller == n)
    lost_one n k caller true e = ap (λ b. lost_in (if b then ((k, Lost caller) ∷ []) else [])) e ∙ sym e
    lost_one n k caller false e = ap (λ b. lost_in (if b then ((k, Lost caller) ∷ []) else [])) e ∙ sym e
lost_by n k (e ∷ entries) None = past_made n k e (map Made entries) (e.caller == n) refl ∙ lost_by n (suc k) entries None
lost_by n k (e ∷ entries) (Some caller) = past_made n k e (history entries (Some caller)) (e.caller == n) refl ∙ lost_by n (suc k) entries (Some caller)

pub closed : (entries : List Entry) (lost : Option ℕ) (p : Passed) → IsSettled (history entries lost) p → IsClosed entries lost p
closed entries lost p s = record { settled = s; calls_are = ap made_in s.own_items; lost_is = ap lost_in (sym s.own_items) ∙ lost_by p.number 0 entries lost }

-- the callers of a journal
pub journal_callers : (n : ℕ) (entries : List Entry) (lost : Option ℕ) → AreOfCallers n (history entries lost) → All (λ (e : Entry). e.caller < n) entries
journal_callers n [] lost h k d lt = absurd (omega (arith, lt))
journal_callers n (e ∷ entries) None h zero d lt = h zero (Made e) (omega arith)
journal_callers n (e ∷ entries) None h (suc k) d lt = journal_callers n entries None (λ j x l. h (suc j) x (omega arith)) k d (omega arith)
journal_callers n (e ∷ entries) (Some c) h zero d lt = h zero (Made e) (omega arith)
journal_callers n (e ∷ entries) (Some c) h (suc k) d lt = journal_callers n entries (Some c) (λ j x l. h (suc j) x (omega arith)) k d (omega arith)

pub all_closed : (entries : List Entry) (lost : Option ℕ) (ps : List Passed) → All (IsSettled (history entries lost)) ps → All (IsClosed entries lost) ps
all_closed entries lost ps h k d lt = closed entries lost (slice_index_or ps k d) (h k d lt)

-- a journal without a loss ends with none
pub unlost : (entries before : List Entry) (caller : ℕ) → map Made entries ≡ map Made before ++ Lost caller ∷ [] → ⊥
unlost [] [] caller e = absurd (cc e)
unlost [] (b ∷ before) caller e = absurd (cc e)
unlost (e ∷ entries) [] caller is = absurd (cc is)
unlost (e ∷ entries) (b ∷ before) caller is = unlost entries before caller (cc is)

pub none_lost : (entries : List Entry) (lost : Option ℕ) (items : List Item) → history entries lost ≡ items → is_some lost ≡ false → EndsLost items → ⊥
none_lost entries None items is empty ends = unlost entries ends.0 ends.1 (is ∙ ends.2)
none_lost entries (Some caller) items is empty ends = true≢false empty

-- What lanes that share a client leave in its journal.
use Rattle.std.proofs.Common.{◌≡◌, ◌≢◌, ◌⊎◌, inl, inr, ℕ, zero, suc, ◌+◌, ◌<◌, ◌≤◌, ◌==◌, Bool, true, false, List, [], ◌∷◌, ◌++◌, map, take, drop, length, Option, Some, None, refl, sym, ap, subst, ◌∙◌, arith, append_assoc, length-append, lt_of_not-le, eq-eqb, ne_eqb}
use Rattle.std.specs.Prelude.{All, slice_get, slice_index_or, if◌then◌else◌}
use Rattle.std.specs.Option.{option_map_or}
use Rattle.std.proofs.lemmas.Option.{slice_get_past, slice_get_within, get_or_from_slice_get, slice_get-get_or}
use Rattle.std.proofs.lemmas.List.{append-nil}
use Rattle.std.proofs.Math.Seq.{take-append_seam}
use mathlib.Core.List.{IsPrefix}
use native.Mathlib.Decide.{dec_le}
use Rattle.joint_history.specs.Views.{own, own_from}
use Rattle.joint_history.proofs.Beginnings.{prefix_trans, own-append}
use Rattle.client_request.specs.Words.{listed}
use Rattle.client_request.specs.declared.event.Event.{Event}
use Rattle.client_shared.specs.declared.entry.Entry.{Entry}
use Rattle.client_shared.specs.declared.entry.Item.{Item}
use Rattle.client_shared.specs.declared.entry.Item.TheVariants.{Made, Lost}
use Rattle.client_shared.specs.declared.entry.Receipt.{Receipt}
use Rattle.client_shared.specs.Drawn.{AreDrawn}
use Rattle.client_shared.specs.History.{Opening, Passed, IsLegal, IsClosed, history, caller_of, events_in, numbered, newcomer}
use Rattle.client_shared.specs.History as passes
use Rattle.client_shared.specs.Lanes.{IsLane, IsBegunLane, IsStoppedLane, AreLanes, AreBegunLanes, IsSomeStopped}
use Rattle.client_shared.proofs.Histories.{events_in-append}
use Rattle.client_shared.proofs.LaneSteps.{get_front, get_end}
use Rattle.client_steps.specs.Whole.{plain_trace_with}
use Rattle.dns_script.specs.declared.script.Script.{Script}
use Rattle.proof_client.specs.Ties.{AreHandedIn}
use Rattle.proof_shared.specs.Histories.{LegalHistories, events_of}
use Rattle.dnsq_many.specs.Lanes.{AreMade, MayStop, events_by, lane_at, opening_for}

-- ---- the events of one caller

made_by : (n k : ℕ) (e : Entry) (items : List Item) (rest : List Event) (b : Bool) → (e.caller == n) ≡ b → events_in (own_from caller_of n (suc k) items) ≡ rest
    → events_in (own_from caller_of n k (Made e ∷ items)) ≡ (if e.caller == n then (e.event ∷ rest) else rest)
made_by n k e items rest true is same =
    ap (λ b. events_in (if b then ((k, Made e) ∷ own_from caller_of n (suc k) items) else own_from caller_of n (suc k) items)) is
    ∙ (ap (λ es. e.event ∷ es) same ∙ ap (λ b. if b then (e.event ∷ rest) else rest) (sym is))
made_by n k e items rest false is same =
    ap (λ b. events_in (if b then ((k, Made e) ∷ own_from caller_of n (suc k) items) else own_from caller_of n (suc k) items)) is
    ∙ (same ∙ ap (λ b. if b then (e.event ∷ rest) else rest) (sym is))

lost_by : (n k caller : ℕ) (b : Bool) → (caller == n) ≡ b → events_in (if caller == n then ((k, Lost caller) ∷ []) else []) ≡ []
lost_by n k caller true is = ap (λ b. events_in (if b then ((k, Lost caller) ∷ []) else [])) is
lost_by n k caller false is = ap (λ b. events_in (if b then ((k, Lost caller) ∷ []) else [])) is

own_events : (n k : ℕ) (entries : List Entry) (lost : Option ℕ) → events_in (own_from caller_of n k (history entries lost)) ≡ events_by n entries
own_events n k [] None = refl
own_events n k [] (Some caller) = lost_by n k caller (caller == n) refl
own_events n k (e ∷ entries) None = made_by n k e (history entries None) (events_by n entries) (e.caller == n) refl (own_events n (suc k) entries None)
own_events n k (e ∷ entries) (Some caller) = made_by n k e (history entries (Some caller)) (events_by n entries) (e.caller == n) refl (own_events n (suc k) entries (Some caller))

-- a caller whose number is given to nobody made no entry
none_by : (n count : ℕ) (entries : List Entry) → count ≤ n → All (λ (e : Entry). e.caller < count) entries → events_by n entries ≡ []
none_by n count [] le below = refl
none_by n count (e ∷ entries) le below =
    let lt : e.caller < count = below zero e (omega arith) in
    ap (λ b. if b then (e.event ∷ events_by n entries) else events_by n entries) (ne_eqb e.caller n (λ is. absurd (omega (arith, is, lt, le))))
    ∙ none_by n count entries le (λ k d l. below (suc k) d (omega arith))

-- ---- lanes by their numbers

pub numbered_length : (n : ℕ) → length (numbered n) ≡ n
numbered_length zero = refl
numbered_length (suc n) = omega (arith, length-append (numbered n) (newcomer n ∷ []), numbered_length n)

last_or_before : (n k : ℕ) → k < suc n → Dec (n ≤ k) → (k < n → slice_get (numbered n) k ≡ Some (newcomer k)) → slice_get (numbered n ++ newcomer n ∷ []) k ≡ Some (newcomer k)
last_or_before n k lt (yes le) before =
    let last : k ≡ n = omega (arith, lt, le) in
    ap (λ (i : ℕ). slice_get (numbered n ++ newcomer n ∷ []) i) (last ∙ sym (numbered_length n)) ∙ (get_end (numbered n) (newcomer n) ∙ ap (λ (i : ℕ). Some (newcomer i)) (sym last))
last_or_before n k lt (no more) before = get_front (numbered n) (newcomer n ∷ []) k (newcomer k) (before (lt_of_not-le more))

numbered_at : (n k : ℕ) → k < n → slice_get (numbered n) k ≡ Some (newcomer k)
numbered_at zero k lt = absurd (omega (arith, lt))
numbered_at (suc n) k lt = last_or_before n k lt (dec_le n k) (numbered_at n k)

-- a lane and its pass, before and after
record Lane (P : Passed → Passed → List Event → Type 0) (ps qs : List Passed) (k : ℕ) (events : List Event) : Type 0 where
  old : Passed
  new : Passed
  old_at : slice_get ps k ≡ Some old
  new_at : slice_get qs k ≡ Some new
  holds : P old new events

abbrev IsWhole : Passed → Passed → List Event → Type 0
IsWhole p q events = (mine : List Receipt) × IsLane p q events mine

lane_of : (ps qs : List Passed) (lanes : List (List Event)) (receipts : List Receipt) (k : ℕ) (events : List Event) → AreLanes ps qs lanes receipts → slice_get lanes k ≡ Some events → Lane IsWhole ps qs k events
lane_of [] [] [] receipts k events a at = absurd (cc at)
lane_of [] [] (l ∷ lanes) receipts k events a at = absurd a
lane_of [] (q ∷ qs) lanes receipts k events a at = absurd a
lane_of (p ∷ ps) [] lanes receipts k events a at = absurd a
lane_of (p ∷ ps) (q ∷ qs) [] receipts k events a at = absurd a
lane_of (p ∷ ps) (q ∷ qs) (l ∷ lanes) receipts zero events a at =
    let same : l ≡ events = cc at in
    record { old = p; new = q; old_at = refl; new_at = refl; holds = (a.0, subst (λ (es : List Event). IsLane p q es a.0) same a.3) }
lane_of (p ∷ ps) (q ∷ qs) (l ∷ lanes) receipts (suc k) events a at =
    let rest = lane_of ps qs lanes a.1 k events a.4 at in
    record { old = rest.old; new = rest.new; old_at = rest.old_at; new_at = rest.new_at; holds = rest.holds }

begun_at : (ps qs : List Passed) (lanes : List (List Event)) (k : ℕ) (events : List Event) → AreBegunLanes ps qs lanes → slice_get lanes k ≡ Some events → Lane IsBegunLane ps qs k events
begun_at [] [] [] k events a at = absurd (cc at)
begun_at [] [] (l ∷ lanes) k events a at = absurd a
begun_at [] (q ∷ qs) lanes k events a at = absurd a
begun_at (p ∷ ps) [] lanes k events a at = absurd a
begun_at (p ∷ ps) (q ∷ qs) [] k events a at = absurd a
begun_at (p ∷ ps) (q ∷ qs) (l ∷ lanes) zero events a at = record { old = p; new = q; old_at = refl; new_at = refl; holds = subst (IsBegunLane p q) (cc at) a.0 }
begun_at (p ∷ ps) (q ∷ qs) (l ∷ lanes) (suc k) events a at =
    let rest = begun_at ps qs lanes k events a.1 at in
    record { old = rest.old; new = rest.new; old_at = rest.old_at; new_at = rest.new_at; holds = rest.holds }

-- the lane that stopped
record Stopped (o : Opening) (ps qs : List Passed) (lanes : List (List Event)) : Type 0 where
  place : ℕ
  events : List Event
  events_at : slice_get lanes place ≡ Some events
  lane : Lane (IsStoppedLane o) ps qs place events

stopped_at : (o : Opening) (ps qs : List Passed) (lanes : List (List Event)) → IsSomeStopped o ps qs lanes → Stopped o ps qs lanes
stopped_at o [] qs lanes s = absurd s
stopped_at o (p ∷ ps) [] lanes s = absurd s
stopped_at o (p ∷ ps) (q ∷ qs) [] s = absurd s
stopped_at o (p ∷ ps) (q ∷ qs) (events ∷ lanes) (inl s) = record { place = zero; events = events; events_at = refl; lane = record { old = p; new = q; old_at = refl; new_at = refl; holds = s } }
stopped_at o (p ∷ ps) (q ∷ qs) (events ∷ lanes) (inr s) =
    let rest = stopped_at o ps qs lanes s in
    record { place = suc rest.place; events = rest.events; events_at = rest.events_at; lane = record { old = rest.lane.old; new = rest.lane.new; old_at = rest.lane.old_at; new_at = rest.lane.new_at; holds = rest.lane.holds } }

one_of : {A : Type 0} (o : Option A) (x y : A) → o ≡ Some x → o ≡ Some y → x ≡ y
one_of o x y a b = cc (a, b)

at_all : {A : Type 0} (P : A → Type 0) (xs : List A) (k : ℕ) (x : A) → All P xs → slice_get xs k ≡ Some x → P x
at_all P xs k x all at = subst P (get_or_from_slice_get xs k x x at) (all k x (slice_get_within xs k x at))

taken_begins : (events : List Event) (count : ℕ) → IsPrefix (take count events) events
taken_begins [] zero = ([], refl)
taken_begins [] (suc n) = ([], refl)
taken_begins (e ∷ events) zero = (e ∷ events, refl)
taken_begins (e ∷ events) (suc n) = let rest = taken_begins events n in (rest.0, ap (λ es. e ∷ es) rest.1)

next_begins : (events : List Event) (count : ℕ) (event : Event) → slice_get events count ≡ Some event → IsPrefix (take count events ++ event ∷ []) events
next_begins [] count event at = absurd (cc at)
next_begins (e ∷ events) zero event at = (events, ap (λ x. x ∷ events) (sym (cc at)))
next_begins (e ∷ events) (suc n) event at = let rest = next_begins events n event at in (rest.0, ap (λ es. e ∷ es) rest.1)

module _ (lanes : List (List Event)) (qs : List Passed) (entries : List Entry) (lost : Option ℕ) (closed : All (IsClosed entries lost) qs) (below : All (λ (e : Entry). e.caller < length lanes) entries) where
  abbrev fresh : List Passed
  fresh = numbered (length lanes)

  newcomer_at : (k : ℕ) (events : List Event) (p : Passed) → slice_get lanes k ≡ Some events → slice_get fresh k ≡ Some p → p ≡ newcomer k
  newcomer_at k events p at old = one_of (slice_get fresh k) p (newcomer k) old (numbered_at (length lanes) k (slice_get_within lanes k events at))

  -- the events of a lane's pass are those of its entries in the journal
  pass_events : (k : ℕ) (events sent : List Event) (p q : Passed) (mine : List Receipt) → slice_get lanes k ≡ Some events → slice_get fresh k ≡ Some p → slice_get qs k ≡ Some q → IsLane p q sent mine
      → (q.number ≡ k) × (events_by k entries ≡ sent) × (passes.events_of q ≡ sent)
  pass_events k events sent p q mine at old new lane =
      let first : p ≡ newcomer k = newcomer_at k events p at old in
      let number : q.number ≡ k = lane.number ∙ ap (λ (z : Passed). z.number) first in
      let its : passes.events_of q ≡ sent = lane.its_events ∙ ap (λ (z : Passed). passes.events_of z ++ sent) first in
      let c : IsClosed entries lost q = at_all (IsClosed entries lost) qs k q closed new in
      let there : events_by k entries ≡ sent =
      sym (own_events k 0 entries lost)
      ∙ (ap (λ (n : ℕ). events_in (own caller_of n (history entries lost))) (sym number)
      ∙ (ap events_in c.settled.own_items ∙ its)) in
      (number, there, its)

  at_lane : (n : ℕ) (events : List Event) → slice_get lanes n ≡ Some events → lane_at lanes n ≡ events
  at_lane n events at = ap (λ (o : Option (List Event)). option_map_or (λ (es : List Event). es) o []) at

  past_lanes : (n : ℕ) → length lanes ≤ n → lane_at lanes n ≡ []
  past_lanes n le = ap (λ (o : Option (List Event)). option_map_or (λ (es : List Event). es) o []) (slice_get_past lanes n le)

  -- each lane's events, each once and in order, and nothing else
  all_lanes : (receipts : List Receipt) → AreLanes fresh qs lanes receipts → (n : ℕ) → events_by n entries ≡ lane_at lanes n
  all_lanes receipts made n = by_number (dec_le (length lanes) n)
    where
      by_number : Dec (length lanes ≤ n) → events_by n entries ≡ lane_at lanes n
      by_number (yes le) = none_by n (length lanes) entries le below ∙ sym (past_lanes n le)
      by_number (no more) =
          let events : List Event = slice_index_or lanes n [] in
          let at : slice_get lanes n ≡ Some events = slice_get-get_or lanes n [] (lt_of_not-le more) in
          let l = lane_of fresh qs lanes receipts n events made at in
          (pass_events n events events l.old l.new l.holds.0 at l.old_at l.new_at l.holds.1).1 ∙ sym (at_lane n events at)

  -- first events of each lane, and nothing else
  begun_lanes : AreBegunLanes fresh qs lanes → (n : ℕ) → IsPrefix (events_by n entries) (lane_at lanes n)
  begun_lanes begun n = by_number (dec_le (length lanes) n)
    where
      by_number : Dec (length lanes ≤ n) → IsPrefix (events_by n entries) (lane_at lanes n)
      by_number (yes le) = ([], append-nil (events_by n entries) ∙ (none_by n (length lanes) entries le below ∙ sym (past_lanes n le)))
      by_number (no more) =
          let events : List Event = slice_index_or lanes n [] in
          let at : slice_get lanes n ≡ Some events = slice_get-get_or lanes n [] (lt_of_not-le more) in
          let l = begun_at fresh qs lanes n events begun at in
          let b = l.holds in
          let there = (pass_events n events (take b.count events) l.old l.new b.receipts at l.old_at l.new_at b.lane).1 in
          subst (λ (z : List Event × List Event). IsPrefix z.0 z.1) (λ i. (sym there i, sym (at_lane n events at) i)) (taken_begins events b.count)

  -- what a pass has seen has no more events of a caller than the journal
  fewer : (before : List Entry) (caller n : ℕ) → IsPrefix (history before (Some caller)) (history entries lost) → IsPrefix (events_by n before) (events_by n entries)
  fewer before caller n p =
      let seen : List Item = history before (Some caller) in
      let more : List Event = events_in (own_from caller_of n (length seen) p.0) in (
        more,
        ap (λ es. es ++ more) (sym (own_events n 0 before (Some caller)))
            ∙ (sym (events_in-append (own caller_of n seen) (own_from caller_of n (length seen) p.0))
            ∙ (ap events_in (sym (own-append caller_of n seen p.0))
            ∙ (ap (λ (items : List Item). events_in (own caller_of n items)) p.1 ∙ own_events n 0 entries lost))),
      )

  may_stop : (o : Opening) (laws : LegalHistories) (script : Script) → o ≡ opening_for script → script.lanes ≡ lanes → AreBegunLanes fresh qs lanes → IsSomeStopped o fresh qs lanes → MayStop script
  may_stop o laws script is same begun some_one =
      let s = stopped_at o fresh qs lanes some_one in
      let k = s.place in
      let q = s.lane.new in
      let st = s.lane.holds in
      let x = st.stopped in
      let mine = pass_events k s.events (take st.count s.events) s.lane.old q st.receipts s.events_at s.lane.old_at s.lane.new_at st.lane in
      let c : IsClosed entries lost q = at_all (IsClosed entries lost) qs k q closed s.lane.new_at in
      let before : List Entry = x.before in
      let began : IsPrefix (history before (Some q.number)) (history entries lost) = subst (λ (items : List Item). IsPrefix items (history entries lost)) x.seen c.settled.begins in
      let own_before : events_by k before ≡ take st.count s.events =
      sym (own_events k 0 before (Some q.number))
      ∙ (ap (λ (z : ℕ × List Item). events_in (own caller_of z.0 z.1)) (λ i. (sym mine.0 i, sym x.seen i)) ∙ mine.2) in
      let lane_is : lane_at script.lanes k ≡ s.events = ap (λ (ls : List (List Event)). lane_at ls k) same ∙ at_lane k s.events s.events_at in
      let none = laws.stops o before st.event x.stops in
      record {
        entries = before;
        caller = k;
        event = st.event;
        lanes = λ n. prefix_trans (events_by n before) (events_by n entries) (lane_at script.lanes n) (fewer before q.number n began) (subst (λ (ls : List (List Event)). IsPrefix (events_by n entries) (lane_at ls n)) (sym same) (begun_lanes begun n));
        next = subst (λ (z : List Event × List Event). IsPrefix (z.0 ++ st.event ∷ []) z.1) (λ i. (sym own_before i, sym lane_is i)) (next_begins s.events st.count st.event st.next);
        stops = subst (λ (p : Opening). plain_trace_with p.transports p.redundant p.cache p.conf p.words (events_of before ++ st.event ∷ []) ≡ None) is none;
      }

  are_made : (o : Opening) (laws : LegalHistories) (script : Script) (receipts : List Receipt) (left : ℕ → ℕ) → o ≡ opening_for script → script.lanes ≡ lanes → AreLanes fresh qs lanes receipts → IsLegal o (history entries lost)
      → AreHandedIn script.cache (listed script.words) (events_of entries) → AreDrawn o.words entries lost left → AreMade script entries
  are_made o laws script receipts left is same made legal handed drawn =
      let p : Opening = opening_for script in
      let at_script : IsLegal p (history entries lost) = subst (λ (z : Opening). IsLegal z (history entries lost)) is legal in
      record {
        lanes = λ n. all_lanes receipts made n ∙ ap (λ (ls : List (List Event)). lane_at ls n) (sym same);
        plain = laws.plain p entries lost at_script;
        right = laws.right p entries lost at_script handed;
        timely = laws.timely p entries lost at_script handed;
        hits = laws.hits p entries lost at_script handed;
        stale = laws.stale p entries lost at_script handed;
        words = λ k lt. drawn.first k lt ∙ ap (λ (z : Opening). z.words k) is;
      }

-- what a vector has once its slice was written to
written_back : (new items : List Passed) (n : ℕ) → n ≡ length new → take n (new ++ drop (length new) items) ≡ new
written_back new items n is = ap (λ (k : ℕ). take k (new ++ drop (length new) items)) is ∙ take-append_seam new (drop (length new) items)

-- Lanes of a script were run on passes that had seen nothing, and then the client was closed with them.
pub record IsRun (o : Opening) (script : Script) (lanes : List (List Event)) (ps qs : List Passed) (count : ℕ) (entries : List Entry) (lost : Option ℕ) : Type 0 where
  pub opening : o ≡ opening_for script
  pub lanes_are : lanes ≡ script.lanes
  pub passes_are : ps ≡ numbered (length script.lanes)
  pub count_is : count ≡ length script.lanes
  pub closed : All (IsClosed entries lost) qs
  pub below : All (λ (e : Entry). e.caller < count) entries

-- by what each call tells: lanes and passes as slices, how many there are, and the passes as the vector has them
pub run_of : (o : Opening) (script : Script) (lanes given : List (List Event)) (ps made qs : List Passed) (count n m len callers : ℕ) (entries : List Entry) (lost : Option ℕ)
    → o ≡ opening_for script → lanes ≡ given → given ≡ script.lanes → length lanes ≡ m → n ≡ m → count ≡ n → ps ≡ made → made ≡ numbered count → length qs ≡ length ps → length ps ≡ len
    → All (IsClosed entries lost) (take len (qs ++ drop (length qs) made)) → callers ≡ count → All (λ (e : Entry). e.caller < callers) entries → IsRun o script lanes ps qs count entries lost
run_of o script lanes given ps made qs count n m len callers entries lost opening value kept long by_len counted lent numbers long_new long_old closed shared below =
    let lanes_are : lanes ≡ script.lanes = value ∙ kept in
    let count_is : count ≡ length script.lanes = counted ∙ (by_len ∙ (sym long ∙ ap length lanes_are)) in
    record {
      opening = opening;
      lanes_are = lanes_are;
      passes_are = lent ∙ (numbers ∙ ap numbered count_is);
      count_is = count_is;
      closed = subst (All (IsClosed entries lost)) (written_back qs made len (sym (long_new ∙ long_old))) closed;
      below = subst (λ (k : ℕ). All (λ (e : Entry). e.caller < k) entries) shared below;
    }

below_lanes : (n m : ℕ) (entries : List Entry) → n ≡ m → All (λ (e : Entry). e.caller < n) entries → All (λ (e : Entry). e.caller < m) entries
below_lanes n m entries same below = subst (λ (k : ℕ). All (λ (e : Entry). e.caller < k) entries) same below

pub made_of : (o : Opening) (laws : LegalHistories) (script : Script) (lanes : List (List Event)) (ps qs : List Passed) (count : ℕ) (entries : List Entry) (lost : Option ℕ) (receipts : List Receipt) (left : ℕ → ℕ)
    → IsRun o script lanes ps qs count entries lost → AreLanes ps qs lanes receipts → IsLegal o (history entries lost) → AreHandedIn script.cache (listed script.words) (events_of entries) → AreDrawn o.words entries lost left → AreMade script entries
made_of o laws script lanes ps qs count entries lost receipts left run made legal handed drawn =
    let here = subst (λ (z : List Passed × List (List Event)). AreLanes z.0 qs z.1 receipts) (λ i. (run.passes_are i, run.lanes_are i)) made in
    are_made script.lanes qs entries lost run.closed (below_lanes count (length script.lanes) entries run.count_is run.below) o laws script receipts left run.opening refl here legal handed drawn

pub stopped_of : (o : Opening) (laws : LegalHistories) (script : Script) (lanes : List (List Event)) (ps qs : List Passed) (count : ℕ) (entries : List Entry) (lost : Option ℕ)
    → IsRun o script lanes ps qs count entries lost → AreBegunLanes ps qs lanes → IsSomeStopped o ps qs lanes → MayStop script
stopped_of o laws script lanes ps qs count entries lost run begun stops =
    let began = subst (λ (z : List Passed × List (List Event)). AreBegunLanes z.0 qs z.1) (λ i. (run.passes_are i, run.lanes_are i)) begun in
    let stopped = subst (λ (z : List Passed × List (List Event)). IsSomeStopped o z.0 qs z.1) (λ i. (run.passes_are i, run.lanes_are i)) stops in
    may_stop script.lanes qs entries lost run.closed (below_lanes count (length script.lanes) entries run.count_is run.below) o laws script run.opening refl began stopped

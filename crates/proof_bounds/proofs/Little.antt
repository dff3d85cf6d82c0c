-- What is kept of a stream is no whole message.
use Rattle.std.proofs.Common.{◌≡◌, ℕ, zero, suc, ◌+◌, ◌*◌, ◌≤◌, ◌<◌, List, [], ◌∷◌, ◌++◌, length, drop, Option, Some, None, Ordering, Less, Equal, Greater, nat_cmp, cond, Bool, true, false, refl, sym, subst, ap, ◌∙◌, arith, inl, inr}
use Rattle.std.specs.Prelude.{◌⊎◌, ◌==◌, nat_le, if◌then◌else◌}
use Rattle.std.specs.List.{AllByRecursion}
use Rattle.std.specs.Ordering.{match_ordering, is_eq}
use Rattle.std.proofs.lemmas.Bool.Decides.{nat_tests}
use Rattle.std.proofs.lemmas.Cmp.{nat_cmp_total}
use Rattle.number_table.specs.Entries.{puts, frees, entry_at}
use Rattle.client_request.specs.declared.event.Moment.{Moment}
use Rattle.client_request.specs.declared.event.Row.{Row}
use Rattle.client_stream.specs.Frames.{body_size, has_frame}
use Rattle.client_stream.proofs.Frames.{behind, body}
use Rattle.client_steps.specs.Whole.{Whole, started_with}
use Rattle.front_core.specs.Core.{IsCoreStep, core_serves}
use Rattle.front_core.specs.Forwarded.{Forwards, begins, goes_on}
use Rattle.front_peers.specs.Items.{Brought, Streams, at_moment, brings, closes, is_new, is_stream, makes_room, of_datagram, of_frame, of_frames, opens, takes, takes_now}
use Rattle.front_peers.specs.declared.event.FrontEvent.{FrontEvent}
use Rattle.front_peers.specs.declared.event.FrontRow.{FrontRow}
use Rattle.front_peers.specs.declared.event.FrontWhat.{FrontWhat}
use Rattle.front_peers.specs.declared.event.FrontWhat.TheVariants.{Datagram, Accepted, Bytes, Gone, Core}
use Rattle.front_peers.specs.declared.items.Item.{Item}
use Rattle.front_peers.specs.declared.items.Item.TheVariants.{Drops}
use Rattle.front_peers.specs.declared.peers.Stream.{Stream}
use Rattle.front_queries.specs.Refusals.{sorted}
use Rattle.front_queries.specs.declared.sorting.Sorted.{Sorted}
use Rattle.front_queries.specs.declared.sorting.Sorted.TheVariants.{Ignored, Refused, Taken}
use Rattle.front_steps.specs.Steps as steps
use Rattle.front_steps.specs.Steps.{DidItem, Doing, Forwarding, Scene, Serves, Steps, TookIn, is_some_row, scene, with_streams, beginning}
use Rattle.front_steps.specs.declared.putting.Desk.{Desk}
use Rattle.right_trace.specs.Time.{one_if}
use Rattle.proof_bounds.specs.Bounds.{IsOfOctets, StreamsKeepLittle}
use Rattle.proof_bounds.specs.Cuts.{of_octets}
use Rattle.proof_bounds.proofs.Weighing.{again_weighs, free_least, free_weighs, is_other, is_same, put_weighs, weighs}
use Rattle.proof_bounds.proofs.Keeping.{Stays, doing_kept, ticked_kept}
use Rattle.proof_bounds.proofs.Earning.{weighs_stays}
use Rattle.proof_bounds.proofs.Frames.{Ended, ended, enough, last_of, no_frame, one_frame}

abbrev pub Table : Type 0
Table = List (ℕ × Stream)

-- ---- keys in rising order

greater : (k l : ℕ) → nat_cmp k l ≡ Greater → nat_cmp l k ≡ Less
greater k l h = grind (arith, nat_tests)

abbrev Above : ℕ → Table → Type 0
Above k [] = Unit {0}
Above k (e ∷ es) = (nat_cmp k e.0 ≡ Less) × Above k es

abbrev pub Rises : Table → Type 0
Rises [] = Unit {0}
Rises (e ∷ es) = Above e.0 es × Rises es

above_more : (k l : ℕ) (es : Table) → nat_cmp k l ≡ Less → Above l es → Above k es
above_more k l [] less all = tt
above_more k l (e ∷ es) less all = (nat_cmp_total.trans k l e.0 less all.0, above_more k l es less all.1)

above_put : (l k : ℕ) (v : Stream) (es : Table) → nat_cmp l k ≡ Less → Above l es → Above l (puts k v es)
above_put l k v [] less all = (less, tt)
above_put l k v (e ∷ es) less all = go (nat_cmp k e.0) (above_put l k v es less all.1)
  where
    go : (r : Ordering) → Above l (puts k v es) → Above l (match_ordering r ((k, v) ∷ e ∷ es) ((e.0, v) ∷ es) (e ∷ puts k v es))
    go Less ih = (less, all)
    go Equal ih = all
    go Greater ih = (all.0, ih)

above_free : (l k : ℕ) (es : Table) → Above l es → Above l (frees k es)
above_free l k [] all = tt
above_free l k (e ∷ es) all = go (is_eq (nat_cmp k e.0)) (above_free l k es all.1)
  where
    go : (b : Bool) → Above l (frees k es) → Above l (cond b es (e ∷ frees k es))
    go true ih = all.1
    go false ih = (all.0, ih)

put_rises : (k : ℕ) (v : Stream) (es : Table) → Rises es → Rises (puts k v es)
put_rises k v [] rises = (tt, tt)
put_rises k v (e ∷ es) rises = go (nat_cmp k e.0) refl (put_rises k v es rises.1)
  where
    go : (r : Ordering) → nat_cmp k e.0 ≡ r → Rises (puts k v es) → Rises (match_ordering r ((k, v) ∷ e ∷ es) ((e.0, v) ∷ es) (e ∷ puts k v es))
    go Less is ih = ((is, above_more k e.0 es is rises.0), rises)
    go Equal is ih = rises
    go Greater is ih = (above_put e.0 k v es (greater k e.0 is) rises.0, ih)

freed_rises : (k : ℕ) (es : Table) → Rises es → Rises (frees k es)
freed_rises k [] rises = tt
freed_rises k (e ∷ es) rises = go (is_eq (nat_cmp k e.0)) (freed_rises k es rises.1)
  where
    go : (b : Bool) → Rises (frees k es) → Rises (cond b es (e ∷ frees k es))
    go true ih = rises.1
    go false ih = (above_free e.0 k es rises.0, ih)

-- entries with this key
abbrev pub of_key : (q : ℕ) → ℕ × Stream → ℕ
of_key q e = one_if (e.0 == q)

less_apart : (j k : ℕ) → nat_cmp j k ≡ Less → j ≡ k → ⊥
less_apart j k is same = (let lt : j < k = grind (arith, nat_tests) in omega arith)

other_key : (q k : ℕ) → nat_cmp q k ≡ Less → one_if (k == q) ≡ 0
other_key q k is = ap one_if (is_other k q (λ same. less_apart q k is (sym same)))

other_below : (q k : ℕ) → nat_cmp q k ≡ Greater → one_if (k == q) ≡ 0
other_below q k is = ap one_if (is_other k q (λ same. less_apart k q (greater q k is) same))

pub same_key : (q k : ℕ) → nat_cmp q k ≡ Equal → q ≡ k
same_key q k is = grind (arith, nat_tests)

none_above : (q : ℕ) (es : Table) → Above q es → weighs (of_key q) es ≡ 0
none_above q [] all = refl
none_above q (e ∷ es) all = let first = other_key q e.0 all.0 in let rest = none_above q es all.1 in omega arith

pub freed_apart : (q : ℕ) (es : Table) → Rises es → weighs (of_key q) (frees q es) ≡ 0
freed_apart q [] rises = refl
freed_apart q (e ∷ es) rises = go (nat_cmp q e.0) refl (freed_apart q es rises.1)
  where
    go : (r : Ordering) → nat_cmp q e.0 ≡ r → weighs (of_key q) (frees q es) ≡ 0 → weighs (of_key q) (cond (is_eq r) es (e ∷ frees q es)) ≡ 0
    go Less is ih = let first = other_key q e.0 is in omega arith
    go Equal is ih = none_above q es (subst (λ (n : ℕ). Above n es) (sym (same_key q e.0 is)) rises.0)
    go Greater is ih = let first = other_below q e.0 is in omega arith

-- ---- what streams keep

-- a whole message
abbrev pub whole_of : ℕ × Stream → ℕ
whole_of e = one_if (has_frame (e.1).framer)

-- one of another peer than this
abbrev whole_but : (q : ℕ) → ℕ × Stream → ℕ
whole_but q e = if e.0 == q then 0 else whole_of e

-- what is no octet
abbrev odd : List ℕ → ℕ
odd [] = 0
odd (x ∷ xs) = one_if (nat_le 256 x) + odd xs

abbrev odd_of : ℕ × Stream → ℕ
odd_of e = odd (e.1).framer

odd_more : (xs ys : List ℕ) → odd (xs ++ ys) ≡ odd xs + odd ys
odd_more [] ys = omega arith
odd_more (x ∷ xs) ys = let rest = odd_more xs ys in omega arith

odd_drop : (n : ℕ) (xs : List ℕ) → odd (drop n xs) ≤ odd xs
odd_drop zero xs = omega arith
odd_drop (suc n) [] = omega arith
odd_drop (suc n) (x ∷ xs) = let rest = odd_drop n xs in omega arith

none_odd : (xs : List ℕ) → AllByRecursion (λ x. x < 256) xs → odd xs ≡ 0
none_odd [] all = refl
none_odd (x ∷ xs) all =
    let rest = none_odd xs all.1 in
    let one : one_if (nat_le 256 x) ≡ 0 = (let lt : x < 256 = all.0 in grind (arith, nat_tests)) in
    omega arith

odd_left : (n peer : ℕ) (xs : List ℕ) → odd (of_frames n peer xs).1 ≤ odd xs
odd_left zero peer xs = omega arith
odd_left (suc n) peer xs = go (has_frame xs) refl (odd_left n peer (behind xs))
  where
    less : odd (behind xs) ≤ odd xs
    less = odd_drop (2 + body_size xs) xs

    by : (is : Sorted) (later : Brought) → odd later.1 ≤ odd (behind xs) → odd (of_frame peer is (behind xs) later).1 ≤ odd xs
    by Ignored later ih = less
    by (Refused octets) later ih = let l = less in omega arith
    by (Taken query) later ih = let l = less in omega arith

    go : (b : Bool) → has_frame xs ≡ b → odd (of_frames n peer (behind xs)).1 ≤ odd (behind xs) → odd (of_frames (suc n) peer xs).1 ≤ odd xs
    go false h ih = subst (λ (b : Brought). odd b.1 ≤ odd xs) (sym (no_frame (suc n) peer xs h)) (omega arith)
    go true h ih = subst (λ (b : Brought). odd b.1 ≤ odd xs) (sym (one_frame n peer xs h)) (by (sorted (body xs)) (of_frames n peer (behind xs)) ih)

but_least : (q : ℕ) (es : Table) → weighs (whole_but q) es ≤ weighs whole_of es
but_least q [] = omega arith
but_least q (e ∷ es) = go (e.0 == q) (but_least q es)
  where
    go : (b : Bool) → weighs (whole_but q) es ≤ weighs whole_of es → (if b then 0 else whole_of e) + weighs (whole_but q) es ≤ whole_of e + weighs whole_of es
    go true ih = omega arith
    go false ih = omega arith

most_one : (b : Bool) → one_if b ≤ 1
most_one true = omega arith
most_one false = omega arith

-- without entries of a key, nothing else is left
but_most : (q : ℕ) (es : Table) → weighs whole_of es ≤ weighs (whole_but q) es + weighs (of_key q) es
but_most q [] = omega arith
but_most q (e ∷ es) = go (e.0 == q) (but_most q es)
  where
    go : (b : Bool) → weighs whole_of es ≤ weighs (whole_but q) es + weighs (of_key q) es → whole_of e + weighs whole_of es ≤ (if b then 0 else whole_of e) + weighs (whole_but q) es + (one_if b + weighs (of_key q) es)
    go true ih = let one = most_one (has_frame (e.1).framer) in omega arith
    go false ih = omega arith

-- Streams in order of which none keeps a whole message, but one perhaps.
abbrev NoneWholeBut : ℕ → Streams → Type 0
NoneWholeBut q s = Rises s.streams × (weighs (whole_but q) s.streams ≤ 0) × (weighs odd_of s.streams ≤ 0)

abbrev pub NoneWhole : Streams → Type 0
NoneWhole s = Rises s.streams × (weighs whole_of s.streams ≤ 0) × (weighs odd_of s.streams ≤ 0)

rises_stay : Stays (λ (s : Streams). Rises s.streams)
rises_stay = record {
  answered = λ k t s is rises. put_rises k (record { framer = t.framer; heard = s.moment }) (frees k s.streams) (freed_rises k s.streams rises);
  closed = λ k s rises. freed_rises k s.streams rises;
}

all_stay : (f : ℕ × Stream → ℕ) → ((k : ℕ) (t : Stream) (h : ℕ) → f (k, record { framer = t.framer; heard = h }) ≡ f (k, t)) → Stays (λ (s : Streams). Rises s.streams × (weighs f s.streams ≤ 0) × (weighs odd_of s.streams ≤ 0))
all_stay f steady =
    let ours = weighs_stays f steady 0 in
    let odds = weighs_stays odd_of (λ k t h. refl) 0 in
    record {
      answered = λ k t s is p. (rises_stay.answered k t s is p.0, ours.answered k t s is p.1, odds.answered k t s is p.2);
      closed = λ k s p. (rises_stay.closed k s p.0, ours.closed k s p.1, odds.closed k s p.2);
    }

-- ---- as an event is taken in

-- none is whole, or one, which is dropped last
abbrev Taken_so : List Item → Streams → Type 0
Taken_so items s = NoneWhole s ⊎ ((q : ℕ) × (last_of items ≡ Some (Drops q)) × NoneWholeBut q s)

module _ (s : Streams) (none : NoneWhole s) where
  one_of : (b : Bool) (items : List Item) → Taken_so (if◌then◌else◌ {A = List Item × Streams} b ([], s) (items, s)).0 (if◌then◌else◌ {A = List Item × Streams} b ([], s) (items, s)).1
  one_of true items = inl none
  one_of false items = inl none

  opened : (peer : ℕ) → NoneWhole (opens peer s)
  opened peer =
      let t : Stream = record { framer = []; heard = s.moment } in
      let whole = put_weighs whole_of peer t s.streams in
      let odds = put_weighs odd_of peer t s.streams in
      let no_whole : whole_of (peer, t) ≡ 0 = refl in
      let no_odd : odd_of (peer, t) ≡ 0 = refl in
      (put_rises peer t s.streams none.0, omega (arith, none.1), omega (arith, none.2))

  accepted : (peer : ℕ) (a b : Bool) → Taken_so (if◌then◌else◌ {A = List Item × Streams} a (if◌then◌else◌ {A = List Item × Streams} b (makes_room s.streams, opens peer s) ([], s)) ([], s)).0
      (if◌then◌else◌ {A = List Item × Streams} a (if◌then◌else◌ {A = List Item × Streams} b (makes_room s.streams, opens peer s) ([], s)) ([], s)).1
  accepted peer true true = inl (opened peer)
  accepted peer true false = inl none
  accepted peer false b = inl none

  module _ (peer : ℕ) (octets : List ℕ) (all : AllByRecursion (λ octet. octet < 256) octets) (t : Stream) (is : entry_at peer s.streams ≡ Some t) where
    abbrev got : Brought
    got = of_frames (length octets) peer (t.framer ++ octets)

    abbrev rest : Stream
    rest = record { framer = got.1; heard = s.moment }

    pub kept_none : has_frame t.framer ≡ false
    kept_none = go (has_frame t.framer) refl
      where
        go : (b : Bool) → has_frame t.framer ≡ b → b ≡ false
        go true at = (
            let freed = free_weighs whole_of peer t s.streams is in
            let one : whole_of (peer, t) ≡ 1 = ap one_if at in
            absurd (omega (arith, none.1)))
        go false at = refl

    ended_so : Ended peer got
    ended_so =
        let so : Ended peer (of_octets peer (t.framer ++ octets)) = ended peer (length (t.framer ++ octets)) (t.framer ++ octets) (omega arith) in
        subst (Ended peer) (sym (enough peer t.framer octets kept_none)) so

    rises : Rises (puts peer rest (frees peer s.streams))
    rises = put_rises peer rest (frees peer s.streams) (freed_rises peer s.streams none.0)

    no_odd : weighs odd_of (puts peer rest (frees peer s.streams)) ≤ 0
    no_odd =
        let less = odd_left (length octets) peer (t.framer ++ octets) in
        let both = odd_more t.framer octets in
        let fine = none_odd octets all in
        let again = again_weighs odd_of peer t rest s.streams is (omega arith) in
        omega (arith, none.2)

    by : Ended peer got → Taken_so (brings peer octets s (Some t)).0 (brings peer octets s (Some t)).1
    by (inl so) =
        let put = put_weighs whole_of peer rest (frees peer s.streams) in
        let least = free_least whole_of peer s.streams in
        let not_whole : whole_of (peer, rest) ≡ 0 = ap one_if so in
        inl (rises, omega (arith, none.1), no_odd)
    by (inr so) =
        let put = put_weighs (whole_but peer) peer rest (frees peer s.streams) in
        let least = free_least (whole_but peer) peer s.streams in
        let but = but_least peer s.streams in
        let itself : (peer == peer) ≡ true = is_same peer peer refl in
        let not_it : whole_but peer (peer, rest) ≡ 0 = ap (λ (b : Bool). if b then 0 else whole_of (peer, rest)) itself in
        inr (peer, so.1, (rises, omega (arith, none.1), no_odd))

  brought : (peer : ℕ) (octets : List ℕ) → AllByRecursion (λ octet. octet < 256) octets → (o : Option Stream) → entry_at peer s.streams ≡ o → Taken_so (brings peer octets s o).0 (brings peer octets s o).1
  brought peer octets all None is = inl none
  brought peer octets all (Some t) is = by peer octets all t is (ended_so peer octets all t is)

  taken : (what : FrontWhat) → IsOfOctets what → Taken_so (takes_now what s).0 (takes_now what s).1
  taken (Datagram peer octets) all = one_of (is_stream peer) (of_datagram peer (sorted octets))
  taken (Accepted peer) all = accepted peer (is_stream peer) (is_new peer s.last)
  taken (Bytes peer octets) all = brought peer octets all (entry_at peer s.streams) refl
  taken (Gone peer) all = let whole = free_least whole_of peer s.streams in let odds = free_least odd_of peer s.streams in inl (freed_rises peer s.streams none.0, omega (arith, none.1), omega (arith, none.2))
  taken (Core what) all = inl none

-- ---- while its things are done

module _ {C : Type 0} (how : Steps C) (serves : Serves C) (moment : Moment) where
  closed_whole : (q : ℕ) (s : Streams) → NoneWholeBut q s → NoneWhole (closes q s)
  closed_whole q s none =
      let apart = freed_apart q s.streams none.0 in
      let most = but_most q (frees q s.streams) in
      let less = free_least (whole_but q) q s.streams in
      let odds = free_least odd_of q s.streams in
      (freed_rises q s.streams none.0, omega (arith, none.1), omega (arith, none.2))

  some_same : (a b : Item) → Some a ≡ Some b → a ≡ b
  some_same a b is = cc

  next_last : (items : List Item) (item : Item) (after : List Item) → (item ∷ after ≡ []) ⊎ (last_of (item ∷ after) ≡ last_of items) → (after ≡ []) ⊎ (last_of after ≡ last_of items)
  next_last items item [] so = inl refl
  next_last items item (next ∷ after) (inl so) = absurd (cc)
  next_last items item (next ∷ after) (inr so) = inr so

  last_stays : (items : List Item) (old : Scene C) (left : List Item) (new : Scene C) (rows : List Row) → Doing how serves moment items old left new rows → (left ≡ []) ⊎ (last_of left ≡ last_of items)
  last_stays items old left new rows steps.begins = inr refl
  last_stays items old left new rows (steps.goes_on item after middle last rows_before now_rows doing did) = next_last items item after (last_stays items old (item ∷ after) middle rows_before doing)

  -- the one thing that is left is the last
  is_last : (q : ℕ) (items : List Item) (item : Item) (after : List Item) → after ≡ [] → last_of items ≡ Some (Drops q) → (item ∷ after ≡ []) ⊎ (last_of (item ∷ after) ≡ last_of items) → item ≡ Drops q
  is_last q items item after at is (inl so) = absurd (cc)
  is_last q items item after at is (inr so) = some_same item (Drops q) (subst (λ (l : List Item). last_of (item ∷ l) ≡ Some (Drops q)) at (so ∙ is))

  dropped : (q : ℕ) (items : List Item) (old : Scene C) (left : List Item) (new : Scene C) (rows : List Row) → NoneWholeBut q old.desk.streams → last_of items ≡ Some (Drops q) → left ≡ [] → Doing how serves moment items old left new rows → NoneWhole new.desk.streams
  dropped q items old left new rows none is at steps.begins = absurd (cc (subst (λ (l : List Item). last_of l ≡ Some (Drops q)) at is))
  dropped q items old left new rows none is at (steps.goes_on item after middle last before now_rows doing did) =
      let stays = all_stay (whole_but q) (λ k t h. refl) in
      let so_far : NoneWholeBut q middle.desk.streams = doing_kept (NoneWholeBut q) stays how serves moment items old (item ∷ after) middle before none doing in
      let same : item ≡ Drops q = is_last q items item after at is (last_stays items old (item ∷ after) middle before doing) in
      let dropping : DidItem how serves moment (Drops q) middle last now_rows = subst (λ (it : Item). DidItem how serves moment it middle last now_rows) same did in
      subst (λ (x : Scene C). NoneWhole x.desk.streams) (sym dropping.0) (closed_whole q middle.desk.streams so_far)

  done : (items : List Item) (old new : Scene C) (rows : List Row) → Taken_so items old.desk.streams → Doing how serves moment items old [] new rows → NoneWhole new.desk.streams
  done items old new rows (inl none) doing = doing_kept NoneWhole (all_stay whole_of (λ k t h. refl)) how serves moment items old [] new rows none doing
  done items old new rows (inr one) doing = dropped one.0 items old [] new rows one.2 one.1 refl doing

row_keeps : {C : Type 0} (how : Steps C) (serves : Serves C) (event : FrontEvent) (within : C) (words : ℕ → ℕ) (desk : Desk) (new : Scene C) → IsOfOctets event.what → NoneWhole desk.streams → TookIn how serves event within words desk new → NoneWhole new.desk.streams
row_keeps how serves event within words desk new all none took =
    let start = scene within words (with_streams (takes event desk.streams).1 desk) [] in
    let so : Taken_so (takes event desk.streams).0 (takes event desk.streams).1 = taken (at_moment event.moment.0 desk.streams) none event.what all in
    let middle = done how serves event.moment (takes event desk.streams).0 start took.middle took.rows so took.doing in
    ticked_kept NoneWhole (all_stay whole_of (λ k t h. refl)) how serves event.moment (is_some_row took.rows) took.middle new took.now middle took.ticked

-- ---- how many octets that is

short_part : (xs : List ℕ) → odd xs ≡ 0 → has_frame xs ≡ false → length xs ≤ 65536
short_part [] none part = omega arith
short_part (a ∷ []) none part = omega arith
short_part (a ∷ b ∷ xs) none part =
    let first : a < 256 = octet a (nat_le 256 a) refl (omega arith) in
    let second : b < 256 = octet b (nat_le 256 b) refl (omega arith) in
    let over : suc (suc (length xs)) < 2 + (256 * a + b) = grind (arith, nat_tests) in
    omega arith
  where
    octet : (x : ℕ) (c : Bool) → nat_le 256 x ≡ c → one_if c ≡ 0 → x < 256
    octet x true is zero_it = absurd (omega arith)
    octet x false is zero_it = grind (arith, nat_tests)

all_short : (es : Table) → weighs whole_of es ≤ 0 → weighs odd_of es ≤ 0 → AllByRecursion (λ (e : ℕ × Stream). length (e.1).framer ≤ 65536) es
all_short [] whole odds = tt
all_short (e ∷ es) whole odds = (short_part (e.1).framer (omega arith) (go (has_frame (e.1).framer) refl), all_short es (omega arith) (omega arith))
  where
    go : (b : Bool) → has_frame (e.1).framer ≡ b → b ≡ false
    go true at = let one : whole_of e ≡ 1 = ap one_if at in absurd (omega arith)
    go false at = refl

split_all : (P : FrontRow → Type 0) (rows : List FrontRow) (row : FrontRow) → AllByRecursion P (rows ++ row ∷ []) → AllByRecursion P rows × P row
split_all P [] row all = (tt, all.0)
split_all P (r ∷ rows) row all = let rest = split_all P rows row all.1 in ((all.0, rest.0), rest.1)

pub all_rows : (first : Forwarding Whole) (words : ℕ → ℕ) (rows : List FrontRow) (trace : List Row) (last : Forwarding Whole) (left : ℕ → ℕ) → NoneWhole first.desk.streams → AllByRecursion (λ (r : FrontRow). IsOfOctets r.event.what) rows
    → Forwards first words rows trace last left → NoneWhole last.desk.streams
all_rows first words rows trace last left none all begins = none
all_rows first words rows trace last left none all (goes_on some whole row before trace_all a b f g forwards made rows_are trace_is) =
    let both = split_all (λ (r : FrontRow). IsOfOctets r.event.what) some row (subst (AllByRecursion (λ (r : FrontRow). IsOfOctets r.event.what)) rows_are all) in
    row_keeps IsCoreStep core_serves row.event a.within f a.desk (scene b.within g b.desk row.outs) both.1 (all_rows first words some before a f none both.0 forwards) made

pub streams_keep_little : StreamsKeepLittle
streams_keep_little given redundant cache conf words rows trace last left forwards all =
    let none : NoneWhole last.desk.streams = all_rows (beginning (started_with given redundant cache conf)) words rows trace last left (tt, omega arith, omega arith) all forwards in
    all_short last.desk.streams.streams none.1 none.2

-- How many streams of DNS clients a forwarder has.
use Rattle.std.proofs.Common.{◌≡◌, ℕ, suc, ◌<◌, ◌≤◌, List, [], ◌∷◌, ◌++◌, length, Option, Some, None, Ordering, Less, Equal, Greater, nat_cmp, cond, Bool, true, false, refl, sym, subst, ap, ◌∙◌, arith, inl, inr}
use Rattle.std.specs.Prelude.{◌==◌, ◌||◌, nat_lt, Result, ◌⊎◌, if◌then◌else◌}
use Rattle.std.specs.Ordering.{match_ordering, is_eq}
use Rattle.std.proofs.lemmas.Bool.Decides.{nat_tests}
use Rattle.number_table.specs.Entries.{puts, frees, entry_at}
use Rattle.client_request.specs.declared.error.Error.{Error}
use Rattle.client_request.specs.declared.event.Event.{Event}
use Rattle.client_request.specs.declared.event.Moment.{Moment}
use Rattle.client_request.specs.declared.event.Out.{Out}
use Rattle.client_request.specs.declared.event.Out.TheVariants.{Reply}
use Rattle.client_request.specs.declared.event.Row.{Row}
use Rattle.client_steps.specs.Whole.{Whole}
use Rattle.front_core.specs.Core.{IsCoreStep, core_serves}
use Rattle.front_core.specs.Forwarded.{Forwards, begins, goes_on}
use Rattle.front_peers.specs.Items.{Streams, at_moment, brings, drops, is_new, is_stream, makes_room, of_datagram, of_frames, opens, quietest, takes, takes_now}
use Rattle.front_peers.specs.declared.event.FrontEvent.{FrontEvent}
use Rattle.front_peers.specs.declared.event.FrontOut.{FrontOut}
use Rattle.front_peers.specs.declared.event.FrontRow.{FrontRow}
use Rattle.front_peers.specs.declared.event.FrontWhat.{FrontWhat}
use Rattle.front_peers.specs.declared.event.FrontWhat.TheVariants.{Datagram, Accepted, Bytes, Gone, Core}
use Rattle.front_peers.specs.declared.items.Asker.{Asker}
use Rattle.front_peers.specs.declared.items.Item.{Item}
use Rattle.front_peers.specs.declared.items.Item.TheVariants.{Asks, Refuses, Drops, Happens}
use Rattle.front_peers.specs.declared.peers.Stream.{Stream}
use Rattle.front_queries.specs.Query.{key_of}
use Rattle.front_queries.specs.Refusals.{sorted}
use Rattle.front_queries.specs.Requests.{request_of}
use Rattle.front_steps.specs.Steps as steps
use Rattle.front_steps.specs.Steps.{DidAskIf, DidItem, DidQuery, DidRow, DidTick, Doing, Forwarding, Leaves, Scene, Serves, Steps, TookIn, is_some_row, scene, with_streams}
use Rattle.front_steps.specs.Waits.{answers_by_stream, answers_each, answers_one, answers_where, has_room, joins_if, may_join, puts_all, puts_out, replies, same_asked}
use Rattle.front_queries.specs.Answers.{answer_to}
use Rattle.front_steps.specs.declared.putting.Desk.{Desk}
use Rattle.front_steps.specs.declared.waits.Waiting.{Waiting}
use Rattle.proof_forwarding.specs.Bounds.{StreamsAreFew}
use Rattle.proof_forwarding.proofs.Tables.{put_here, put_other}
use Rattle.proof_forwarding.proofs.Keeping.{is_same, same_number}
use Rattle.proof_forwarding.proofs.Quiet.{HasKey, none_quiet, quiet_there}

abbrev Table : Type 0
Table = List (ℕ × Stream)

-- ---- how many entries a table has

free_size : (k : ℕ) (t : Stream) (es : Table) → entry_at k es ≡ Some t → suc (length (frees k es)) ≡ length es
free_size k t [] is = absurd (cc)
free_size k t (e ∷ es) is = go (is_eq (nat_cmp k e.0)) is (free_size k t es)
  where
    go : (b : Bool) → cond b (Some e.1) (entry_at k es) ≡ Some t → (entry_at k es ≡ Some t → suc (length (frees k es)) ≡ length es) → suc (length (cond b es (e ∷ frees k es))) ≡ suc (length es)
    go true at ih = refl
    go false at ih = ap suc (ih at)

free_least : (k : ℕ) (es : Table) → length (frees k es) ≤ length es
free_least k [] = omega arith
free_least k (e ∷ es) = go (is_eq (nat_cmp k e.0)) (free_least k es)
  where
    go : (b : Bool) → length (frees k es) ≤ length es → length (cond b es (e ∷ frees k es)) ≤ suc (length es)
    go true ih = omega arith
    go false ih = omega arith

put_most : (k : ℕ) (t : Stream) (es : Table) → length (puts k t es) ≤ suc (length es)
put_most k t [] = omega arith
put_most k t (e ∷ es) = go (nat_cmp k e.0) (put_most k t es)
  where
    go : (r : Ordering) → length (puts k t es) ≤ suc (length es) → length (match_ordering r ((k, t) ∷ e ∷ es) ((e.0, t) ∷ es) (e ∷ puts k t es)) ≤ suc (suc (length es))
    go Less ih = omega arith
    go Equal ih = omega arith
    go Greater ih = omega arith

-- in place of one that is there
again_most : (k : ℕ) (t u : Stream) (es : Table) → entry_at k es ≡ Some t → length (puts k u (frees k es)) ≤ length es
again_most k t u es is = let size = free_size k t es is in let most = put_most k u (frees k es) in omega arith

-- ---- while answers go out

by_stream_few : (asker : Asker) (octets : List ℕ) (s : Streams) (o : Option Stream) → entry_at asker.peer s.streams ≡ o → length (answers_by_stream asker octets s o).1.streams ≤ length s.streams
by_stream_few asker octets s None is = omega arith
by_stream_few asker octets s (Some t) is = again_most asker.peer t (record { framer = t.framer; heard = s.moment }) s.streams is

where_few : (b : Bool) (asker : Asker) (octets : List ℕ) (s : Streams) → length (answers_where b asker octets s).1.streams ≤ length s.streams
where_few false asker octets s = omega arith
where_few true asker octets s = by_stream_few asker octets s (entry_at asker.peer s.streams) refl

each_few : (x : Result (List ℕ) Error) (askers : List Asker) (s : Streams) → length (answers_each x askers s).1.streams ≤ length s.streams
each_few x [] s = omega arith
each_few x (a ∷ askers) s =
    let first = where_few a.by_stream a (answer_to a.query a.by_stream x) s in
    let rest = each_few x askers (answers_one x a s).1 in
    omega arith

replies_few : (k : ℕ) (x : Result (List ℕ) Error) (d : Desk) (o : Option Waiting) → length (replies k x d o).1.streams.streams ≤ length d.streams.streams
replies_few k x d None = omega arith
replies_few k x d (Some v) = each_few x (v.first ∷ v.others) d.streams

puts_few : (outs : List Out) (d : Desk) → length (puts_all outs d).1.streams.streams ≤ length d.streams.streams
puts_few [] d = omega arith
puts_few (Reply k x ∷ outs) d =
    let first = replies_few k x d (entry_at k d.waits.requests) in
    let rest = puts_few outs (puts_out (Reply k x) d).1 in
    omega arith
puts_few (o ∷ outs) d = puts_few outs d

-- ---- while things are done

-- at most 100, or one more that is dropped at once
abbrev Few : List Item → Streams → Type 0
Few left s = (length s.streams ≤ 100) ⊎ ((q : ℕ) × (t : Stream) × (left ≡ Drops q ∷ []) × (length s.streams ≤ 101) × (entry_at q s.streams ≡ Some t))

module _ {C : Type 0} (how : Steps C) (serves : Serves C) (moment : Moment) where
  row_few : (event : Event) (desk : Desk) (within : C) (words : ℕ → ℕ) (outs : List FrontOut) (new : Scene C) (rows : List Row) → DidRow how event desk within words outs new rows → length desk.streams.streams ≤ 100
      → length new.desk.streams.streams ≤ 100
  row_few event desk within words outs new rows did few =
      let least = puts_few did.row.outs desk in
      subst (λ (d : Desk). length d.streams.streams ≤ 100) (sym did.desk_is) (omega arith)

  leaves_few : (done : List FrontOut × Desk) (old new : Scene C) (rows : List Row) → Leaves done old new rows → length done.1.streams.streams ≤ 100 → length new.desk.streams.streams ≤ 100
  leaves_few done old new rows did few = subst (λ (s : Scene C). length s.desk.streams.streams ≤ 100) (sym did.0) few

  joins_few : (may : Bool) (k : ℕ) (asker : Asker) (d : Desk) → length (joins_if may k asker d).1.streams.streams ≡ length d.streams.streams
  joins_few true k asker d = refl
  joins_few false k asker d = refl

  ask_few : (may : Bool) (asker : Asker) (old new : Scene C) (rows : List Row) → length old.desk.streams.streams ≤ 100 → DidAskIf how may moment asker old new rows → length new.desk.streams.streams ≤ 100
  ask_few true asker old new rows few did = row_few _ _ old.within old.words old.outs new rows did few
  ask_few false asker old new rows few did = leaves_few _ old new rows did few

  query_few : (same : Option ℕ) (asker : Asker) (old new : Scene C) (rows : List Row) → length old.desk.streams.streams ≤ 100 → DidQuery how serves same moment asker old new rows → length new.desk.streams.streams ≤ 100
  query_few (Some k) asker old new rows few did =
      let same = joins_few (may_join k asker.by_stream old.desk.waits) k asker old.desk in
      leaves_few (joins_if (may_join k asker.by_stream old.desk.waits) k asker old.desk) old new rows did (omega arith)
  query_few None asker old new rows few did = ask_few (has_room old.desk.waits || serves old.within moment (request_of asker.query)) asker old new rows few did

  item_few : (item : Item) (old new : Scene C) (rows : List Row) → length old.desk.streams.streams ≤ 100 → DidItem how serves moment item old new rows → length new.desk.streams.streams ≤ 100
  item_few (Asks asker) old new rows few did = query_few (same_asked (key_of asker.query) old.desk.waits) asker old new rows few did
  item_few (Happens what) old new rows few did = row_few _ old.desk old.within old.words old.outs new rows did few
  item_few (Refuses peer octets) old new rows few did = leaves_few _ old new rows did few
  item_few (Drops peer) old new rows few did =
      let least = free_least peer old.desk.streams.streams in
      leaves_few _ old new rows did (omega arith)

  dropped_few : (q : ℕ) (t : Stream) (old new : Scene C) (rows : List Row) → length old.desk.streams.streams ≤ 101 → entry_at q old.desk.streams.streams ≡ Some t → DidItem how serves moment (Drops q) old new rows
      → length new.desk.streams.streams ≤ 100
  dropped_few q t old new rows most is did =
      let size = free_size q t old.desk.streams.streams is in
      leaves_few _ old new rows did (omega arith)

  done_few : (item : Item) (left : List Item) (old new : Scene C) (rows : List Row) → Few (item ∷ left) old.desk.streams → DidItem how serves moment item old new rows → length new.desk.streams.streams ≤ 100
  done_few item left old new rows (inl few) did = item_few item old new rows few did
  done_few item left old new rows (inr more) did =
      let same : item ≡ Drops more.0 = cc (more.2) in
      dropped_few more.0 more.1 old new rows more.3 more.4 (subst (λ (it : Item). DidItem how serves moment it old new rows) same did)

  doing_few : (items : List Item) (old : Scene C) (left : List Item) (new : Scene C) (rows : List Row) → Few items old.desk.streams → Doing how serves moment items old left new rows → Few left new.desk.streams
  doing_few items old left new rows few steps.begins = few
  doing_few items old left new rows few (steps.goes_on item after middle last before now_rows doing did) =
      inl (done_few item after middle last now_rows (doing_few items old (item ∷ after) middle before few doing) did)

  all_few : (new : Scene C) → Few [] new.desk.streams → length new.desk.streams.streams ≤ 100
  all_few new (inl few) = few
  all_few new (inr more) = absurd (cc (more.2))

  ticked_few : (some : Bool) (old new : Scene C) (rows : List Row) → length old.desk.streams.streams ≤ 100 → DidTick how some moment old new rows → length new.desk.streams.streams ≤ 100
  ticked_few true old new rows few did = leaves_few _ old new rows did few
  ticked_few false old new rows few did = row_few _ old.desk old.within old.words old.outs new rows did few

-- ---- as an event is taken in

module _ (s : Streams) (few : length s.streams ≤ 100) (peer : ℕ) where
  still_there : (q : ℕ) (t : Stream) → entry_at q s.streams ≡ Some t → HasKey q (opens peer s).streams
  still_there q t is = go (q == peer) refl
    where
      go : (b : Bool) → (q == peer) ≡ b → HasKey q (opens peer s).streams
      go true same = record { stream = record { framer = []; heard = s.moment }; is_there = ap (λ (n : ℕ). entry_at n (opens peer s).streams) (same_number q peer same) ∙ put_here peer (record { framer = []; heard = s.moment }) s.streams }
      go false same = record { stream = t; is_there = put_other q peer (record { framer = []; heard = s.moment }) s.streams (λ at. absurd (cc (is_same q peer at, same))) ∙ is }

  most_open : length (opens peer s).streams ≤ suc (length s.streams)
  most_open = put_most peer (record { framer = []; heard = s.moment }) s.streams

  room_by : (o : Option (ℕ × ℕ)) → quietest None s.streams ≡ o → nat_lt (length s.streams) 100 ≡ false → Few (drops o) (opens peer s)
  room_by None is full = (let none = none_quiet s.streams is in absurd (empty_full (length s.streams) none full))
    where
      empty_full : (n : ℕ) → n ≡ 0 → nat_lt n 100 ≡ false → ⊥
      empty_full n zero_it so = absurd (grind (arith, nat_tests))
  room_by (Some r) is full = by (quiet_there None s.streams r is)
    where
      by : (None ≡ Some r) ⊎ HasKey r.0 s.streams → Few (Drops r.0 ∷ []) (opens peer s)
      by (inl so) = absurd (cc)
      by (inr has) = let there = still_there r.0 has.stream has.is_there in let most = most_open in inr (r.0, there.stream, refl, omega arith, there.is_there)

  room_few : (b : Bool) → nat_lt (length s.streams) 100 ≡ b → Few (if b then [] else drops (quietest None s.streams)) (opens peer s)
  room_few true is = let low = below (length s.streams) is in let most = most_open in inl (omega arith)
    where
      below : (n : ℕ) → nat_lt n 100 ≡ true → n < 100
      below n so = grind (arith, nat_tests)
  room_few false is = room_by (quietest None s.streams) refl is

  accept_few : (a b : Bool) → Few (if◌then◌else◌ {A = List Item × Streams} a (if◌then◌else◌ {A = List Item × Streams} b (makes_room s.streams, opens peer s) ([], s)) ([], s)).0
      (if◌then◌else◌ {A = List Item × Streams} a (if◌then◌else◌ {A = List Item × Streams} b (makes_room s.streams, opens peer s) ([], s)) ([], s)).1
  accept_few true true = room_few (nat_lt (length s.streams) 100) refl
  accept_few true false = inl few
  accept_few false b = inl few

  bytes_few : (octets : List ℕ) (o : Option Stream) → entry_at peer s.streams ≡ o → Few (brings peer octets s o).0 (brings peer octets s o).1
  bytes_few octets None is = inl few
  bytes_few octets (Some t) is =
      let most = again_most peer t (record { framer = (of_frames (length octets) peer (t.framer ++ octets)).1; heard = s.moment }) s.streams is in
      inl (omega arith)

  datagram_few : (b : Bool) (items : List Item) → Few (if◌then◌else◌ {A = List Item × Streams} b ([], s) (items, s)).0 (if◌then◌else◌ {A = List Item × Streams} b ([], s) (items, s)).1
  datagram_few true items = inl few
  datagram_few false items = inl few

taken_few : (s : Streams) → length s.streams ≤ 100 → (what : FrontWhat) → Few (takes_now what s).0 (takes_now what s).1
taken_few s few (Datagram peer octets) = datagram_few s few peer (is_stream peer) (of_datagram peer (sorted octets))
taken_few s few (Accepted peer) = accept_few s few peer (is_stream peer) (is_new peer s.last)
taken_few s few (Bytes peer octets) = bytes_few s few peer octets (entry_at peer s.streams) refl
taken_few s few (Gone peer) = let least = free_least peer s.streams in inl (omega arith)
taken_few s few (Core what) = inl few

row_keeps_few : {C : Type 0} (how : Steps C) (serves : Serves C) (event : FrontEvent) (within : C) (words : ℕ → ℕ) (desk : Desk) (new : Scene C) → length desk.streams.streams ≤ 100 → TookIn how serves event within words desk new
    → length new.desk.streams.streams ≤ 100
row_keeps_few how serves event within words desk new few took =
    let start = scene within words (with_streams (takes event desk.streams).1 desk) [] in
    let taken : Few (takes event desk.streams).0 (takes event desk.streams).1 = taken_few (at_moment event.moment.0 desk.streams) few event.what in
    let done = doing_few how serves event.moment (takes event desk.streams).0 start [] took.middle took.rows taken took.doing in
    ticked_few how serves event.moment (is_some_row took.rows) took.middle new took.now (all_few how serves event.moment took.middle done) took.ticked

all_rows_few : (first : Forwarding Whole) (words : ℕ → ℕ) (rows : List FrontRow) (trace : List Row) (last : Forwarding Whole) (left : ℕ → ℕ) → length first.desk.streams.streams ≤ 100 → Forwards first words rows trace last left
    → length last.desk.streams.streams ≤ 100
all_rows_few first words rows trace last left few begins = few
all_rows_few first words rows trace last left few (goes_on some all row before whole a b f g forwards made rows_are trace_is) =
    row_keeps_few IsCoreStep core_serves row.event a.within f a.desk (scene b.within g b.desk row.outs) (all_rows_few first words some before a f few forwards) made

pub streams_are_few : StreamsAreFew
streams_are_few given redundant cache conf words rows trace last left forwards = all_rows_few _ words rows trace last left (omega arith) forwards

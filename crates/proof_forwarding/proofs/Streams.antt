-- What rows tell of streams is what a forwarder keeps of them.
use Rattle.std.proofs.Common.{◌≡◌, ℕ, zero, suc, List, [], ◌∷◌, ◌++◌, length, Option, Some, None, Bool, true, false, refl, sym, subst, ap, ◌∙◌, arith}
use Rattle.std.specs.Prelude.{◌==◌, ◌&&◌, is_some, option_map, nat_lt, if◌then◌else◌}
use Rattle.std.proofs.lemmas.Bool.Decides.{nat_tests}
use Rattle.number_table.specs.Entries.{entry_at, puts, frees}
use Rattle.client_request.specs.declared.event.What.{What}
use Rattle.client_request.specs.declared.event.What.TheVariants.{Ask}
use Rattle.client_stream.specs.Frames.{first_frame, behind_frame}
use Rattle.front_queries.specs.Refusals.{sorted}
use Rattle.front_queries.specs.declared.sorting.Sorted.{Sorted}
use Rattle.front_queries.specs.declared.sorting.Sorted.TheVariants.{Ignored, Refused, Taken}
use Rattle.front_peers.specs.Items.{Streams, Brought, answers_by, asker, brings, closes, drops, first_then, is_new, is_stream, makes_room, of_datagram, of_frame, of_frames, opens, quietest, takes_now, unless_ask}
use Rattle.front_peers.specs.declared.event.FrontWhat.{FrontWhat}
use Rattle.front_peers.specs.declared.event.FrontWhat.TheVariants.{Datagram, Accepted, Bytes, Gone, Core}
use Rattle.front_peers.specs.declared.items.Item.{Item}
use Rattle.front_peers.specs.declared.items.Item.TheVariants.{Asks, Refuses, Drops, Happens}
use Rattle.front_peers.specs.declared.peers.Stream.{Stream}
use Rattle.front_steps.specs.Waiting.{Waits}
use Rattle.right_trace.specs.Requests.{is_ask}
use Rattle.right_trace.specs.Trace.{History}
use Rattle.proof_forwarding.specs.Heard.{Heard, hears, rest_behind, with_kept}
use Rattle.proof_forwarding.proofs.Tables.{Rises, put_rises, freed_rises, put_here, put_other, free_here, free_other}
use Rattle.proof_forwarding.proofs.Keeping.{Pending, IsWaiting, WaitsKept, StreamsKept, all_changed, is_same, same_number}

abbrev Table : Type 0
Table = List (ℕ × Stream)

-- the octets that are kept of a stream
abbrev framed_at : (peer : ℕ) → Table → Option (List ℕ)
framed_at peer es = option_map (λ (t : Stream). t.framer) (entry_at peer es)

put_seen : (q peer : ℕ) (t : Stream) (es : Table) → framed_at q (puts peer t es) ≡ (if q == peer then Some t.framer else framed_at q es)
put_seen q peer t es = go (q == peer) refl
  where
    go : (b : Bool) → (q == peer) ≡ b → framed_at q (puts peer t es) ≡ (if b then Some t.framer else framed_at q es)
    go true same =
        ap (λ (n : ℕ). framed_at n (puts peer t es)) (same_number q peer same)
        ∙ ap (λ (o : Option Stream). option_map (λ (t : Stream). t.framer) o) (put_here peer t es)
    go false same = ap (λ (o : Option Stream). option_map (λ (t : Stream). t.framer) o) (put_other q peer t es (λ at. absurd (cc (is_same q peer at, same))))

freed_seen : (q peer : ℕ) (es : Table) → Rises es → framed_at q (frees peer es) ≡ (if q == peer then None else framed_at q es)
freed_seen q peer es rises = go (q == peer) refl
  where
    go : (b : Bool) → (q == peer) ≡ b → framed_at q (frees peer es) ≡ (if b then None else framed_at q es)
    go true same =
        ap (λ (n : ℕ). framed_at n (frees peer es)) (same_number q peer same)
        ∙ ap (λ (o : Option Stream). option_map (λ (t : Stream). t.framer) o) (free_here peer es rises)
    go false same = ap (λ (o : Option Stream). option_map (λ (t : Stream). t.framer) o) (free_other q peer es (λ at. absurd (cc (is_same q peer at, same))))

if_same : (b : Bool) (x y z : Option (List ℕ)) → (b ≡ true → x ≡ z) → (if b then x else z) ≡ z
if_same true x y z is = is refl
if_same false x y z is = refl

if_if : (b : Bool) (x y z : Option (List ℕ)) → (if b then x else (if b then y else z)) ≡ (if b then x else z)
if_if true x y z = refl
if_if false x y z = refl

module _ (heard : Heard) (s : Streams) (kept : StreamsKept heard s) where
  -- a stream that is there keeps these octets now
  keeps_seen : (peer : ℕ) (t : Stream) (q : ℕ) → framed_at q (puts peer t (frees peer s.streams)) ≡ (if q == peer then Some t.framer else framed_at q s.streams)
  keeps_seen peer t q =
      put_seen q peer t (frees peer s.streams) ∙ ap (λ (o : Option (List ℕ)). if q == peer then Some t.framer else o) (freed_seen q peer s.streams kept.rises)
      ∙ if_if (q == peer) (Some t.framer) None (framed_at q s.streams)

  pub after_answer : (peer : ℕ) (t : Stream) → entry_at peer s.streams ≡ Some t → StreamsKept heard (answers_by peer s (Some t))
  after_answer peer t entry = record {
    rises = put_rises peer (record { framer = t.framer; heard = s.moment }) (frees peer s.streams) (freed_rises peer s.streams kept.rises);
    kept = λ q. kept.kept q
        ∙ sym (keeps_seen peer (record { framer = t.framer; heard = s.moment }) q
        ∙ if_same (q == peer) (Some t.framer) None (framed_at q s.streams)
        (λ same. sym (ap (λ (n : ℕ). framed_at n s.streams) (same_number q peer same) ∙ ap (λ (o : Option Stream). option_map (λ (t : Stream). t.framer) o) entry)));
    last = kept.last;
    old = kept.old;
  }

  old_but : (peer : ℕ) (o : Option (List ℕ)) (q : ℕ) → (is_some o ≡ true → is_new peer heard.last ≡ false) → is_some (if q == peer then o else heard.kept q) ≡ true → is_new q heard.last ≡ false
  old_but peer o q new is = go (q == peer) refl is
    where
      go : (b : Bool) → (q == peer) ≡ b → is_some (if b then o else heard.kept q) ≡ true → is_new q heard.last ≡ false
      go true same so = subst (λ (n : ℕ). is_new n heard.last ≡ false) (sym (same_number q peer same)) (new so)
      go false same so = kept.old q so

  pub after_close : (peer : ℕ) → StreamsKept (with_kept peer None heard) (closes peer s)
  after_close peer = record {
    rises = freed_rises peer s.streams kept.rises;
    kept = λ q. ap (λ (o : Option (List ℕ)). if q == peer then None else o) (kept.kept q) ∙ sym (freed_seen q peer s.streams kept.rises);
    last = kept.last;
    old = λ q is. old_but peer None q (λ nil. absurd (cc)) is;
  }

  after_bytes : (peer : ℕ) (octets : List ℕ) (o : Option Stream) → entry_at peer s.streams ≡ o → StreamsKept (with_kept peer (rest_behind peer octets (heard.kept peer)) heard) (brings peer octets s o).1
  after_bytes peer octets None entry =
      let none : heard.kept peer ≡ None = kept.kept peer ∙ ap (λ (o : Option Stream). option_map (λ (t : Stream). t.framer) o) entry in
      record {
        rises = kept.rises;
        kept = λ q. ap (λ (o : Option (List ℕ)). if q == peer then rest_behind peer octets o else heard.kept q) none
            ∙ if_same (q == peer) None None (heard.kept q) (λ same. sym (ap heard.kept (same_number q peer same) ∙ none)) ∙ kept.kept q;
        last = kept.last;
        old = λ q is. old_but peer (rest_behind peer octets (heard.kept peer)) q (λ so. absurd (cc (ap (λ (o : Option (List ℕ)). is_some (rest_behind peer octets o)) none, so))) is;
      }
  after_bytes peer octets (Some t) entry =
      let some : heard.kept peer ≡ Some t.framer = kept.kept peer ∙ ap (λ (o : Option Stream). option_map (λ (t : Stream). t.framer) o) entry in
      let left : List ℕ = (of_frames (length octets) peer (t.framer ++ octets)).1 in
      let here : Stream = record { framer = left; heard = s.moment } in
      record {
        rises = put_rises peer here (frees peer s.streams) (freed_rises peer s.streams kept.rises);
        kept = λ q. ap (λ (o : Option (List ℕ)). if q == peer then rest_behind peer octets o else heard.kept q) some
            ∙ ap (λ (o : Option (List ℕ)). if q == peer then Some left else o) (kept.kept q) ∙ sym (keeps_seen peer here q);
        last = kept.last;
        old = λ q is. old_but peer (rest_behind peer octets (heard.kept peer)) q (λ so. kept.old peer (ap is_some some)) is;
      }

  new_over : (q peer : ℕ) (last : Option ℕ) → is_new q last ≡ false → is_new peer last ≡ true → is_new q (Some peer) ≡ false
  new_over q peer None old new = absurd (cc)
  new_over q peer (Some l) old new = grind (arith, nat_tests)

  not_new : (peer : ℕ) → is_new peer (Some peer) ≡ false
  not_new peer = grind (arith, nat_tests)

  after_open : (peer : ℕ) → is_new peer heard.last ≡ true → StreamsKept (with_kept peer (Some []) (record heard { last = Some peer })) (opens peer s)
  after_open peer new = record {
    rises = put_rises peer (record { framer = []; heard = s.moment }) s.streams kept.rises;
    kept = λ q. ap (λ (o : Option (List ℕ)). if q == peer then Some [] else o) (kept.kept q) ∙ sym (put_seen q peer (record { framer = []; heard = s.moment }) s.streams);
    last = refl;
    old = λ q is. go q (q == peer) refl is;
  }
    where
      go : (q : ℕ) (b : Bool) → (q == peer) ≡ b → is_some (if b then Some [] else heard.kept q) ≡ true → is_new q (Some peer) ≡ false
      go q true same so = subst (λ (n : ℕ). is_new n (Some peer) ≡ false) (sym (same_number q peer same)) (not_new peer)
      go q false same so = new_over q peer heard.last (kept.old q so) new

  after_accept : (peer : ℕ) (a b : Bool) → is_new peer heard.last ≡ b
      → StreamsKept (if a && b then with_kept peer (Some []) (record heard { last = Some peer }) else heard) (if◌then◌else◌ {A = List Item × Streams} a (if◌then◌else◌ {A = List Item × Streams} b (makes_room s.streams, opens peer s) ([], s)) ([], s)).1
  after_accept peer true true new = after_open peer new
  after_accept peer true false new = kept
  after_accept peer false b new = kept

  one_of : (b : Bool) (x y : List Item) → (if◌then◌else◌ {A = List Item × Streams} b (x, s) (y, s)).1 ≡ s
  one_of true x y = refl
  one_of false x y = refl

  pub streams_after : (what : FrontWhat) → StreamsKept (hears what heard) (takes_now what s).1
  streams_after (Datagram peer octets) = subst (StreamsKept heard) (sym (one_of (is_stream peer) [] (of_datagram peer (sorted octets)))) kept
  streams_after (Accepted peer) =
      subst (λ (b : Bool). StreamsKept (hears (Accepted peer) heard) (if◌then◌else◌ {A = List Item × Streams} (is_stream peer) (if◌then◌else◌ {A = List Item × Streams} b (makes_room s.streams, opens peer s) ([], s)) ([], s)).1)
      (ap (is_new peer) kept.last)
      (after_accept peer (is_stream peer) (is_new peer heard.last) refl)
  streams_after (Bytes peer octets) = after_bytes peer octets (entry_at peer s.streams) refl
  streams_after (Gone peer) = after_close peer
  streams_after (Core what) = kept

-- ---- the things that an event comes to

-- Of a query by a stream that is open; a stream is dropped last; and nothing is asked of the client within but by queries.
abbrev pub ItemsFit : Heard → List Item → Type 0
ItemsFit heard [] = Unit {0}
ItemsFit heard (Asks asker ∷ left) = (asker.by_stream ≡ true → is_some (heard.kept asker.peer) ≡ true) × ItemsFit heard left
ItemsFit heard (Refuses peer octets ∷ left) = ItemsFit heard left
ItemsFit heard (Drops peer ∷ left) = left ≡ []
ItemsFit heard (Happens what ∷ left) = (is_ask what ≡ false) × ItemsFit heard left

no_ask : (what : What) → is_ask (unless_ask what) ≡ false
no_ask (Ask request) = refl
no_ask _ = refl

datagram_fits : (heard : Heard) (peer : ℕ) (is : Sorted) → ItemsFit heard (of_datagram peer is)
datagram_fits heard peer Ignored = tt
datagram_fits heard peer (Refused octets) = tt
datagram_fits heard peer (Taken query) = ((λ nil. absurd (cc)), tt)

module _ (heard : Heard) (peer : ℕ) (stays : is_some (heard.kept peer) ≡ true) where
  frame_fits : (behind : List ℕ) (later : Brought) (is : Sorted) → ItemsFit heard later.0 → ItemsFit heard (of_frame peer is behind later).0
  frame_fits behind later Ignored fit = refl
  frame_fits behind later (Refused octets) fit = fit
  frame_fits behind later (Taken query) fit = ((λ so. stays), fit)

  frames_fit : (n : ℕ) (kept : List ℕ) → ItemsFit heard (of_frames n peer kept).0
  frames_fit zero kept = tt
  frames_fit (suc n) kept = go (first_frame kept) (frames_fit n (behind_frame kept))
    where
      go : (o : Option (List ℕ)) → ItemsFit heard (of_frames n peer (behind_frame kept)).0 → ItemsFit heard (first_then peer kept (of_frames n peer (behind_frame kept)) o).0
      go None fit = tt
      go (Some frame) fit = frame_fits (behind_frame kept) (of_frames n peer (behind_frame kept)) (sorted frame) fit

dropping_fits : (heard : Heard) (o : Option (ℕ × ℕ)) → ItemsFit heard (drops o)
dropping_fits heard None = tt
dropping_fits heard (Some quiet) = refl

room_fits : (heard : Heard) (es : Table) (b : Bool) → ItemsFit heard (if b then [] else drops (quietest None es))
room_fits heard es true = tt
room_fits heard es false = dropping_fits heard (quietest None es)

accept_fits : (heard : Heard) (es : Table) (s t : Streams) (a b : Bool) → ItemsFit heard (if◌then◌else◌ {A = List Item × Streams} a (if◌then◌else◌ {A = List Item × Streams} b (makes_room es, t) ([], s)) ([], s)).0
accept_fits heard es s t true true = room_fits heard es (nat_lt (length es) 100)
accept_fits heard es s t true false = tt
accept_fits heard es s t false b = tt

module _ (heard : Heard) (s : Streams) (kept : StreamsKept heard s) where
  datagram_taken : (peer : ℕ) (is : Sorted) (b : Bool) → ItemsFit heard (if◌then◌else◌ {A = List Item × Streams} b ([], s) (of_datagram peer is, s)).0
  datagram_taken peer is true = tt
  datagram_taken peer is false = datagram_fits heard peer is

  bytes_fit : (peer : ℕ) (octets : List ℕ) (o : Option Stream) → entry_at peer s.streams ≡ o → ItemsFit (hears (Bytes peer octets) heard) (brings peer octets s o).0
  bytes_fit peer octets None entry = tt
  bytes_fit peer octets (Some t) entry =
      let some : heard.kept peer ≡ Some t.framer = kept.kept peer ∙ ap (λ (o : Option Stream). option_map (λ (t : Stream). t.framer) o) entry in
      frames_fit (hears (Bytes peer octets) heard) peer
      (ap (λ (b : Bool). is_some (if b then rest_behind peer octets (heard.kept peer) else heard.kept peer)) (is_same peer peer refl)
      ∙ ap (λ (o : Option (List ℕ)). is_some (rest_behind peer octets o)) some) (length octets) (t.framer ++ octets)

  pub items_fit : (what : FrontWhat) → ItemsFit (hears what heard) (takes_now what s).0
  items_fit (Datagram peer octets) = datagram_taken peer (sorted octets) (is_stream peer)
  items_fit (Accepted peer) = accept_fits (hears (Accepted peer) heard) s.streams s (opens peer s) (is_stream peer) (is_new peer s.last)
  items_fit (Bytes peer octets) = bytes_fit peer octets (entry_at peer s.streams) refl
  items_fit (Gone peer) = tt
  items_fit (Core what) = (no_ask what, tt)

-- ---- what is told of them later

module _ (heard : Heard) (h : History) where
  last_over : (q peer : ℕ) (last : Option ℕ) → is_new q last ≡ false → is_new peer last ≡ true → is_new q (Some peer) ≡ false
  last_over q peer None old new = absurd (cc)
  last_over q peer (Some l) old new = grind (arith, nat_tests)

  old_open : (q peer : ℕ) (a b : Bool) → is_new peer heard.last ≡ b → is_new q heard.last ≡ false → is_new q (if a && b then with_kept peer (Some []) (record heard { last = Some peer }) else heard).last ≡ false
  old_open q peer true true new old = last_over q peer heard.last old new
  old_open q peer true false new old = old
  old_open q peer false b new old = old

  -- a number that was accepted stays one
  pub old_stays : (what : FrontWhat) (q : ℕ) → is_new q heard.last ≡ false → is_new q (hears what heard).last ≡ false
  old_stays (Datagram peer octets) q old = old
  old_stays (Accepted peer) q old = old_open q peer (is_stream peer) (is_new peer heard.last) refl old
  old_stays (Bytes peer octets) q old = old
  old_stays (Gone peer) q old = old
  old_stays (Core what) q old = old

  pub waits_heard : (w : Waits) (ps : List Pending) (what : FrontWhat) → WaitsKept w h heard.last ps → WaitsKept w h (hears what heard).last ps
  waits_heard w ps what kept = record {
    next = kept.next;
    rises = kept.rises;
    keyed = kept.keyed;
    keys = kept.keys;
    each = kept.each;
    waiting = all_changed (IsWaiting h heard.last) (IsWaiting h (hears what heard).last) (λ p is. record {
      asked = is.asked;
      first = is.first;
      is_asked = is.is_asked;
      request = is.request;
      same = is.same;
      since = is.since;
      none = is.none;
      old = λ stream. old_stays what p.asker.peer (is.old stream);
    }) ps kept.waiting;
    shares = kept.shares;
    asked = kept.asked;
  }

  now_open : (peer : ℕ) (a : Bool) → (if a then with_kept peer (Some []) (record heard { last = Some peer }) else heard).now ≡ heard.now
  now_open peer true = refl
  now_open peer false = refl

  pub same_now : (what : FrontWhat) → (hears what heard).now ≡ heard.now
  same_now (Datagram peer octets) = refl
  same_now (Accepted peer) = now_open peer (is_stream peer && is_new peer heard.last)
  same_now (Bytes peer octets) = refl
  same_now (Gone peer) = refl
  same_now (Core what) = refl

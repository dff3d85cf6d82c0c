-- What came of a peer pays for its answers.
use Rattle.std.proofs.Common.{◌≡◌, ℕ, ◌+◌, ◌*◌, ◌≤◌, List, [], ◌∷◌, ◌++◌, length, Option, Some, None, Bool, true, false, refl, sym, subst, ap, arith, length-append}
use Rattle.std.specs.Prelude.{◌==◌, nat_lt, if◌then◌else◌}
use Rattle.number_table.specs.Entries.{entry_at, frees, puts}
use Rattle.client_request.specs.declared.event.Row.{Row}
use Rattle.client_steps.specs.Whole.{Whole, started_with}
use Rattle.front_core.specs.Core.{IsCoreStep, core_serves}
use Rattle.front_core.specs.Forwarded.{Forwards, begins, goes_on}
use Rattle.front_peers.specs.Items.{Streams, at_moment, brings, drops, is_new, is_stream, makes_room, of_datagram, of_frames, opens, quietest, takes, takes_now}
use Rattle.front_peers.specs.declared.event.FrontRow.{FrontRow}
use Rattle.front_peers.specs.declared.event.FrontWhat.{FrontWhat}
use Rattle.front_peers.specs.declared.event.FrontWhat.TheVariants.{Datagram, Accepted, Bytes, Gone, Core}
use Rattle.front_peers.specs.declared.items.Item.{Item}
use Rattle.front_peers.specs.declared.peers.Stream.{Stream}
use Rattle.front_queries.specs.Refusals.{sorted}
use Rattle.front_queries.specs.declared.sorting.Sorted.{Sorted}
use Rattle.front_queries.specs.declared.sorting.Sorted.TheVariants.{Ignored, Refused, Taken}
use Rattle.front_steps.specs.Steps.{Forwarding, scene, beginning}
use Rattle.right_trace.specs.Time.{one_if}
use Rattle.proof_bounds.specs.Bounds.{EveryAnswerIsEarned}
use Rattle.proof_bounds.specs.Counts.{answers, answers_to, datagrams_of, in_all, is_datagram_of, octets_by, octets_of}
use Rattle.proof_bounds.proofs.Weighing.{again_weighs, free_least, free_weighs, put_weighs, same_number, weighs}
use Rattle.proof_bounds.proofs.Paying.{bill, row_pays_all, waiting}
use Rattle.proof_bounds.proofs.Keeping.{Stays, took_kept}
use Rattle.proof_bounds.proofs.Frames.{frames_cost, frames_free}

-- no number of streams is one of datagrams
pub in_all_more : (count : FrontRow → ℕ) (rows : List FrontRow) (row : FrontRow) → in_all count (rows ++ row ∷ []) ≡ in_all count rows + count row
in_all_more count [] row = omega arith
in_all_more count (r ∷ rows) row = let rest = in_all_more count rows row in omega arith

-- What streams weigh stays at most what it is, if a weight is the same whenever a stream was heard.
pub weighs_stays : (f : ℕ × Stream → ℕ) → ((k : ℕ) (t : Stream) (h : ℕ) → f (k, record { framer = t.framer; heard = h }) ≡ f (k, t)) → (n : ℕ) → Stays (λ (s : Streams). weighs f s.streams ≤ n)
weighs_stays f steady n = record {
  answered = λ k t s is p.
      (let same = steady k t s.moment in
      let again = again_weighs f k t (record { framer = t.framer; heard = s.moment }) s.streams is (omega arith) in
      omega arith);
  closed = λ k s p. (let least = free_least f k s.streams in omega arith);
}

module _ (to : ℕ → Bool) where
  free_room : (es : List (ℕ × Stream)) (b : Bool) (o : Option (ℕ × ℕ)) → bill to (if◌then◌else◌ {A = List Item} b [] (drops o)) ≡ 0
  free_room es true o = refl
  free_room es false None = refl
  free_room es false (Some quiet) = refl

  by_datagram : (q : ℕ) (is : Sorted) → bill to (of_datagram q is) ≤ one_if (to q)
  by_datagram q Ignored = omega arith
  by_datagram q (Refused octets) = omega arith
  by_datagram q (Taken query) = omega arith

  accepting : (s : Streams) (q : ℕ) (a b : Bool) → bill to (if◌then◌else◌ {A = List Item × Streams} a (if◌then◌else◌ {A = List Item × Streams} b (makes_room s.streams, opens q s) ([], s)) ([], s)).0 ≡ 0
  accepting s q true true = free_room s.streams (nat_lt (length s.streams) 100) (quietest None s.streams)
  accepting s q true false = refl
  accepting s q false b = refl

module _ (peer : ℕ) where
  abbrev to : ℕ → Bool
  to p = p == peer

  -- streams of it that are open
  abbrev opened : ℕ × Stream → ℕ
  opened e = one_if (e.0 == peer)

  -- what is kept of them
  abbrev kept : ℕ × Stream → ℕ
  kept e = if e.0 == peer then length (e.1).framer else 0

  -- ---- where it sends datagrams

  module _ (datagrams : is_stream peer ≡ false) (s : Streams) (none : weighs opened s.streams ≤ 0) where
    abbrev Earned : FrontWhat → Type 0
    Earned what = (bill to (takes_now what s).0 ≤ one_if (is_datagram_of peer what)) × (weighs opened (takes_now what s).1.streams ≤ 0)

    not_it : (q : ℕ) → is_stream q ≡ true → (q == peer) ≡ false
    not_it q is = go (q == peer) refl
      where
        go : (b : Bool) → (q == peer) ≡ b → b ≡ false
        go true at = absurd (cc (subst (λ (n : ℕ). is_stream n ≡ true) (same_number q peer at) is, datagrams))
        go false at = refl

    datagram_earned : (q : ℕ) (octets : List ℕ) (b : Bool) → (bill to (if◌then◌else◌ {A = List Item × Streams} b ([], s) (of_datagram q (sorted octets), s)).0 ≤ one_if (q == peer))
        × (weighs opened (if◌then◌else◌ {A = List Item × Streams} b ([], s) (of_datagram q (sorted octets), s)).1.streams ≤ 0)
    datagram_earned q octets true = (omega arith, none)
    datagram_earned q octets false = (by_datagram to q (sorted octets), none)

    accepted_none : (q : ℕ) (a b : Bool) → is_stream q ≡ a → weighs opened (if◌then◌else◌ {A = List Item × Streams} a (if◌then◌else◌ {A = List Item × Streams} b (makes_room s.streams, opens q s) ([], s)) ([], s)).1.streams ≤ 0
    accepted_none q true true is =
        let put = put_weighs opened q (record { framer = []; heard = s.moment }) s.streams in
        let other : one_if (q == peer) ≡ 0 = ap one_if (not_it q is) in
        omega arith
    accepted_none q true false is = none
    accepted_none q false b is = none

    bytes_earned : (q : ℕ) (octets : List ℕ) (o : Option Stream) → entry_at q s.streams ≡ o → (bill to (brings q octets s o).0 ≤ 0) × (weighs opened (brings q octets s o).1.streams ≤ 0)
    bytes_earned q octets None is = (omega arith, none)
    bytes_earned q octets (Some t) is =
        let freed = free_weighs opened q t s.streams is in
        let again = again_weighs opened q t (record { framer = (of_frames (length octets) q (t.framer ++ octets)).1; heard = s.moment }) s.streams is (omega arith) in
        (by (q == peer) refl, omega arith)
      where
        by : (b : Bool) → (q == peer) ≡ b → bill to (of_frames (length octets) q (t.framer ++ octets)).0 ≤ 0
        by true at = (
            let freed = free_weighs opened q t s.streams is in
            let one : one_if (q == peer) ≡ 1 = ap one_if at in
            absurd (omega arith))
        by false at = let no = frames_free to q at (length octets) (t.framer ++ octets) in omega arith

    earned : (what : FrontWhat) → Earned what
    earned (Datagram q octets) = datagram_earned q octets (is_stream q)
    earned (Accepted q) = let no = accepting to s q (is_stream q) (is_new q s.last) in (omega arith, accepted_none q (is_stream q) (is_new q s.last) refl)
    earned (Bytes q octets) = bytes_earned q octets (entry_at q s.streams) refl
    earned (Gone q) = let least = free_least opened q s.streams in (omega arith, omega arith)
    earned (Core what) = (omega arith, none)

  -- ---- where it has streams

  module _ (streams : is_stream peer ≡ true) (s : Streams) where
    abbrev Paid : FrontWhat → Type 0
    Paid what = 14 * bill to (takes_now what s).0 + weighs kept (takes_now what s).1.streams ≤ weighs kept s.streams + octets_by peer what

    datagram_paid : (q : ℕ) (octets : List ℕ) (b : Bool) → is_stream q ≡ b
        → 14 * bill to (if◌then◌else◌ {A = List Item × Streams} b ([], s) (of_datagram q (sorted octets), s)).0 + weighs kept (if◌then◌else◌ {A = List Item × Streams} b ([], s) (of_datagram q (sorted octets), s)).1.streams ≤ weighs kept s.streams + 0
    datagram_paid q octets true is = omega arith
    datagram_paid q octets false is =
        let most = by_datagram to q (sorted octets) in
        let other : one_if (q == peer) ≡ 0 = ap one_if (go (q == peer) refl) in
        omega arith
      where
        go : (b : Bool) → (q == peer) ≡ b → b ≡ false
        go true at = absurd (cc (subst (λ (n : ℕ). is_stream n ≡ false) (same_number q peer at) is, streams))
        go false at = refl

    empty_kept : (q : ℕ) (h : ℕ) → kept (q, record { framer = []; heard = h }) ≡ 0
    empty_kept q h = go (q == peer)
      where
        go : (b : Bool) → if◌then◌else◌ {A = ℕ} b 0 0 ≡ 0
        go true = refl
        go false = refl

    accepted_paid : (q : ℕ) (a b : Bool) → weighs kept (if◌then◌else◌ {A = List Item × Streams} a (if◌then◌else◌ {A = List Item × Streams} b (makes_room s.streams, opens q s) ([], s)) ([], s)).1.streams ≤ weighs kept s.streams
    accepted_paid q true true =
        let put = put_weighs kept q (record { framer = []; heard = s.moment }) s.streams in
        let nothing = empty_kept q s.moment in
        omega arith
    accepted_paid q true false = omega arith
    accepted_paid q false b = omega arith

    module _ (q : ℕ) (octets : List ℕ) (t : Stream) (is : entry_at q s.streams ≡ Some t) where
      abbrev all : List ℕ
      all = t.framer ++ octets

      abbrev left : Stream
      left = record { framer = (of_frames (length octets) q all).1; heard = s.moment }

      stream_paid : (b : Bool) → (q == peer) ≡ b → 14 * bill to (of_frames (length octets) q all).0 + weighs kept (puts q left (frees q s.streams)) ≤ weighs kept s.streams + (if b then length octets else 0)
      stream_paid true at =
          let cost = frames_cost to q (length octets) all in
          let long = length-append t.framer octets in
          let freed = free_weighs kept q t s.streams is in
          let put = put_weighs kept q left (frees q s.streams) in
          let before : kept (q, t) ≡ length t.framer = ap (λ (c : Bool). if c then length t.framer else 0) at in
          let behind : kept (q, left) ≡ length left.framer = ap (λ (c : Bool). if c then length left.framer else 0) at in
          omega arith
      stream_paid false at =
          let no = frames_free to q at (length octets) all in
          let nothing : kept (q, left) ≡ 0 = ap (λ (c : Bool). if c then length left.framer else 0) at in
          let again = again_weighs kept q t left s.streams is (omega arith) in
          omega arith

    bytes_paid : (q : ℕ) (octets : List ℕ) (o : Option Stream) → entry_at q s.streams ≡ o → 14 * bill to (brings q octets s o).0 + weighs kept (brings q octets s o).1.streams ≤ weighs kept s.streams + (if q == peer then length octets else 0)
    bytes_paid q octets None is = omega arith
    bytes_paid q octets (Some t) is = stream_paid q octets t is (q == peer) refl

    paid : (what : FrontWhat) → Paid what
    paid (Datagram q octets) = datagram_paid q octets (is_stream q) refl
    paid (Accepted q) =
        let no = accepting to s q (is_stream q) (is_new q s.last) in
        let most = accepted_paid q (is_stream q) (is_new q s.last) in
        omega arith
    paid (Bytes q octets) = bytes_paid q octets (entry_at q s.streams) refl
    paid (Gone q) = let least = free_least kept q s.streams in omega arith
    paid (Core what) = omega arith

  -- ---- row by row

  module _ (first : Forwarding Whole) (words : ℕ → ℕ) where
    abbrev ByDatagrams : List FrontRow → Forwarding Whole → Type 0
    ByDatagrams rows last = (answers_to peer rows + waiting to last.desk.waits ≤ datagrams_of peer rows) × (weighs opened last.desk.streams.streams ≤ 0)

    all_earned : is_stream peer ≡ false → ByDatagrams [] first → (rows : List FrontRow) (trace : List Row) (last : Forwarding Whole) (left : ℕ → ℕ) → Forwards first words rows trace last left → ByDatagrams rows last
    all_earned is at rows trace last left begins = at
    all_earned is at rows trace last left (goes_on some all row before whole a b f g forwards made rows_are trace_is) =
        let so_far : ByDatagrams some a = all_earned is at some before a f forwards in
        let one : Earned is (at_moment row.event.moment.0 a.desk.streams) so_far.1 row.event.what = earned is (at_moment row.event.moment.0 a.desk.streams) so_far.1 row.event.what in
        let pays = row_pays_all to IsCoreStep core_serves row.event a.within f a.desk (scene b.within g b.desk row.outs) made in
        let kept_none = took_kept (λ (s : Streams). weighs opened s.streams ≤ 0) (weighs_stays opened (λ k t h. refl) 0) IsCoreStep core_serves row.event a.within f a.desk (scene b.within g b.desk row.outs) one.1 made in
        let sent = in_all_more (λ (r : FrontRow). answers to r.outs) some row in
        let came = in_all_more (λ (r : FrontRow). one_if (is_datagram_of peer r.event.what)) some row in
        subst (λ (rs : List FrontRow). ByDatagrams rs b) (sym rows_are) (omega (arith, so_far.0, one.0), kept_none)

    abbrev ByStream : List FrontRow → Forwarding Whole → Type 0
    ByStream rows last = 14 * (answers_to peer rows + waiting to last.desk.waits) + weighs kept last.desk.streams.streams ≤ octets_of peer rows

    all_paid : is_stream peer ≡ true → ByStream [] first → (rows : List FrontRow) (trace : List Row) (last : Forwarding Whole) (left : ℕ → ℕ) → Forwards first words rows trace last left → ByStream rows last
    all_paid is at rows trace last left begins = at
    all_paid is at rows trace last left (goes_on some all row before whole a b f g forwards made rows_are trace_is) =
        let so_far : ByStream some a = all_paid is at some before a f forwards in
        let s : Streams = at_moment row.event.moment.0 a.desk.streams in
        let one : Paid is s row.event.what = paid is s row.event.what in
        let pays = row_pays_all to IsCoreStep core_serves row.event a.within f a.desk (scene b.within g b.desk row.outs) made in
        let most = took_kept (λ (t : Streams). weighs kept t.streams ≤ weighs kept (takes row.event a.desk.streams).1.streams) (weighs_stays kept (λ k t h. refl) (weighs kept (takes row.event a.desk.streams).1.streams))
        IsCoreStep core_serves row.event a.within f a.desk (scene b.within g b.desk row.outs) (omega arith) made in
        let sent = in_all_more (λ (r : FrontRow). answers to r.outs) some row in
        let came = in_all_more (λ (r : FrontRow). octets_by peer r.event.what) some row in
        subst (λ (rs : List FrontRow). ByStream rs b) (sym rows_are) (omega arith)

pub every_answer_is_earned : EveryAnswerIsEarned
every_answer_is_earned given redundant cache conf words rows trace last left forwards peer = record {
  by_datagrams = λ is. (let all = all_earned peer (beginning (started_with given redundant cache conf)) words is (omega arith, omega arith) rows trace last left forwards in omega (arith, all.0));
  by_stream = λ is. (let all = all_paid peer (beginning (started_with given redundant cache conf)) words is (omega arith) rows trace last left forwards in omega arith);
}

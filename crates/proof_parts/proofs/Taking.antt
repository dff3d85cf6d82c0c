-- A connection takes one request from its queue: it is written, or fails.
use Rattle.std.proofs.Common.{◌≡◌, ◌≢◌, ℕ, suc, ◌<◌, ◌≤◌, ◌⊎◌, inl, inr, Bool, true, false, List, [], ◌∷◌, ◌++◌, length, Option, Some, None, refl, sym, ap, subst, ◌∙◌, arith, append-nil}
use Rattle.std.specs.Prelude.{if◌then◌else◌, ◌==◌, option_and_then, is_some, Err}
use Rattle.std.proofs.lemmas.Bool.Decides.{nat_tests}
use Rattle.client_request.specs.Numbered.{puts, frees, entry_at}
use Rattle.client_request.specs.Request.{Request}
use Rattle.client_request.specs.Requests.{for_one, for_several}
use Rattle.client_request.specs.View.{View, asks, answers}
use Rattle.client_request.specs.declared.error.Error.{Error}
use Rattle.client_request.specs.declared.error.Error.TheVariants as errors
use Rattle.client_request.specs.declared.event.Out.TheVariants.{Write}
use Rattle.client_stream.specs.IdTable.{IdTable, next_id, inserted, removed}
use Rattle.client_stream.specs.Plain.{takes_queued, prepares, becomes_active_for, timeout_by, takes_free_id, writes, frame_of, readied, had_by}
use Rattle.client_settings.specs.Stream.{Settings}
use Rattle.client_stream.specs.declared.request.AnyRequest.TheVariants.{Single}
use Rattle.client_stream.specs.declared.request.Holder.{Holder}
use Rattle.client_stream.specs.declared.request.Holder.TheVariants.{Waits, GivenUp}
use Rattle.client_stream.specs.declared.request.QueuedRequest.{QueuedRequest}
use Rattle.right_trace.specs.Time.{response_timeout, id_count, all_ids, count_below}
use Rattle.right_trace.specs.Writes.{Written}
use Rattle.proof_right.specs.machine.Streams as multi
use Rattle.proof_right.specs.machine.Streams.{Mode, New, Active, Idle, Phase, Lined, Holding, Broken, Asker, Conn, Multi, Moves, IsFull, moved, move, set_conn, taking, taken_on, written_on, Puts, Nothing}
use Rattle.right_trace.specs.Updates.{with_at}
use Rattle.proof_parts.specs.Chains.{still, then_act}
use Rattle.proof_parts.specs.PartTie.{Leads}
use Rattle.proof_parts.specs.Runs.{made_by}
use Rattle.proof_parts.specs.Seats.{Seats, IsAway, IsLined, IdFits, IsFree, IsHeld, WasGivenUp, AreSeated}
use Rattle.proof_parts.specs.Connections.{dues, IsTimed, IsAt, IsPostedTo, HasTaken}
use Rattle.proof_parts.specs.Lines.{SingleLine, Sorted, IsInOrder, seats_of, StageFits, WritingFits, LineFits, IsLineAt}
use Rattle.proof_parts.specs.Lines as lines
use Rattle.proof_parts.specs.Sights.{IsFair}
use Rattle.proof_right.proofs.server.Counts.{count_same}
use Rattle.proof_parts.proofs.FirstKeys.{table, at_first, behind_first, sorted_behind, puts_and_frees}
use Rattle.proof_parts.proofs.Framing.{frames_carry}
use Rattle.proof_parts.proofs.HeldIds.{entries_count, IsFreeNext, next_is_free}
use Rattle.proof_parts.proofs.Keys.{with_here, with_there, each_number}
use Rattle.proof_parts.proofs.Retiming.{timed_by}
use Rattle.proof_parts.proofs.Running.{runs_one, beside_move}
use Rattle.proof_parts.proofs.Seating.{leaves_queue, writes_there}
use Rattle.proof_parts.proofs.Tables.{rises_below, sorted_puts, sorted_frees, puts_path, more_by_puts, fewer_by_frees, present_below}
use Rattle.proof_parts.proofs.Waking.{IsWoken, woken}
use Rattle.right_trace.specs.Trace.{Conf}

-- One was taken, and the others are still queued.
pub record TookOne (c : Conf) (server p : ℕ) (names : ℕ → Option ℕ) (m : Multi) (x : Conn) (s : SingleLine) (v : View) (q : List (ℕ × QueuedRequest Request Request)) (t : SingleLine) (w : View) : Type 0 where
  pub taken : HasTaken c server p names m x s v t w
  pub queue : t.queue ≡ q

-- tables with equal parts
pub same_seats : (x y : Seats) → x.held ≡ y.held → x.ids ≡ y.ids → x.queue ≡ y.queue → x.asks ≡ y.asks → x.written ≡ y.written → x ≡ y
same_seats x y held ids queue asks written = λ i. record { held = held i; ids = ids i; queue = queue i; asks = asks i; written = written i }

-- what follows a step that leaves something
leads_then : (P Q : SingleLine → View → Type 0) (f : SingleLine → View → SingleLine × View) (o : Option (SingleLine × View)) → Leads P o → ((t : SingleLine) (u : View) → P t u → Q (f t u).0 (f t u).1) → Leads Q (option_and_then (λ y. Some (f y.0 y.1)) o)
leads_then P Q f None l g = tt
leads_then P Q f (Some y) l g = g y.0 y.1 l

all_small : (n : ℕ) → n < 65536 → n ≤ all_ids
unfolding all_ids
all_small n lt = omega arith

so_many : 32768 ≡ id_count
unfolding id_count
so_many = refl

empty : {A : Type 0} {xs : List A} → xs ≡ [] → length xs ≡ 32768 → ⊥
empty e f = let g = ap length e in omega arith

module _ (c : Conf) (server p : ℕ) (settings : Settings) (set : settings.response_timeout ≡ response_timeout c) (names : ℕ → Option ℕ) (m : Multi) (x : Conn) (s : SingleLine) (v : View) (i : ℕ) (w : QueuedRequest Request Request) (q : List (ℕ × QueuedRequest Request Request))
    (line : IsLineAt c p names s m x (dues v) v.ticket) (fair : IsFair v) (queue : s.queue ≡ (i, w) ∷ q) (unwritten : s.writing ≡ None) (left : x.left ≡ 0) (heard : x.heard ≡ false) where
  abbrev rest : SingleLine
  rest = record s { queue = q }

  sorted_queue : Sorted 0 v.ticket ((i, w) ∷ q)
  sorted_queue = subst (λ q. Sorted 0 v.ticket q) queue line.fits.queue

  rest_fits : LineFits c rest x (dues v) v.ticket
  rest_fits = record {
    stage = line.fits.stage;
    writing = line.fits.writing;
    idle = line.fits.idle;
    timeout = line.fits.timeout;
    resting = line.fits.resting;
    order = line.fits.order;
    few = line.fits.few;
    ids = line.fits.ids;
    queue = sorted_behind i w 0 v.ticket q sorted_queue;
  }

  at_front : entry_at i s.queue ≡ Some w
  at_front = ap (entry_at i) queue ∙ at_first i w q

  queue_path : table q ≡ with_at i None (table s.queue)
  queue_path = behind_first i w 0 v.ticket q sorted_queue ∙ ap (λ (es : List (ℕ × QueuedRequest Request Request)). with_at i None (λ j. entry_at j es)) (sym queue)

  abbrev k : ℕ
  k = (line.seated.queued i w at_front).0

  named : names i ≡ Some k
  named = (line.seated.queued i w at_front).1

  who : IsLined p k w m.asks
  who = (line.seated.queued i w at_front).2

  abbrev a : Asker
  a = who.ask

  not_away : IsAway p (m.asks k) → ⊥
  not_away away = away.lined a who.is who.phase

  broken_away : IsAway p (Some (moved a Broken))
  broken_away = record {
    lined = λ b e f. (let z : moved a Broken ≡ b = cc in let y : Broken ≡ Lined p = ap (λ (a : Asker). a.phase) z ∙ f in cc);
    holding = λ b id e f. (let z : moved a Broken ≡ b = cc in let y : Broken ≡ Holding p id = ap (λ (a : Asker). a.phase) z ∙ f in cc);
  }

  -- who was there still is, but for this one
  seats_so : (t : SingleLine) → table t.queue ≡ with_at i None (table s.queue) → t.ids ≡ s.ids → (j : ℕ) → IsAt s j → IsAt t j ⊎ (i ≡ j)
  seats_so t path ids j (inr e) = inl (inr (e.0, ap (entry_at j) ids ∙ e.1))
  seats_so t path ids j (inl e) = by (i == j) refl
    where
      same : (b : Bool) → (i == j) ≡ b → b ≡ true → i ≡ j
      same b e t = grind (arith, nat_tests)

      other : (b : Bool) → (i == j) ≡ b → b ≡ false → i ≡ j → ⊥
      other b e f s = grind (arith, nat_tests)

      by : (b : Bool) → (i == j) ≡ b → IsAt t j ⊎ (i ≡ j)
      by true f = inr (same true f refl)
      by false f = inl (inl (e.0, ap (λ (f : ℕ → Option (QueuedRequest Request Request)). f j) path ∙ (with_there i None (λ j. entry_at j s.queue) j (other false f refl) ∙ e.1)))

  module _ (t : SingleLine) (u : View) (wk : IsWoken c rest x v t u) where
    -- The error of this one is posted.
    failed : (e : Error) → e ≢ errors.WrongReplyForQuery → (y : Conn) (l : SingleLine) (n : Multi) → Moves c server v.now v.place m Nothing n → n.asks ≡ with_at k (Some (moved a Broken)) m.asks → ((z : ℕ) → (p ≡ z → ⊥) → n.conns z ≡ m.conns z) → n.opening ≡ m.opening → n.calm ≡ m.calm
        → n.conns p ≡ Some y → y.ids ≡ x.ids → y.heard ≡ x.heard → y.got ≡ x.got → LineFits c l y (dues u) u.ticket → l.queue ≡ q → l.ids ≡ s.ids → table l.held.held ≡ table s.held.held → l.stage ≡ t.stage
        → TookOne c server p names m x s v q l (answers i (Err e) u)
    failed e not_wrong y l n move asks conns opening calm conn ids_same heard_same got_same fits queue_is ids_is held_is stage_is = record {
      queue = queue_is;
      taken = record {
        made = then_act (made_by v.place Nothing n) (still v.place n);
        runs = runs_one c server v.now v.place m Nothing n move;
        nothing = refl;
        place = refl;
        outs = wk.alike.outs ∙ sym (append-nil v.outs);
        posts = record { ticket = i; part = Err e; is_stale = false } ∷ [];
        put = ap (λ b. b ++ record { ticket = i; part = Err e; is_stale = false } ∷ []) wk.alike.board;
        failing = ((e, refl, not_wrong), (k, moved a Broken, named, ap (λ (f : ℕ → Option Asker). f k) asks ∙ with_here k (Some (moved a Broken)) m.asks, refl), tt);
        conn = y;
        line = record {
          conn = conn;
          seated = subst (AreSeated p names)
              (same_seats (record (seats_of s m.asks x.ids) { queue = with_at i None (λ j. entry_at j s.queue); asks = with_at k (Some (moved a Broken)) m.asks }) (seats_of l n.asks y.ids)
              (sym held_is) (ap (λ (es : List (ℕ × ℕ)). table es) (sym ids_is)) (sym queue_path ∙ ap (λ (es : List (ℕ × QueuedRequest Request Request)). table es) (sym queue_is)) (sym asks) (sym ids_same))
              (leaves_queue p names (seats_of s m.asks x.ids) i k w (Some (moved a Broken)) line.seated at_front named broken_away);
          fits = fits;
        };
        heard = heard_same;
        got = got_same;
        beside = beside_move p m n k a Broken who.is not_away asks conns opening calm;
        timed = subst (λ st. IsTimed s.stage st v (answers i (Err e) u)) (sym stage_is) (timed_by s.stage t.stage v u (answers i (Err e) u) refl refl refl refl refl wk.timed);
        ticket = wk.alike.ticket;
        at_place = wk.alike.place;
        more = wk.alike.more;
        seats = λ j at. elim (seats_so l (ap (λ (es : List (ℕ × QueuedRequest Request Request)). table es) queue_is ∙ queue_path) ids_is j at) [ inl f ↦ inl f | inr f ↦ inr (inl f) ];
      };
    }

    -- No id is free
    counted : (n top : ℕ) → s.held.mark ≤ n → length s.held.held ≡ top → top ≤ count_below (λ id. is_some (x.ids id)) n
    counted n top le e =
        let count = entries_count 0 n s.held.held (rises_below (λ (e : ℕ × Holder Request Request). e.0) 0 s.held.mark n s.held.held le line.fits.order.sorted) in
        let same = count_same (λ id. is_some (entry_at id s.held.held)) (λ id. is_some (x.ids id)) n (λ id lt. held_there id (line.seated.at_id id)) in
        omega arith
      where
        held_there : (id : ℕ) → IdFits p names (seats_of s m.asks x.ids) id → is_some (entry_at id s.held.held) ≡ is_some (x.ids id)
        held_there id (IsFree h wr) = ap is_some h ∙ sym (ap is_some wr)
        held_there id (IsHeld j l z y h wr rq nm is sent) = ap is_some h ∙ sym (ap is_some wr)
        held_there id (WasGivenUp y h wr absent) = ap is_some h ∙ sym (ap is_some wr)

    is_full : length s.held.held ≡ 32768 → IsFull x
    is_full e = counted all_ids id_count (all_small s.held.mark line.fits.order.small) (e ∙ so_many)

    active : length s.held.held ≡ 32768 → (md : Mode) → x.mode ≡ md → taking x.mode v.now ≡ x.mode
    active e New is = absurd (empty (line.fits.resting (λ since f. let z : New ≡ Active since = sym is ∙ f in cc)) e)
    active e (Active since) is = ap (λ md. taking md v.now) is ∙ sym is
    active e (Idle since) is = absurd (empty (line.fits.resting (λ u f. let z : Idle since ≡ Active u = sym is ∙ f in cc)) e)

    finds_none : length t.held.held ≡ 32768 → TookOne c server p names m x s v q t (answers i (Err errors.StreamTooManyOutstandingQueries) u)
    finds_none e =
        let full : length s.held.held ≡ 32768 = sym (ap (λ (h : IdTable (Holder Request Request)). length h.held) wk.held) ∙ e in
        let same = active full x.mode refl in
        failed errors.StreamTooManyOutstandingQueries (λ e. cc) x t (move k a Broken m) (multi.FindsNoId k a p x who.is who.phase line.conn left (is_full full)) refl (λ z ne. refl) refl refl line.conn refl refl refl
        (record {
          stage = subst (StageFits c (dues u) t.idle_time t.stage) same wk.fits.stage;
          writing = wk.fits.writing;
          idle = wk.fits.idle;
          timeout = wk.fits.timeout;
          resting = λ ne. absurd (ne wk.since (sym same ∙ wk.mode));
          order = wk.fits.order;
          few = wk.fits.few;
          ids = wk.fits.ids;
          queue = wk.fits.queue;
        })
        wk.queue wk.ids (ap (λ (h : IdTable (Holder Request Request)). table h.held) wk.held) refl

    -- an id is free
    module _ (few : length t.held.held < 32768) where
      abbrev id : ℕ
      id = next_id t.held

      abbrev r : Request
      r = readied for_one id t.had_keepalive a.request

      abbrev had : Bool
      had = had_by for_one id t.had_keepalive a.request

      -- it can't be written
      too_long : frame_of for_one r ≡ None → TookOne c server p names m x s v q (record t { had_keepalive = had; held = removed id (inserted GivenUp t.held) }) (answers i (Err errors.StreamLongMessage) u)
      too_long e =
          let next = next_is_free GivenUp t.held wk.fits.order few in
          let more = more_by_puts id GivenUp t.held.held next.free in
          let there : entry_at id (puts id GivenUp t.held.held) ≡ Some GivenUp = ap (λ (f : ℕ → Option (Holder Request Request)). f id) (puts_path id GivenUp t.held.held) ∙ with_here id (Some GivenUp) (λ j. entry_at j t.held.held) in
          let less = fewer_by_frees id GivenUp (puts id GivenUp t.held.held) there in
          failed errors.StreamLongMessage (λ e. cc) (taken_on v.now x) (record t { had_keepalive = had; held = removed id (inserted GivenUp t.held) }) (set_conn p (taken_on v.now x) (move k a Broken m))
          (multi.CannotWrite k a p x who.is who.phase line.conn left (frames_carry.none a.request id t.had_keepalive who.octets e)) refl (λ z ne. with_there p (Some (taken_on v.now x)) m.conns z ne) refl refl (with_here p (Some (taken_on v.now x)) m.conns) refl refl refl
          (record {
            stage = wk.fits.stage;
            writing = wk.fits.writing;
            idle = wk.fits.idle;
            timeout = wk.fits.timeout;
            resting = λ ne. absurd (ne wk.since wk.mode);
            order = record { sorted = sorted_frees id 0 (inserted GivenUp t.held).mark (puts id GivenUp t.held.held) next.order.sorted; small = next.order.small };
            few = at_most (length (frees id (puts id GivenUp t.held.held))) (length (puts id GivenUp t.held.held)) (length t.held.held) less more few;
            ids = wk.fits.ids;
            queue = wk.fits.queue;
          })
          wk.queue wk.ids (puts_and_frees id GivenUp 0 (inserted GivenUp t.held).mark t.held.held next.order.sorted next.free ∙ ap (λ (h : IdTable (Holder Request Request)). table h.held) wk.held) refl
        where
          at_most : (f p l : ℕ) → suc f ≡ p → p ≡ suc l → l < 32768 → f ≤ 32768
          at_most f p l d e lt = omega arith

      -- it is written
      is_written : (octets : List ℕ) → frame_of for_one r ≡ Some octets
          → TookOne c server p names m x s v q (record t { had_keepalive = had; held = inserted (Waits i r) t.held; ids = puts i id t.ids; writing = Some octets }) (asks (Write p w.number id octets) u)
      is_written octets e = record {
        queue = wk.queue;
        taken = record {
          made = then_act (made_by v.place (Puts (Write p k id octets)) n) (still v.place n);
          runs = runs_one c server v.now v.place m (Puts (Write p k id octets)) n
              (multi.Writes k a p x id octets who.is who.phase line.conn left heard (unheld (line.seated.at_id id)) (frames_carry.carries a.request id t.had_keepalive octets who.octets next.small e) (some (length octets) (frames_carry.some r octets e)));
          nothing = refl;
          place = refl;
          outs = ap (λ k. u.outs ++ Write p k id octets ∷ []) who.number ∙ ap (λ os. os ++ Write p k id octets ∷ []) wk.alike.outs;
          posts = [];
          put = wk.alike.board ∙ sym (append-nil v.board);
          failing = tt;
          conn = y;
          line = record {
            conn = with_here p (Some y) m.conns;
            seated = subst (AreSeated p names)
                (same_seats after (seats_of (record t { had_keepalive = had; held = inserted (Waits i r) t.held; ids = puts i id t.ids; writing = Some octets }) n.asks y.ids)
                (sym (puts_path id (Waits i r) t.held.held ∙ ap (λ (h : IdTable (Holder Request Request)). with_at id (Some (Waits i r)) (λ j. entry_at j h.held)) wk.held))
                (sym (puts_path i id t.ids ∙ ap (λ (es : List (ℕ × ℕ)). with_at i (Some id) (λ j. entry_at j es)) wk.ids))
                (sym queue_path ∙ ap (λ (es : List (ℕ × QueuedRequest Request Request)). table es) (sym wk.queue)) refl refl)
                (writes_there p names (seats_of s m.asks x.ids) i k id w r (moved a (Holding p id)) wr line.seated at_front named unheld_there refl refl (λ o. frames_carry.answered a.request id t.had_keepalive o next.small));
            fits = record {
              stage = wk.fits.stage;
              writing = lines.IsWriting octets refl refl (some (length octets) (frames_carry.some r octets e));
              idle = wk.fits.idle;
              timeout = wk.fits.timeout;
              resting = λ ne. absurd (ne wk.since wk.mode);
              order = next.order;
              few = at_most (length (puts id (Waits i r) t.held.held)) (length t.held.held) (more_by_puts id (Waits i r) t.held.held next.free) few;
              ids = sorted_puts i id 0 u.ticket t.ids (zero_le i) (subst (λ n. i < n) (sym wk.alike.ticket) (present_below i 0 v.ticket w s.queue line.fits.queue at_front)) wk.fits.ids;
              queue = wk.fits.queue;
            };
          };
          heard = refl;
          got = refl;
          beside = beside_move p m n k a (Holding p id) who.is not_away refl (λ z ne. with_there p (Some y) m.conns z ne) refl refl;
          timed = timed_by s.stage t.stage v u (asks (Write p w.number id octets) u) refl refl refl refl refl wk.timed;
          ticket = wk.alike.ticket;
          at_place = wk.alike.place;
          more = wk.alike.more;
          seats = seats;
        };
      }
        where
          next : IsFreeNext (Waits i r) t.held
          next = next_is_free (Waits i r) t.held wk.fits.order few

          wr : Written
          wr = record { request = k; octets = octets; moment = v.now }

          y : Conn
          y = written_on id k v.now octets x

          n : Multi
          n = set_conn p y (move k a (Holding p id) m)

          after : Seats
          after = record {
            held = with_at id (Some (Waits i r)) (λ j. entry_at j s.held.held);
            ids = with_at i (Some id) (λ j. entry_at j s.ids);
            queue = with_at i None (λ j. entry_at j s.queue);
            asks = with_at k (Some (moved a (Holding p id))) m.asks;
            written = with_at id (Some wr) x.ids;
          }

          unheld_there : entry_at id s.held.held ≡ None
          unheld_there = ap (λ (h : IdTable (Holder Request Request)). entry_at id h.held) (sym wk.held) ∙ next.free

          unheld : IdFits p names (seats_of s m.asks x.ids) id → x.ids id ≡ None
          unheld (IsFree h wr) = wr
          unheld (IsHeld j l z y h wr rq nm is sent) = absurd (let f = sym unheld_there ∙ h in cc)
          unheld (WasGivenUp y h wr absent) = absurd (let f = sym unheld_there ∙ h in cc)

          some : (n : ℕ) → 2 ≤ n → 0 < n
          some n le = omega arith

          zero_le : (n : ℕ) → 0 ≤ n
          zero_le n = omega arith

          at_most : (p l : ℕ) → p ≡ suc l → l < 32768 → p ≤ 32768
          at_most p l e lt = omega arith

          -- the one that was queued holds the id, and others are as they were
          seats : (j : ℕ) → IsAt s j → IsAt (record t { had_keepalive = had; held = inserted (Waits i r) t.held; ids = puts i id t.ids; writing = Some octets }) j ⊎ IsPostedTo j []
          seats j at = inl (each_number (λ j. IsAt s j → IsAt (record t { had_keepalive = had; held = inserted (Waits i r) t.held; ids = puts i id t.ids; writing = Some octets }) j) i
              (λ at. inr (id, ap (λ (f : ℕ → Option ℕ). f i) (puts_path i id t.ids) ∙ with_here i (Some id) (λ j. entry_at j t.ids)))
              (λ j ne at. elim at [
                | inl f ↦ inl (f.0, ap (λ (es : List (ℕ × QueuedRequest Request Request)). entry_at j es) wk.queue ∙ (ap (λ (f : ℕ → Option (QueuedRequest Request Request)). f j) queue_path ∙ (with_there i None (λ j. entry_at j s.queue) j ne ∙ f.1)))
                | inr f ↦ inr (f.0, ap (λ (g : ℕ → Option ℕ). g j) (puts_path i id t.ids) ∙ (with_there i (Some id) (λ j. entry_at j t.ids) j ne ∙ (ap (λ (es : List (ℕ × ℕ)). entry_at j es) wk.ids ∙ f.1)))
              ])
              j at)

      composed : (o : Option (List ℕ)) → frame_of for_one r ≡ o
          → TookOne c server p names m x s v q (writes for_one for_several p i w.number id (Waits i r) (record t { had_keepalive = had }) u o).0 (writes for_one for_several p i w.number id (Waits i r) (record t { had_keepalive = had }) u o).1
      composed None e = too_long e
      composed (Some octets) e = is_written octets e

    prepared : (b : Bool) → (length t.held.held == 32768) ≡ b
        → TookOne c server p names m x s v q (takes_free_id for_one for_several p for_one (λ r. Waits i r) i w.number a.request t u (if b then None else Some (next_id t.held))).0 (takes_free_id for_one for_several p for_one (λ r. Waits i r) i w.number a.request t u (if b then None else Some (next_id t.held))).1
    prepared true e = finds_none (same (length t.held.held) e)
      where
        same : (n : ℕ) → (n == 32768) ≡ true → n ≡ 32768
        same n e = grind (arith, nat_tests)
    prepared false e = composed (fewer (length t.held.held) wk.fits.few e) (frame_of for_one (readied for_one (next_id t.held) t.had_keepalive a.request)) refl
      where
        fewer : (n : ℕ) → n ≤ 32768 → (n == 32768) ≡ false → n < 32768
        fewer n le e = grind (arith, nat_tests)

  pub takes_one : Leads (TookOne c server p names m x s v q) (takes_queued for_one for_several p settings i w rest v)
  takes_one = subst (λ rq. Leads (TookOne c server p names m x s v q) (option_and_then (λ y. Some (prepares for_one for_several p i w.number rq y.0 y.1)) (becomes_active_for (timeout_by settings rq) rest v rest.stage))) (sym who.request)
      (leads_then (IsWoken c rest x v) (TookOne c server p names m x s v q) (λ t u. prepares for_one for_several p i w.number (Single a.request) t u) (becomes_active_for settings.response_timeout rest v rest.stage)
      (woken c settings.response_timeout set rest x v fair rest_fits)
      (λ t u wk. prepared t u wk (length t.held.held == 32768) refl))

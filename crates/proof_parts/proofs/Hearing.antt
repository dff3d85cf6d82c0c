-- A frame comes to a connection.
use Rattle.std.proofs.Common.{◌≡◌, ℕ, suc, ◌+◌, ◌<◌, ◌≤◌, inr, Bool, true, false, List, [], ◌∷◌, ◌++◌, map, length, take, Option, Some, None, refl, sym, ap, subst, ◌∙◌, arith}
use Rattle.std.specs.Prelude.{if◌then◌else◌, ◌==◌, ◌&&◌, nat_le, nat_lt}
use Rattle.std.proofs.lemmas.Bool.Decides.{nat_tests}
use Rattle.dns_base.specs.Numbers.{u16_at}
use Rattle.client_request.specs.Numbered.{entry_at}
use Rattle.client_request.specs.Request.{Request}
use Rattle.client_request.specs.View.{View, asks}
use Rattle.client_request.specs.declared.error.Error.TheVariants as errors
use Rattle.client_request.specs.declared.event.Out.TheVariants.{Close}
use Rattle.client_stream.specs.IdTable.{items_of}
use Rattle.client_stream.specs.Plain.{message_id, has_nothing, becomes_idle_if_unused, becomes_idle, drops_own_timer, ends, ends_with, fails_holders, fails_queued}
use Rattle.client_stream.specs.declared.request.Holder.{Holder}
use Rattle.client_stream.specs.declared.request.QueuedRequest.{QueuedRequest}
use Rattle.client_stream.specs.declared.line.LineStage.{LineStage}
use Rattle.client_stream.specs.declared.line.LineStage.TheVariants as at
use Rattle.right_trace.specs.Frames.{is_bad}
use Rattle.right_trace.specs.Messages.{Octets, id_in, keepalive_of}
use Rattle.right_trace.specs.Timers.{told_idle}
use Rattle.proof_right.specs.machine.Streams as multi
use Rattle.proof_right.specs.machine.Streams.{Mode, Active, Idle, Lined, Holding, Asker, Conn, Multi, drop, set_conn, end_at, framed, result_of, Puts, Gives, Nothing, StaysActive, SomeIdHeld, SomeoneLined, LeavesMode, TakesFrame}
use Rattle.right_trace.specs.Updates.{with_at}
use Rattle.proof_parts.specs.PartTie.{Leads}
use Rattle.proof_parts.specs.Seats.{IdFits, IsFree, IsHeld, WasGivenUp, AreSeated}
use Rattle.proof_parts.specs.Connections.{dues, IsTimed, HasEnded, Gave, StaysOpen, ClosesBehind, HasHeard}
use Rattle.proof_parts.specs.Lines.{SingleLine, Sorted, IsInOrder, seats_of, StageFits, WritingFits, LineFits, IsLineAt}
use Rattle.proof_parts.specs.Lines as lines
use Rattle.proof_parts.specs.Sights.{IsFair}
use Rattle.proof_parts.proofs.Ending.{ends_so}
use Rattle.proof_parts.proofs.FirstKeys.{at_first}
use Rattle.proof_parts.proofs.Keys.{with_here, with_there}
use Rattle.proof_parts.proofs.Retiming.{timed_then, becomes_so}
use Rattle.right_trace.specs.Trace.{Conf}

two_of_four : (octets : List ℕ) → u16_at (take 4 octets) 0 ≡ u16_at octets 0
two_of_four [] = refl
two_of_four (a ∷ []) = refl
two_of_four (a ∷ b ∷ more) = refl

pub same_id : (f : List ℕ) → message_id f ≡ id_in f
unfolding id_in
same_id f = two_of_four f

pub bad_short : (f : List ℕ) → nat_le 12 (length f) ≡ false → is_bad f ≡ true
unfolding is_bad
bad_short f e = short (length f) e
  where
    short : (n : ℕ) → nat_le 12 n ≡ false → nat_lt n 12 ≡ true
    short n e = grind (arith, nat_tests)

pub not_bad : (f : List ℕ) → nat_le 12 (length f) ≡ true → is_bad f ≡ false
unfolding is_bad
not_bad f e = long (length f) e
  where
    long : (n : ℕ) → nat_le 12 n ≡ true → nat_lt n 12 ≡ false
    long n e = grind (arith, nat_tests)

-- a list with something first, or none
is_none : {A : Type 0} (xs : List A) → (length xs == 0) ≡ true → xs ≡ []
is_none [] e = refl
is_none (x ∷ xs) e = absurd (zero_not (length xs) e)
  where
    zero_not : (n : ℕ) → (suc n == 0) ≡ true → ⊥
    zero_not n e = grind (arith, nat_tests)

none_held : (s : SingleLine) → has_nothing s ≡ true → (s.held.held ≡ []) × (s.queue ≡ [])
none_held s e = by (length s.held.held == 0) (length s.queue == 0) refl refl e
  where
    by : (a b : Bool) → (length s.held.held == 0) ≡ a → (length s.queue == 0) ≡ b → (a && b) ≡ true → (s.held.held ≡ []) × (s.queue ≡ [])
    by true true f g e = (is_none s.held.held f, is_none s.queue g)
    by true false f g e = absurd (cc)
    by false b f g e = absurd (cc)

module _ (c : Conf) (p : ℕ) (names : ℕ → Option ℕ) (m : Multi) (x : Conn) (s : SingleLine) (v : View) (line : IsLineAt c p names s m x (dues v) v.ticket) (fair : IsFair v) (settled : s.writing ≡ None → s.queue ≡ []) (f : Octets) where
  abbrev P : SingleLine → View → Type 0
  P t w = HasHeard c p names m x s v f t w

  abbrev id : ℕ
  id = id_in f

  abbrev idle : ℕ
  idle = told_idle (keepalive_of f) x.idle

  -- The frame freed its id: the rest of the step. `n` is the machine without the request that has its result, and w has it on the board.
  module _ (good : is_bad f ≡ false) (n : Multi) (act : multi.Act) (t : SingleLine) (w : View)
      (conns : n.conns ≡ m.conns) (opening : n.opening ≡ m.opening) (calm : n.calm ≡ m.calm) (fewer : (k : ℕ) (a : Asker) → n.asks k ≡ Some a → m.asks k ≡ Some a)
      (takes : (mode : Mode) → LeavesMode m p (framed f mode x) v.now mode → TakesFrame v.now p f m act (set_conn p (framed f mode x) n))
      (gave : (next : Multi) (u : View) → next.asks ≡ n.asks → u.board ≡ w.board → Gave names m next v u act)
      (seated : AreSeated p names (seats_of t n.asks (with_at id None x.ids)))
      (fits : LineFits c t (framed f (Active v.now) x) (dues w) w.ticket) (timed : IsTimed s.stage t.stage v w) (outs : w.outs ≡ v.outs) (ticket : w.ticket ≡ v.ticket) (place : w.place ≡ v.place) (more : w.more ≡ v.more)
      (same_writing : t.writing ≡ s.writing) (same_queue : t.queue ≡ s.queue) where
    same_conns : (mode : Mode) (q : ℕ) → (p ≡ q → ⊥) → (set_conn p (framed f mode x) n).conns q ≡ m.conns q
    same_conns mode q ne = with_there p (Some (framed f mode x)) n.conns q ne ∙ ap (λ (g : ℕ → Option Conn). g q) conns

    here : (mode : Mode) → (set_conn p (framed f mode x) n).conns p ≡ Some (framed f mode x)
    here mode = with_here p (Some (framed f mode x)) n.conns

    -- somebody is still waited for
    someone : (es : List (ℕ × Holder Request Request)) → t.held.held ≡ es → (qs : List (ℕ × QueuedRequest Request Request)) → t.queue ≡ qs → has_nothing t ≡ false → StaysActive m p (framed f (Active v.now) x)
    someone (e ∷ es) is qs is_queue nothing = by (seated.at_id e.0)
      where
        at : entry_at e.0 t.held.held ≡ Some e.1
        at = ap (entry_at e.0) is ∙ at_first e.0 e.1 es

        by : IdFits p names (seats_of t n.asks (with_at id None x.ids)) e.0 → StaysActive m p (framed f (Active v.now) x)
        by (IsFree h wr) = absurd (let z = sym h ∙ at in cc)
        by (IsHeld i k r y h wr rq nm is sent) = SomeIdHeld e.0 y wr
        by (WasGivenUp y h wr absent) = SomeIdHeld e.0 y wr
    someone [] is (q ∷ qs) is_queue nothing =
        let z = seated.queued q.0 q.1 (ap (entry_at q.0) is_queue ∙ at_first q.0 q.1 qs) in
        SomeoneLined z.0 z.2.ask (fewer z.0 z.2.ask z.2.is) z.2.phase (unwritten fits.writing)
      where
        unwritten : WritingFits t.writing x.left → 0 < x.left
        unwritten (lines.IsWriting octets g h lt) = lt
        unwritten (lines.IsFree g h) = absurd (let a = sym is_queue ∙ (same_queue ∙ settled (sym same_writing ∙ g)) in cc)
    someone [] is [] is_queue nothing = absurd (let a = sym (ap (λ (l : List (ℕ × Holder Request Request)). (length l == 0) && (length t.queue == 0)) is ∙ ap (λ (l : List (ℕ × QueuedRequest Request Request)). (length l == 0)) is_queue) ∙ nothing in cc)

    goes_on : has_nothing t ≡ false → P t w
    goes_on nothing = record {
      left = StaysOpen act (set_conn p (framed f (Active v.now) x) n) (framed f (Active v.now) x) (takes (Active v.now) (multi.Stays (someone t.held.held refl t.queue refl nothing))) (gave (set_conn p (framed f (Active v.now) x) n) w refl refl) outs
          (record { conn = here (Active v.now); seated = seated; fits = fits }) (λ e. same_queue ∙ settled (sym same_writing ∙ e)) refl refl (same_conns (Active v.now)) opening calm;
      timed = timed;
      ticket = ticket;
      at_place = place;
      more = more;
    }

    -- nobody is
    nobody : t.held.held ≡ [] → (d : ℕ) → with_at id None x.ids d ≡ None
    nobody none d = by (seated.at_id d)
      where
        at : entry_at d t.held.held ≡ None
        at = ap (entry_at d) none

        by : IdFits p names (seats_of t n.asks (with_at id None x.ids)) d → with_at id None x.ids d ≡ None
        by (IsFree h wr) = wr
        by (IsHeld i k r y h wr rq nm is sent) = absurd (let z = sym at ∙ h in cc)
        by (WasGivenUp y h wr absent) = absurd (let z = sym at ∙ h in cc)

    is_idle : t.held.held ≡ [] → LeavesMode m p (framed f (Idle v.now) x) v.now (Idle v.now)
    is_idle none = multi.Rests (nobody none)

    rests_so : t.held.held ≡ [] → t.queue ≡ [] → (t.idle_time == 0) ≡ false → Leads P (becomes_idle t w)
    rests_so none queue idle_some = becomes_so P at.Idle (w.now + t.idle_time) t w timed.on.fair (later w.now t.idle_time idle_some) (λ u r. record {
      left = StaysOpen act (set_conn p (framed f (Idle v.now) x) n) (framed f (Idle v.now) x) (takes (Idle v.now) (is_idle none)) (gave (set_conn p (framed f (Idle v.now) x) n) u refl r.alike.board) (r.alike.outs ∙ outs)
          (record {
            conn = here (Idle v.now);
            seated = seated;
            fits = record {
              stage = lines.IsIdle w.timers.next v.now refl refl (r.here ∙ ap (λ n. Some (n + t.idle_time)) timed.on.now);
              writing = fits.writing;
              idle = fits.idle;
              timeout = fits.timeout;
              resting = λ ne. none;
              order = fits.order;
              few = fits.few;
              ids = subst (λ n. Sorted 0 n t.ids) (sym r.alike.ticket) fits.ids;
              queue = subst (λ n. Sorted 0 n t.queue) (sym r.alike.ticket) fits.queue;
            };
          })
          (λ e. queue) refl refl (same_conns (Idle v.now)) opening calm;
      timed = timed_then s.stage t.stage (at.Idle w.timers.next) v w u fair timed (record { on = r.on; owned = λ i e. inr (own i e); others = r.others });
      ticket = r.alike.ticket ∙ ticket;
      at_place = r.alike.place ∙ place;
      more = r.alike.more ∙ more;
    })
      where
        later : (n i : ℕ) → (i == 0) ≡ false → n < n + i
        later n i e = grind (arith, nat_tests)

        own : (i : ℕ) → Some w.timers.next ≡ Some i → w.timers.next ≤ i
        own i e = let g : w.timers.next ≡ i = cc in omega arith

    closes_so : t.held.held ≡ [] → t.queue ≡ [] → (t.idle_time == 0) ≡ true → P (ends_with p errors.StreamReceiveError t w).0 (ends_with p errors.StreamReceiveError t w).1
    closes_so none queue idle_none = record {
      left = ClosesBehind act (set_conn p (framed f (Idle v.now) x) n) (framed f (Idle v.now) x) (takes (Idle v.now) (is_idle none)) (gave (set_conn p (framed f (Idle v.now) x) n) (ends_with p errors.StreamReceiveError t w).1 refl board)
          (e.outs ∙ ap (λ os. os ++ Close p ∷ []) outs) (here (Idle v.now)) refl (sym fits.idle ∙ same t.idle_time idle_none)
          (λ k a g h. (let l = seated.lined k a g h in let z = sym (ap (entry_at l.0) queue) ∙ l.3 in cc))
          (λ k a d g h. (let l = seated.holding k a d g h in let z = sym (ap (entry_at d) none) ∙ l.3 in cc))
          refl (same_conns (Idle v.now)) opening calm;
      timed = timed_then s.stage t.stage at.Ended v w (ends_with p errors.StreamReceiveError t w).1 fair timed e.timed;
      ticket = e.ticket ∙ ticket;
      at_place = e.at_place ∙ place;
      more = e.more ∙ more;
    }
      where
        e : HasEnded p names n t w (ends_with p errors.StreamReceiveError t w).1
        e = ends_so p names n (with_at id None x.ids) t w seated fits.order.sorted fits.queue timed.on.fair errors.StreamReceiveError (λ e. cc)

        same : (n : ℕ) → (n == 0) ≡ true → n ≡ 0
        same n e = grind (arith, nat_tests)

        stopped : (own : LineStage) → (drops_own_timer own (asks (Close p) w)).board ≡ w.board
        stopped at.New = refl
        stopped (at.Active timer since) = refl
        stopped (at.Idle timer) = refl
        stopped at.Ended = refl

        board : (ends_with p errors.StreamReceiveError t w).1.board ≡ w.board
        board = ap (λ (q : List (ℕ × QueuedRequest Request Request)). fails_queued q (fails_holders errors.StreamReceiveError (items_of t.held) (drops_own_timer t.stage (asks (Close p) w)).board)) queue
            ∙ (ap (λ (h : List (ℕ × Holder Request Request)). fails_holders errors.StreamReceiveError (map (λ e. e.1) h) (drops_own_timer t.stage (asks (Close p) w)).board) none ∙ stopped t.stage)

    pub settles_so : Leads P (becomes_idle_if_unused p t w)
    settles_so = by (has_nothing t) (t.idle_time == 0) refl refl
      where
        by : (a b : Bool) → has_nothing t ≡ a → (t.idle_time == 0) ≡ b → Leads P (if a then (if b then ends p errors.StreamReceiveError t w else becomes_idle t w) else Some (t, w))
        by false b g h = goes_on g
        by true true g h = (let z = none_held t g in closes_so z.0 z.1 h)
        by true false g h = (let z = none_held t g in rests_so z.0 z.1 h)

-- A connection ends: who was queued or written there is to back off.
use Rattle.std.proofs.Common.{◌≡◌, ◌≢◌, ℕ, suc, ◌<◌, ◌≤◌, ◌⊎◌, inl, inr, Bool, true, false, cond, List, [], ◌∷◌, ◌++◌, map, Option, Some, None, is_eq, nat_cmp, refl, sym, ap, ◌∙◌, arith, append-nil, append_assoc}
use Rattle.std.specs.Prelude.{if◌then◌else◌, ◌==◌, Err}
use Rattle.std.proofs.lemmas.Bool.Decides.{nat_tests}
use Rattle.client_request.specs.Numbered.{entry_at}
use Rattle.client_request.specs.Request.{Request}
use Rattle.client_request.specs.Timers.{cancelled}
use Rattle.client_request.specs.View.{View, asks}
use Rattle.client_request.specs.declared.board.Posted.{Posted}
use Rattle.client_request.specs.declared.error.Error.{Error}
use Rattle.client_request.specs.declared.error.Error.TheVariants as errors
use Rattle.client_request.specs.declared.event.Out.TheVariants.{Close}
use Rattle.client_stream.specs.Plain.{fails_holder, fails_holders, fails_queued, fails_all, drops_own_timer, ends_with}
use Rattle.client_stream.specs.declared.request.Holder.{Holder}
use Rattle.client_stream.specs.declared.request.Holder.TheVariants.{Waits, GivenUp}
use Rattle.client_stream.specs.declared.request.QueuedRequest.{QueuedRequest}
use Rattle.client_stream.specs.declared.line.LineStage.{LineStage}
use Rattle.client_stream.specs.declared.line.LineStage.TheVariants as at
use Rattle.right_trace.specs.Writes.{Written}
use Rattle.proof_right.specs.machine.Streams.{Lined, Holding, Broken, Asker, Multi, moved, broken_at, every, end_at}
use Rattle.proof_parts.specs.Connections.{timer_of, dues, IsTimed, IsPostedTo, HasEnded}
use Rattle.proof_parts.specs.Lines.{SingleLine, Sorted, seats_of}
use Rattle.proof_parts.specs.Runs.{AreFailing}
use Rattle.proof_parts.specs.Seats.{Seats, IsSent, IsLined, IdFits, IsFree, IsHeld, WasGivenUp, AreSeated}
use Rattle.proof_parts.specs.Sights.{IsFair}
use Rattle.proof_parts.proofs.FirstKeys.{at_first}
use Rattle.proof_parts.proofs.GoingOn.{goes_nowhere, goes_without, dues_without}
use Rattle.proof_parts.proofs.Keys.{with_there}
use Rattle.proof_parts.proofs.Pumping.{posted_first, posted_last}
use Rattle.proof_parts.proofs.Retiming.{timed_by}
use Rattle.proof_parts.proofs.Running.{failing_both}

-- each of these is what the table has at its key
abbrev AreEntries : {A : Type 0} → (ℕ → Option A) → List (ℕ × A) → Type 0
AreEntries f [] = Unit {0}
AreEntries f (e ∷ es) = (f e.0 ≡ Some e.1) × AreEntries f es

module _ {A : Type 0} where
  behind_other : (k lo q hi : ℕ) (v : A) (f : ℕ → Option A) (es : List (ℕ × A)) → k < lo → Sorted lo hi es → AreEntries f es → AreEntries (λ j. cond (is_eq (nat_cmp j k)) (Some v) (f j)) es
  behind_other k lo q hi v f [] lt r a = tt
  behind_other k lo q hi v f (e ∷ es) lt r a = (ap (λ b. cond b (Some v) (f e.0)) (other e.0 k (above e.0 r.0)) ∙ a.0, behind_other k (suc e.0) q hi v f es (further e.0 r.0) r.2 a.1)
    where
      above : (x : ℕ) → lo ≤ x → k < x
      above x le = omega arith

      further : (x : ℕ) → lo ≤ x → k < suc x
      further x le = omega arith

      other : (x k : ℕ) → k < x → is_eq (nat_cmp x k) ≡ false
      other x k lt = grind (arith, nat_tests)

  all_entries : (lo hi : ℕ) (es : List (ℕ × A)) → Sorted lo hi es → AreEntries (λ j. entry_at j es) es
  all_entries lo hi [] r = tt
  all_entries lo hi (e ∷ es) r = (at_first e.0 e.1 es, behind_other e.0 (suc e.0) 0 hi e.1 (λ j. entry_at j es) es (over e.0) r.2 (all_entries (suc e.0) hi es r.2))
    where
      over : (x : ℕ) → x < suc x
      over x = omega arith

-- posts for some, behind a board
record Fails (names : ℕ → Option ℕ) (asks : ℕ → Option Asker) (board after : List Posted) (Has : ℕ → Type 0) : Type 0 where
  posts : List Posted
  put : after ≡ board ++ posts
  failing : AreFailing names asks posts
  reached : (i : ℕ) → Has i → IsPostedTo i posts

-- the first entry, or one behind it
first_or_behind : {A : Type 0} (k q : ℕ) (v u : A) (o : Option A) → cond (is_eq (nat_cmp q k)) (Some v) o ≡ Some u → ((k ≡ q) × (v ≡ u)) ⊎ (o ≡ Some u)
first_or_behind k q v u o e = by (is_eq (nat_cmp q k)) refl e
  where
    same : (q k : ℕ) (b : Bool) → is_eq (nat_cmp q k) ≡ b → b ≡ true → k ≡ q
    same q k b e t = grind (arith, nat_tests)

    by : (b : Bool) → is_eq (nat_cmp q k) ≡ b → cond b (Some v) o ≡ Some u → ((k ≡ q) × (v ≡ u)) ⊎ (o ≡ Some u)
    by true f e = inl (same q k true f refl, cc)
    by false f e = inr e

module _ (p : ℕ) (names : ℕ → Option ℕ) (m : Multi) (x : Seats) (is_asks : x.asks ≡ m.asks) (seated : AreSeated p names x) where
  same_place : (p == p) ≡ true
  same_place = test p
    where
      test : (n : ℕ) → (n == n) ≡ true
      test n = grind (arith, nat_tests)

  -- who was there is broken
  lined_breaks : (k : ℕ) (w : QueuedRequest Request Request) → IsLined p k w x.asks → (a : Asker) × ((end_at p m).asks k ≡ Some a) × (a.phase ≡ Broken)
  lined_breaks k w l = (
    moved l.ask Broken,
    ap (every (broken_at p)) (sym (ap (λ (f : ℕ → Option Asker). f k) is_asks) ∙ l.is) ∙ ap (λ ph. Some (moved l.ask ph)) (ap (broken_at p) l.phase ∙ ap (λ b. if b then Broken else Lined p) same_place),
    refl,
  )

  sent_breaks : (k id : ℕ) (w : Request) → IsSent p id k w x.asks → (a : Asker) × ((end_at p m).asks k ≡ Some a) × (a.phase ≡ Broken)
  sent_breaks k id w l = (
    moved l.ask Broken,
    ap (every (broken_at p)) (sym (ap (λ (f : ℕ → Option Asker). f k) is_asks) ∙ l.is) ∙ ap (λ ph. Some (moved l.ask ph)) (ap (broken_at p) l.phase ∙ ap (λ b. if b then Broken else Holding p id) same_place),
    refl,
  )

  -- who holds an id waits, or gave up
  data HolderIs (id : ℕ) (h : Holder Request Request) : Type 0 where
    IsWaiter : (i k : ℕ) (w : Request) → h ≡ Waits i w → names i ≡ Some k → IsSent p id k w x.asks → HolderIs id h
    IsGone : h ≡ GivenUp → HolderIs id h

  holder_is : (id : ℕ) (h : Holder Request Request) → x.held id ≡ Some h → IdFits p names x id → HolderIs id h
  holder_is id h e (IsFree f wr) = absurd (let z = sym f ∙ e in cc)
  holder_is id h e (WasGivenUp y f wr absent) = IsGone (let z : Some h ≡ Some GivenUp = sym e ∙ f in cc)
  holder_is id h e (IsHeld i k w y f wr rq nm is sent) = IsWaiter i k w (let z : Some h ≡ Some (Waits i w) = sym e ∙ f in cc) nm sent

  abbrev HasHolder : List (ℕ × Holder Request Request) → ℕ → Type 0
  HasHolder es i = (id : ℕ) × (w : Request) × (entry_at id es ≡ Some (Waits i w))

  abbrev HoldersFail : Error → List (ℕ × Holder Request Request) → List Posted → Type 0
  HoldersFail error es board = Fails names (end_at p m).asks board (fails_holders error (map (λ e. e.1) es) board) (HasHolder es)

  holder_fails : (error : Error) → error ≢ errors.WrongReplyForQuery → (e : ℕ × Holder Request Request) (es : List (ℕ × Holder Request Request)) (board : List Posted) → HolderIs e.0 e.1 → ((board : List Posted) → HoldersFail error es board) → HoldersFail error (e ∷ es) board
  holder_fails error right e es board (IsGone is) ih =
      let rest = ih board in
      record {
        posts = rest.posts;
        put = ap (λ h. fails_holders error (map (λ e. e.1) es) (fails_holder error board h)) is ∙ rest.put;
        failing = rest.failing;
        reached = λ i h. elim (first_or_behind e.0 h.0 e.1 (Waits i h.1) (entry_at h.0 es) h.2) [
          | inl f ↦ absurd (let z : GivenUp ≡ Waits i h.1 = sym is ∙ f.1 in cc)
          | inr f ↦ rest.reached i (h.0, h.1, f)
        ];
      }
  holder_fails error right e es board (IsWaiter j k w is nm sent) ih =
      let rest = ih (board ++ record { ticket = j; part = Err error; is_stale = false } ∷ []) in
      let b = sent_breaks k e.0 w sent in
      record {
        posts = record { ticket = j; part = Err error; is_stale = false } ∷ rest.posts;
        put = ap (λ h. fails_holders error (map (λ e. e.1) es) (fails_holder error board h)) is ∙ (rest.put ∙ append_assoc board (record { ticket = j; part = Err error; is_stale = false } ∷ []) rest.posts);
        failing = ((error, refl, right), (k, b.0, nm, b.1, b.2), rest.failing);
        reached = λ i h. elim (first_or_behind e.0 h.0 e.1 (Waits i h.1) (entry_at h.0 es) h.2) [
          | inl f ↦ inl (let z : Waits j w ≡ Waits i h.1 = sym is ∙ f.1 in cc)
          | inr f ↦ inr (rest.reached i (h.0, h.1, f))
        ];
      }

  holders_fail : (error : Error) → error ≢ errors.WrongReplyForQuery → (es : List (ℕ × Holder Request Request)) → AreEntries x.held es → (board : List Posted) → HoldersFail error es board
  holders_fail error right [] a board = record { posts = []; put = sym (append-nil board); failing = tt; reached = λ i h. (let z = h.2 in cc) }
  holders_fail error right (e ∷ es) a board = holder_fails error right e es board (holder_is e.0 e.1 a.0 (seated.at_id e.0)) (holders_fail error right es a.1)

  abbrev HasQueued : List (ℕ × QueuedRequest Request Request) → ℕ → Type 0
  HasQueued es i = (w : QueuedRequest Request Request) × (entry_at i es ≡ Some w)

  queued_fail : (es : List (ℕ × QueuedRequest Request Request)) → AreEntries x.queue es → (board : List Posted) → Fails names (end_at p m).asks board (fails_queued es board) (HasQueued es)
  queued_fail [] a board = record { posts = []; put = sym (append-nil board); failing = tt; reached = λ i h. (let z = h.1 in cc) }
  queued_fail (e ∷ es) a board =
      let rest = queued_fail es a.1 (board ++ record { ticket = e.0; part = Err errors.StreamReceiveError; is_stale = false } ∷ []) in
      let q = seated.queued e.0 e.1 a.0 in
      let b = lined_breaks q.0 e.1 q.2 in
      record {
        posts = record { ticket = e.0; part = Err errors.StreamReceiveError; is_stale = false } ∷ rest.posts;
        put = rest.put ∙ append_assoc board (record { ticket = e.0; part = Err errors.StreamReceiveError; is_stale = false } ∷ []) rest.posts;
        failing = ((errors.StreamReceiveError, refl, λ e. cc), (q.0, b.0, q.1, b.1, b.2), rest.failing);
        reached = λ i h. elim (first_or_behind e.0 i e.1 h.0 (entry_at i es) h.1) [ inl f ↦ inl f.0 | inr f ↦ inr (rest.reached i (h.0, f)) ];
      }

-- The connection at p ends.
module _ (p : ℕ) (names : ℕ → Option ℕ) (m : Multi) (written : ℕ → Option Written) (s : SingleLine) (v : View) (seated : AreSeated p names (seats_of s m.asks written)) (order : Sorted 0 s.held.mark s.held.held) (queue : Sorted 0 v.ticket s.queue) (fair : IsFair v) (error : Error) (right : error ≢ errors.WrongReplyForQuery) where
  -- the view once its timer is dropped
  stopped : (own : LineStage) → IsTimed own at.Ended v (drops_own_timer own (asks (Close p) v))
  stopped at.New = plain at.New
    where
      plain : (own : LineStage) → IsTimed own at.Ended v (asks (Close p) v)
      plain own = timed_by own at.Ended v v (asks (Close p) v) refl refl refl refl refl (record { on = goes_nowhere v fair; owned = λ i e. absurd (cc); others = λ i due n e. e })
  stopped (at.Active timer since) = dropped timer (at.Active timer since) refl
    where
      dropped : (timer : ℕ) (own : LineStage) → timer_of own ≡ Some timer → IsTimed own at.Ended v (record (asks (Close p) v) { timers = cancelled timer v.timers })
      dropped timer own t = timed_by own at.Ended v (record v { timers = cancelled timer v.timers }) (record (asks (Close p) v) { timers = cancelled timer v.timers }) refl refl refl refl refl
          (record { on = goes_without v timer fair; owned = λ i e. absurd (cc); others = λ i due n e. dues_without v timer i fair ∙ (with_there timer None (dues v) i (λ same. n (t ∙ ap Some same)) ∙ e) })
  stopped (at.Idle timer) = dropped timer (at.Idle timer) refl
    where
      dropped : (timer : ℕ) (own : LineStage) → timer_of own ≡ Some timer → IsTimed own at.Ended v (record (asks (Close p) v) { timers = cancelled timer v.timers })
      dropped timer own t = timed_by own at.Ended v (record v { timers = cancelled timer v.timers }) (record (asks (Close p) v) { timers = cancelled timer v.timers }) refl refl refl refl refl
          (record { on = goes_without v timer fair; owned = λ i e. absurd (cc); others = λ i due n e. dues_without v timer i fair ∙ (with_there timer None (dues v) i (λ same. n (t ∙ ap Some same)) ∙ e) })
  stopped at.Ended = timed_by at.Ended at.Ended v v (asks (Close p) v) refl refl refl refl refl (record { on = goes_nowhere v fair; owned = λ i e. absurd (cc); others = λ i due n e. e })

  board_of : (own : LineStage) → (drops_own_timer own (asks (Close p) v)).board ≡ v.board
  board_of at.New = refl
  board_of (at.Active timer since) = refl
  board_of (at.Idle timer) = refl
  board_of at.Ended = refl

  outs_of : (own : LineStage) → (drops_own_timer own (asks (Close p) v)).outs ≡ v.outs ++ Close p ∷ []
  outs_of at.New = refl
  outs_of (at.Active timer since) = refl
  outs_of (at.Idle timer) = refl
  outs_of at.Ended = refl

  more_of : (own : LineStage) → (drops_own_timer own (asks (Close p) v)).more ≡ v.more
  more_of at.New = refl
  more_of (at.Active timer since) = refl
  more_of (at.Idle timer) = refl
  more_of at.Ended = refl

  ticket_of : (own : LineStage) → (drops_own_timer own (asks (Close p) v)).ticket ≡ v.ticket
  ticket_of at.New = refl
  ticket_of (at.Active timer since) = refl
  ticket_of (at.Idle timer) = refl
  ticket_of at.Ended = refl

  place_of : (own : LineStage) → (drops_own_timer own (asks (Close p) v)).place ≡ v.place
  place_of at.New = refl
  place_of (at.Active timer since) = refl
  place_of (at.Idle timer) = refl
  place_of at.Ended = refl

  pub ends_so : HasEnded p names m s v (ends_with p error s v).1
  ends_so =
      let u : View = drops_own_timer s.stage (asks (Close p) v) in
      let h = holders_fail p names m (seats_of s m.asks written) refl seated error right s.held.held (all_entries 0 s.held.mark s.held.held order) u.board in
      let q = queued_fail p names m (seats_of s m.asks written) refl seated s.queue (all_entries 0 v.ticket s.queue queue) (fails_holders error (map (λ e. e.1) s.held.held) u.board) in
      record {
        outs = outs_of s.stage;
        posts = h.posts ++ q.posts;
        put = q.put ∙ (ap (λ (b : List Posted). b ++ q.posts) h.put ∙ (append_assoc u.board h.posts q.posts ∙ ap (λ (b : List Posted). b ++ (h.posts ++ q.posts)) (board_of s.stage)));
        failing = failing_both names (end_at p m).asks h.posts q.posts h.failing q.failing;
        seats = λ i at. elim at [
          | inl e ↦ posted_last i h.posts q.posts (q.reached i e)
          | inr e ↦ (let t = seated.by_ticket i e.0 e.1 in posted_first i h.posts q.posts (h.reached i (e.0, t.0, t.1)))
        ];
        timed = timed_by s.stage at.Ended v u (fails_all error s u) refl refl refl refl refl (stopped s.stage);
        ticket = ticket_of s.stage;
        at_place = place_of s.stage;
        more = more_of s.stage;
      }

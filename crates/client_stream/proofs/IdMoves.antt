-- What each step of a connection does to an id: it stays held, and is written only where it was free.
use Rattle.std.proofs.Common.{◌≡◌, ℕ, ◌+◌, ◌<◌, ◌≤◌, Bool, true, false, Option, Some, None, List, [], ◌∷◌, ◌++◌, Result, Ok, Err, length, drop, refl, sym, ◌∙◌, ap, subst, arith}
use Rattle.std.specs.Prelude.{if◌then◌else◌, ◌==◌, ◌&&◌, ◌||◌, not, nat_lt, nat_le, option_and_then, IfSome, is_some}
use Rattle.std.proofs.lemmas.Bool.Decides.{nat_tests}
use Rattle.client_request.specs.Numbered.{puts, frees, entry_at}
use Rattle.client_request.specs.Requests.{Requests}
use Rattle.client_request.specs.View.{View, Heard, told, more_at, due_timer, sets_timer, draws_ticket, answers, asks}
use Rattle.client_request.specs.Timers.{can_draw, with_timer}
use Rattle.client_request.specs.declared.error.Error.{Error}
use Rattle.client_request.specs.declared.error.Error.TheVariants as errors
use Rattle.client_request.specs.declared.fault.Fault.TheVariants as fault
use Rattle.client_request.specs.declared.event.Out.{Out}
use Rattle.client_request.specs.declared.event.Out.TheVariants.{Write, Resume, Close}
use Rattle.client_request.specs.declared.event.What.{What}
use Rattle.client_request.specs.declared.event.What.TheVariants as what
use Rattle.client_transfer.specs.States.{checked}
use Rattle.client_transfer.specs.Transfers.{part_given}
use Rattle.client_transfer.specs.declared.state.XfrState.{XfrState}
use Rattle.client_stream.specs.Frames.{first_frame, behind_frame, has_frame}
use Rattle.client_stream.specs.IdTable.{IdTable, next_id, inserted, inserted_at, removed}
use Rattle.client_stream.specs.Ids.{frame_heard, Act, asks_for, hears_of, gives_up_on, is_write, writes_of, writes_id, has_id, frame_told, frame_taken_by, is_held, open_after, does, WritesFreeIds, IdsLaw}
use Rattle.client_stream.specs.Plain as plain
use Rattle.client_stream.specs.Plain.{Line, Stream, After, AfterAll, has_ended, message_id, started}
use Rattle.client_settings.specs.Stream.{Settings}
use Rattle.client_stream.specs.declared.request.AnyRequest.{AnyRequest}
use Rattle.client_stream.specs.declared.request.AnyRequest.TheVariants.{Single, Transfer}
use Rattle.client_stream.specs.declared.request.QueuedRequest.{QueuedRequest}
use Rattle.client_stream.specs.declared.request.Holder.{Holder}
use Rattle.client_stream.specs.declared.request.Holder.TheVariants.{Waits, Transfers, GivenUp}
use Rattle.client_stream.specs.declared.line.LineStage.{LineStage}
use Rattle.client_stream.specs.declared.line.LineStage.TheVariants as stage
use Rattle.client_stream.proofs.HeldIds.{holds, IsTable, still_held, now_held, held_apart, held_over, next_free, table_new, table_inserted, table_removed, table_over}

writes_append : (place id : ℕ) (a : List Out) (out : Out) → writes_of place id (a ++ out ∷ []) ≡ writes_of place id a + (if is_write place id out then 1 else 0)
writes_append place id [] out = omega arith
writes_append place id (x ∷ a) out = let ih = writes_append place id a out in omega arith

set_outs : (due : ℕ) (u w : View) → sets_timer due u ≡ Some w → w.outs ≡ u.outs
set_outs due u w e = go (can_draw u.timers.next) refl
  where
    go : (b : Bool) → can_draw u.timers.next ≡ b → w.outs ≡ u.outs
    go true h = let x : sets_timer due u ≡ Some (record u { timers = with_timer due u.timers }) = rw h refl in let is : w ≡ record u { timers = with_timer due u.timers } = cc in ap (λ w. w.outs) is
    go false h = absurd (let x : sets_timer due u ≡ None = rw h refl in cc)

ticket_outs : (v w : View) → draws_ticket v ≡ Some w → w.outs ≡ v.outs
ticket_outs v w e = go (can_draw v.ticket) refl
  where
    go : (b : Bool) → can_draw v.ticket ≡ b → w.outs ≡ v.outs
    go true h = let x : draws_ticket v ≡ Some (record v { ticket = v.ticket + 1 }) = rw h refl in let is : w ≡ record v { ticket = v.ticket + 1 } = cc in ap (λ w. w.outs) is
    go false h = absurd (let x : draws_ticket v ≡ None = rw h refl in cc)

stop_outs : (at : LineStage) (v : View) → (plain.drops_own_timer at v).outs ≡ v.outs
stop_outs stage.New v = refl
stop_outs (stage.Active timer since) v = refl
stop_outs (stage.Idle timer) v = refl
stop_outs stage.Ended v = refl

module _ (place id : ℕ) where
  abbrev written : View → ℕ
  written v = writes_of place id v.outs

module _ {R M : Type 0} (place id : ℕ) where
  -- Nothing is freed: what is held stays held and is not written, and what is written place id is held.
  record Keeps (t : IdTable (Holder R M)) (w : ℕ) (t' : IdTable (Holder R M)) (w' : ℕ) : Type 0 where
    table : IsTable t → IsTable t'
    grows : w ≤ w'
    held : IsTable t → holds id t ≡ true → (holds id t' ≡ true) × (w' ≡ w)
    wrote : IsTable t → w < w' → holds id t' ≡ true

  same : (t t' : IdTable (Holder R M)) (w w' : ℕ) → t' ≡ t → w' ≡ w → Keeps t w t' w'
  same t t' w w' h o = record {
    table = λ k. subst (λ t. IsTable t) (sym h) k;
    grows = omega arith;
    held = λ k x. (ap (holds id) h ∙ x, o);
    wrote = λ k l. absurd (omega arith);
  }

  later : (t t' t'' : IdTable (Holder R M)) (w w' w'' : ℕ) → Keeps t w t' w' → Keeps t' w' t'' w'' → IsTable t → w < w'' → (c : Bool) → nat_lt w' w'' ≡ c → holds id t'' ≡ true
  later t t' t'' w w' w'' a b k l true e = b.wrote (a.table k) (grind (arith, nat_tests))
  later t t' t'' w w' w'' a b k l false e =
      let g = b.grows in
      let first : w < w' = grind (arith, nat_tests) in
      (b.held (a.table k) (a.wrote k first)).0

  then_keeps : (t t' t'' : IdTable (Holder R M)) (w w' w'' : ℕ) → Keeps t w t' w' → Keeps t' w' t'' w'' → Keeps t w t'' w''
  then_keeps t t' t'' w w' w'' a b = record {
    table = λ k. b.table (a.table k);
    grows = (let p = a.grows in let q = b.grows in omega arith);
    held = λ k x. (let p = a.held k x in let q = b.held (a.table k) p.0 in (q.0, q.1 ∙ p.1));
    wrote = λ k l. later t t' t'' w w' w'' a b k l (nat_lt w' w'') refl;
  }

  -- after a step that may have no result
  abbrev KeepsAll : IdTable (Holder R M) → ℕ → After R M → Type 0
  KeepsAll t w after = IfSome after (λ x. Keeps t w x.0.held (written place id x.1))

  go_on : (t : IdTable (Holder R M)) (w : ℕ) (s' : Line R M) (v' : View) (r : After R M) → Keeps t w s'.held (written place id v') → KeepsAll s'.held (written place id v') r → KeepsAll t w r
  go_on t w s' v' None a k = tt
  go_on t w s' v' (Some y) a k = then_keeps t s'.held y.0.held w (written place id v') (written place id y.1) a k

  chain : (t : IdTable (Holder R M)) (w : ℕ) (after : After R M) (f : Line R M → View → After R M) → KeepsAll t w after → ((s' : Line R M) (v' : View) → KeepsAll s'.held (written place id v') (f s' v'))
      → KeepsAll t w (option_and_then (λ x. f x.0 x.1) after)
  chain t w None f a b = tt
  chain t w (Some x) f a b = go_on t w x.0 x.1 (f x.0 x.1) a (b x.0 x.1)

  timed : (to : LineStage) (s : Line R M) (v : View) (o : Option View) → ((w : View) → o ≡ Some w → w.outs ≡ v.outs) → KeepsAll s.held (written place id v) (option_and_then (λ w. Some (record s { stage = to }, w)) o)
  timed to s v None h = tt
  timed to s v (Some w) h = same s.held s.held (written place id v) (written place id w) refl (ap (writes_of place id) (h w refl))

  becomes : (to : ℕ → LineStage) (due : ℕ) (s : Line R M) (v : View) → KeepsAll s.held (written place id v) (plain.becomes to due s v)
  becomes to due s v = timed (to v.timers.next) s v (sets_timer due (plain.drops_own_timer s.stage v)) (λ w e. set_outs due (plain.drops_own_timer s.stage v) w e ∙ stop_outs s.stage v)

  stays : (s : Line R M) (v : View) → KeepsAll s.held (written place id v) (Some (s, v))
  stays s v = same s.held s.held (written place id v) (written place id v) refl refl

  waits_from : (since : ℕ) (s : Line R M) (v : View) → KeepsAll s.held (written place id v) (plain.awaits_frame_since since s v)
  waits_from since s v = becomes (λ timer. stage.Active timer since) (since + s.timeout + 1) s v

  wakes : (timeout : ℕ) (s : Line R M) (v : View) (at : LineStage) → KeepsAll s.held (written place id v) (plain.becomes_active_for timeout s v at)
  wakes timeout s v stage.New = waits_from v.now (record s { timeout = timeout }) v
  wakes timeout s v (stage.Idle _) = waits_from v.now (record s { timeout = timeout }) v
  wakes timeout s v (stage.Active _ since) = go (timeout == s.timeout)
    where
      go : (b : Bool) → KeepsAll s.held (written place id v) (if b then Some (s, v) else plain.awaits_frame_since since (record s { timeout = timeout }) v)
      go true = stays s v
      go false = waits_from since (record s { timeout = timeout }) v
  wakes timeout s v stage.Ended = stays s v

  -- An id that is held is not the one that comes next.
  apart : (t : IdTable (Holder R M)) → IsTable t → holds id t ≡ true → (id == next_id t) ≡ false
  apart t k h = go (id == next_id t) refl
    where
      go : (b : Bool) → (id == next_id t) ≡ b → b ≡ false
      go false e = refl
      go true e = absurd (let is : id ≡ next_id t = grind (arith, nat_tests) in let free = next_free t k in let x : holds (next_id t) t ≡ true = subst (λ id. holds id t ≡ true) is h in cc)

  gives_id : (holder : Holder R M) (t : IdTable (Holder R M)) (w w' : ℕ) → w' ≡ w + (if place == place && id == next_id t then 1 else 0) → Keeps t w (inserted holder t) w'
  gives_id holder t w w' e = record {
    table = λ k. table_inserted holder t k;
    grows = omega arith;
    held = λ k h. (still_held id holder t h, (let a = apart t k h in e ∙ grind (arith, nat_tests)));
    wrote = λ k l. (let is : id ≡ next_id t = grind (arith, nat_tests) in subst (λ id. holds id (inserted holder t) ≡ true) (sym is) (now_held holder t));
  }

  frees_again : (holder : Holder R M) (t : IdTable (Holder R M)) (w w' : ℕ) → w' ≡ w → Keeps t w (removed (next_id t) (inserted holder t)) w'
  frees_again holder t w w' e = record {
    table = λ k. table_removed (next_id t) (inserted holder t) (table_inserted holder t k);
    grows = omega arith;
    held = λ k h. (held_apart id (next_id t) (inserted holder t) (apart t k h) ∙ still_held id holder t h, e);
    wrote = λ k l. absurd (omega arith);
  }

  module _ (one : Requests R) (several : Requests M) where
    writes : (ticket number : ℕ) (holder : Holder R M) (s : Line R M) (v : View) (o : Option (List ℕ))
        → let x = plain.writes one several place ticket number (next_id s.held) holder s v o in Keeps s.held (written place id v) x.0.held (written place id x.1)
    writes ticket number holder s v (Some octets) = gives_id holder s.held (written place id v) _ (writes_append place id v.outs (Write place number (next_id s.held) octets))
    writes ticket number holder s v None = frees_again GivenUp s.held (written place id v) (written place id v) refl

    module _ {T : Type 0} (requests : Requests T) (holding : T → Holder R M) where
      numbers : (ticket number : ℕ) (request : T) (s : Line R M) (v : View) (b : Bool)
          → let x = plain.takes_free_id one several place requests holding ticket number request s v (if b then None else Some (next_id s.held)) in Keeps s.held (written place id v) x.0.held (written place id x.1)
      numbers ticket number request s v true = same s.held s.held (written place id v) (written place id v) refl refl
      numbers ticket number request s v false = writes ticket number _ (record s { had_keepalive = _ }) v _

    begins : (ticket number : ℕ) (request : M) (s : Line R M) (v : View) (o : Result XfrState Error)
        → let x = plain.starts_transfer one several place ticket number request s v o in Keeps s.held (written place id v) x.0.held (written place id x.1)
    begins ticket number request s v (Err error) = same s.held s.held (written place id v) (written place id v) refl refl
    begins ticket number request s v (Ok state) = numbers several (λ r. Transfers ticket r state) ticket number request s v (length s.held.held == 32768)

    prepares : (ticket number : ℕ) (request : AnyRequest R M) (s : Line R M) (v : View)
        → let x = plain.prepares one several place ticket number request s v in Keeps s.held (written place id v) x.0.held (written place id x.1)
    prepares ticket number (Single request) s v = numbers one (λ r. Waits ticket r) ticket number request s v (length s.held.held == 32768)
    prepares ticket number (Transfer request) s v = begins ticket number request s v (plain.first_state (several.composed request))

    takes : (settings : Settings) (ticket : ℕ) (waiting : QueuedRequest R M) (s : Line R M) (v : View) → KeepsAll s.held (written place id v) (plain.takes_queued one several place settings ticket waiting s v)
    takes settings ticket waiting s v =
        let timeout = plain.timeout_by settings waiting.request in
        chain s.held (written place id v) (plain.becomes_active_for timeout s v s.stage) (λ s v. Some (plain.prepares one several place ticket waiting.number waiting.request s v)) (wakes timeout s v s.stage)
        (λ s v. prepares ticket waiting.number waiting.request s v)

    pumps : (settings : Settings) (queue : List (ℕ × QueuedRequest R M)) (s : Line R M) (v : View) → KeepsAll s.held (written place id v) (plain.pumps one several place settings queue s v)
    pumps settings [] s v = stays s v
    pumps settings (entry ∷ queue) s v = go (is_some s.writing) (λ s v. pumps settings queue s v)
      where
        go : (b : Bool) → ((s : Line R M) (v : View) → KeepsAll s.held (written place id v) (plain.pumps one several place settings queue s v))
            → KeepsAll s.held (written place id v) (if b then Some (s, v) else option_and_then (λ x. plain.pumps one several place settings queue x.0 x.1) (plain.takes_queued one several place settings entry.0 entry.1 (record s { queue = queue }) v))
        go true ih = stays s v
        go false ih = chain s.held (written place id v) (plain.takes_queued one several place settings entry.0 entry.1 (record s { queue = queue }) v) (λ s v. plain.pumps one several place settings queue s v) (takes settings entry.0 entry.1 (record s { queue = queue }) v) ih

    queues : (settings : Settings) (ticket : ℕ) (waiting : QueuedRequest R M) (s : Line R M) (v : View) → KeepsAll s.held (written place id v) (plain.queues one several place settings ticket waiting s v)
    queues settings ticket waiting s v = go (has_ended s.stage)
      where
        go : (b : Bool) → KeepsAll s.held (written place id v) (if b then Some (s, answers ticket (Err errors.ConnectionClosed) v) else plain.pumps one several place settings (puts ticket waiting s.queue) (record s { queue = puts ticket waiting s.queue }) v)
        go true = same s.held s.held (written place id v) (written place id v) refl refl
        go false = pumps settings (puts ticket waiting s.queue) (record s { queue = puts ticket waiting s.queue }) v

    takes_on : (settings : Settings) (request : AnyRequest R M) (s : Line R M) (v : View) → KeepsAll s.held (written place id v) (plain.takes_on one several place settings request s v)
    takes_on settings request s v = go (draws_ticket v) refl
      where
        go : (o : Option View) → draws_ticket v ≡ o → KeepsAll s.held (written place id v) (option_and_then (λ w. plain.queues one several place settings v.ticket (record { number = v.request; request = request }) s w) o)
        go None e = tt
        go (Some w) e = subst (λ n. KeepsAll s.held n (plain.queues one several place settings v.ticket (record { number = v.request; request = request }) s w)) (ap (writes_of place id) (ticket_outs v w e))
            (queues settings v.ticket (record { number = v.request; request = request }) s w)

    -- What one call does: an id that is held is not written, and stays held unless a frame with it was taken or the connection ended.
    record Steps (s : Line R M) (v : View) (frame : Option (List ℕ)) (s' : Line R M) (v' : View) : Type 0 where
      table : IsTable s.held → IsTable s'.held
      free : IsTable s.held → holds id s.held ≡ true → nat_lt (written place id v) (written place id v') ≡ false
      wrote : IsTable s.held → nat_lt (written place id v) (written place id v') ≡ true → has_ended s'.stage ≡ false → holds id s'.held ≡ true
      kept : IsTable s.held → holds id s.held ≡ true → has_id id frame ≡ false → has_ended s'.stage ≡ false → holds id s'.held ≡ true

    abbrev StepsAll : Line R M → View → Option (List ℕ) → After R M → Type 0
    StepsAll s v frame after = IfSome after (λ x. Steps s v frame x.0 x.1)

    kept_step : (s : Line R M) (v : View) (frame : Option (List ℕ)) (s' : Line R M) (v' : View) → Keeps s.held (written place id v) s'.held (written place id v') → Steps s v frame s' v'
    kept_step s v frame s' v' k = record {
      table = k.table;
      free = λ t h. (let e = (k.held t h).1 in grind (arith, nat_tests));
      wrote = λ t w e. k.wrote t (grind (arith, nat_tests));
      kept = λ t h f e. (k.held t h).0;
    }

    kept_steps : (s : Line R M) (v : View) (frame : Option (List ℕ)) (after : After R M) → KeepsAll s.held (written place id v) after → StepsAll s v frame after
    kept_steps s v frame None k = tt
    kept_steps s v frame (Some x) k = kept_step s v frame x.0 x.1 k

    -- Nothing is written by a frame or an end.
    quiet : (s : Line R M) (v : View) (frame : Option (List ℕ)) (s' : Line R M) (v' : View) → (IsTable s.held → IsTable s'.held) → written place id v' ≡ written place id v
        → (IsTable s.held → holds id s.held ≡ true → has_id id frame ≡ false → has_ended s'.stage ≡ false → holds id s'.held ≡ true) → Steps s v frame s' v'
    quiet s v frame s' v' t o k = record {
      table = t;
      free = λ a b. grind (arith, nat_tests);
      wrote = λ a w e. absurd (let no : nat_lt (written place id v) (written place id v') ≡ false = grind (arith, nat_tests) in cc);
      kept = k;
    }

    closed_writes : (v w : View) → w.outs ≡ v.outs ++ Close place ∷ [] → written place id w ≡ written place id v
    closed_writes v w e = ap (writes_of place id) e ∙ writes_append place id v.outs (Close place) ∙ (omega arith)

    ended_writes : (error : Error) (s : Line R M) (v : View) → written place id (plain.ends_with place error s v).1 ≡ written place id v
    ended_writes error s v = ap (writes_of place id) (stop_outs s.stage (asks (Close place) v)) ∙ closed_writes v (asks (Close place) v) refl

    ends : (error : Error) (s : Line R M) (v : View) (frame : Option (List ℕ)) → StepsAll s v frame (plain.ends place error s v)
    ends error s v frame = quiet s v frame (plain.ended s) _ (λ t. table_new) (ended_writes error s v) (λ t h f e. absurd (cc))

    -- An id is freed, or another holds it from then on; all else that is held stays held.
    record Passes (k : ℕ) (t t' : IdTable (Holder R M)) : Type 0 where
      table : IsTable t → IsTable t'
      kept : (id == k) ≡ false → holds id t ≡ true → holds id t' ≡ true

    freed : (k : ℕ) (t : IdTable (Holder R M)) → Passes k t (removed k t)
    freed k t = record { table = table_removed k t; kept = λ f h. held_apart id k t f ∙ h }

    again : (k : ℕ) (x y : Holder R M) (t : IdTable (Holder R M)) → entry_at k t.held ≡ Some y → Passes k t (inserted_at k x (removed k t))
    again k x y t e = record { table = λ table. table_over k x y t table e; kept = λ f h. held_over id k x t h }

    goes_on : (message : List ℕ) (ticket : ℕ) (request : M) (state : XfrState) (y : Holder R M) (s : Line R M) (v : View) → entry_at (message_id message) s.held.held ≡ Some y → (ends : Bool)
        → Passes (message_id message) s.held (plain.ends_or_holds_again message ticket request state (record s { held = removed (message_id message) s.held }) v ends).0.held
    goes_on message ticket request state y s v e true = freed (message_id message) s.held
    goes_on message ticket request state y s v e false = again (message_id message) (Transfers ticket request state) y s.held e

    goes_on_outs : (message : List ℕ) (ticket : ℕ) (request : M) (state : XfrState) (s : Line R M) (v : View) (ends : Bool) → (plain.ends_or_holds_again message ticket request state s v ends).1.outs ≡ v.outs
    goes_on_outs message ticket request state s v true = refl
    goes_on_outs message ticket request state s v false = refl

    -- Once the id of a frame is free, what is given writes nothing, and frees no other.
    given_passes : (message : List ℕ) (s : Line R M) (v : View) (holder : Holder R M) → entry_at (message_id message) s.held.held ≡ Some holder
        → Passes (message_id message) s.held (plain.delivers one several message (record s { held = removed (message_id message) s.held }) v holder).0.held
    given_passes message s v GivenUp e = freed (message_id message) s.held
    given_passes message s v (Waits ticket request) e = freed (message_id message) s.held
    given_passes message s v (Transfers ticket request state) e =
        let c = checked several request state message in
        goes_on message ticket request c.1 (Transfers ticket request state) s (answers ticket (part_given message c.2) v) e c.0

    given_outs : (message : List ℕ) (s : Line R M) (v : View) (holder : Holder R M) → (plain.delivers one several message s v holder).1.outs ≡ v.outs
    given_outs message s v GivenUp = refl
    given_outs message s v (Waits ticket request) = refl
    given_outs message s v (Transfers ticket request state) =
        let c = checked several request state message in goes_on_outs message ticket request c.1 s (answers ticket (part_given message c.2) v) c.0

    -- nothing is written, and unless the connection ended all that is held stays held
    record Calm (t : IdTable (Holder R M)) (w : ℕ) (s' : Line R M) (v' : View) : Type 0 where
      table : IsTable t → IsTable s'.held
      quiet : written place id v' ≡ w
      kept : has_ended s'.stage ≡ false → s'.held ≡ t

    abbrev CalmAll : IdTable (Holder R M) → ℕ → After R M → Type 0
    CalmAll t w after = IfSome after (λ x. Calm t w x.0 x.1)

    calm_end : (error : Error) (s : Line R M) (v : View) → CalmAll s.held (written place id v) (plain.ends place error s v)
    calm_end error s v = record { table = λ t. table_new; quiet = ended_writes error s v; kept = λ e. absurd (cc) }

    calm_same : (s : Line R M) (v : View) → CalmAll s.held (written place id v) (Some (s, v))
    calm_same s v = record { table = λ t. t; quiet = refl; kept = λ e. refl }

    calm_timed : (to : LineStage) (s : Line R M) (v : View) (o : Option View) → ((w : View) → o ≡ Some w → w.outs ≡ v.outs) → CalmAll s.held (written place id v) (option_and_then (λ w. Some (record s { stage = to }, w)) o)
    calm_timed to s v None h = tt
    calm_timed to s v (Some w) h = record { table = λ t. t; quiet = ap (writes_of place id) (h w refl); kept = λ e. refl }

    calm_becomes : (to : ℕ → LineStage) (due : ℕ) (s : Line R M) (v : View) → CalmAll s.held (written place id v) (plain.becomes to due s v)
    calm_becomes to due s v = calm_timed (to v.timers.next) s v (sets_timer due (plain.drops_own_timer s.stage v)) (λ w e. set_outs due (plain.drops_own_timer s.stage v) w e ∙ stop_outs s.stage v)

    calm_settles : (s : Line R M) (v : View) → CalmAll s.held (written place id v) (plain.becomes_idle_if_unused place s v)
    calm_settles s v = go (plain.has_nothing s) (s.idle_time == 0)
      where
        go : (b c : Bool) → CalmAll s.held (written place id v) (if b then (if c then plain.ends place errors.StreamReceiveError s v else plain.becomes_idle s v) else Some (s, v))
        go true true = calm_end errors.StreamReceiveError s v
        go true false = calm_becomes stage.Idle (v.now + s.idle_time) s v
        go false c = calm_same s v

    -- a line whose id of a message was freed or is held again, and what calmly follows
    released : (message : List ℕ) (s : Line R M) (v : View) (t : IdTable (Holder R M)) (after : After R M) → Passes (message_id message) s.held t → CalmAll t (written place id v) after → StepsAll s v (Some message) after
    released message s v t None p c = tt
    released message s v t (Some x) p c = quiet s v (Some message) x.0 x.1 (λ k. c.table (p.table k)) c.quiet
        (λ k h f e. ap (holds id) (c.kept e) ∙ p.kept (grind (arith, nat_tests)) h)

    calm_steps : (message : List ℕ) (s : Line R M) (v : View) (after : After R M) → CalmAll s.held (written place id v) after → StepsAll s v (Some message) after
    calm_steps message s v None c = tt
    calm_steps message s v (Some x) c = quiet s v (Some message) x.0 x.1 c.table c.quiet (λ t h f e. ap (holds id) (c.kept e) ∙ h)

    settles_given : (message : List ℕ) (s : Line R M) (v : View) (x : Line R M × View) → Passes (message_id message) s.held x.0.held → x.1.outs ≡ v.outs → StepsAll s v (Some message) (plain.becomes_idle_if_unused place x.0 x.1)
    settles_given message s v x p o = released message s v x.0.held (plain.becomes_idle_if_unused place x.0 x.1) p
        (subst (λ w. CalmAll x.0.held w (plain.becomes_idle_if_unused place x.0 x.1)) (ap (writes_of place id) o) (calm_settles x.0 x.1))

    frees_id : (message : List ℕ) (s : Line R M) (v : View) (o : Option (Holder R M)) → entry_at (message_id message) s.held.held ≡ o → StepsAll s v (Some message) (plain.frees_id one several place message s v o)
    frees_id message s v None e = calm_steps message s v (Some (s, v)) (calm_same s v)
    frees_id message s v (Some holder) e =
        settles_given message s v (plain.delivers one several message (record s { held = removed (message_id message) s.held }) v holder)
        (given_passes message s v holder e) (given_outs message (record s { held = removed (message_id message) s.held }) v holder)

    -- after a calm step that has not ended
    after_calm : (s : Line R M) (v : View) (frame : Option (List ℕ)) (s' : Line R M) (v' : View) (after : After R M) → s'.held ≡ s.held → v'.outs ≡ v.outs → StepsAll s' v' frame after → StepsAll s v frame after
    after_calm s v frame s' v' None h o k = tt
    after_calm s v frame s' v' (Some x) h o k =
        let w : written place id v' ≡ written place id v = ap (writes_of place id) o in
        record {
          table = λ t. k.table (subst (λ t. IsTable t) (sym h) t);
          free = λ t x. (let f = k.free (subst (λ t. IsTable t) (sym h) t) (ap (holds id) h ∙ x) in grind (arith, nat_tests));
          wrote = λ t n e. k.wrote (subst (λ t. IsTable t) (sym h) t) (grind (arith, nat_tests)) e;
          kept = λ t x f e. k.kept (subst (λ t. IsTable t) (sym h) t) (ap (holds id) h ∙ x) f e;
        }

    timed_then : (message : List ℕ) (to : LineStage) (s : Line R M) (v : View) (o : Option View) → ((w : View) → o ≡ Some w → w.outs ≡ v.outs)
        → StepsAll s v (Some message) (option_and_then (λ (x : Line R M × View). plain.releases one several place message x.0 x.1) (option_and_then (λ w. Some (record s { stage = to }, w)) o))
    timed_then message to s v None h = tt
    timed_then message to s v (Some w) h =
        after_calm s v (Some message) (record s { stage = to }) w (plain.releases one several place message (record s { stage = to }) w) refl (h w refl)
        (frees_id message (record s { stage = to }) w (entry_at (message_id message) s.held.held) refl)

    comes : (message : List ℕ) (s : Line R M) (v : View) → StepsAll s v (Some message) (plain.message_comes one several place message s v)
    comes message s v =
        after_calm s v (Some message) (record s { idle_time = _ }) v _ refl refl
        (timed_then message (stage.Active v.timers.next v.now) (record s { idle_time = _ }) v (sets_timer (v.now + s.timeout + 1) (plain.drops_own_timer s.stage v))
        (λ w e. set_outs (v.now + s.timeout + 1) (plain.drops_own_timer s.stage v) w e ∙ stop_outs s.stage v))

    frame_comes : (frame : List ℕ) (s : Line R M) (v : View) → StepsAll s v (Some frame) (plain.frame_comes one several place frame s v)
    frame_comes frame s v = go (nat_le 12 (length frame))
      where
        go : (b : Bool) → StepsAll s v (Some frame) (if b then plain.message_comes one several place frame s v else plain.ends place errors.ShortMessage s v)
        go true = comes frame s v
        go false = ends errors.ShortMessage s v (Some frame)

    wrote_of : (settings : Settings) (count : ℕ) (s : Line R M) (v : View) (octets : List ℕ) → StepsAll s v None (plain.wrote_of one several place settings count s v octets)
    wrote_of settings count s v octets = go (count == 0) (nat_le (length octets) count)
      where
        go : (b c : Bool) → StepsAll s v None (if b then plain.ends place (errors.StreamWriteError fault.NothingTaken) s v else if c then plain.pumps one several place settings s.queue (record s { writing = None }) v
            else Some (record s { writing = Some (drop count octets) }, asks (Resume place (drop count octets)) v))
        go true c = ends (errors.StreamWriteError fault.NothingTaken) s v None
        go false true = kept_steps s v None (plain.pumps one several place settings s.queue (record s { writing = None }) v) (pumps settings s.queue (record s { writing = None }) v)
        go false false = kept_step s v None (record s { writing = Some (drop count octets) }) (asks (Resume place (drop count octets)) v)
            (same s.held s.held _ _ refl (writes_append place id v.outs (Resume place (drop count octets)) ∙ (omega arith)))

    wrote : (settings : Settings) (count : ℕ) (s : Line R M) (v : View) (o : Option (List ℕ)) → StepsAll s v None (plain.wrote one several place settings count s v o)
    wrote settings count s v None = kept_steps s v None (Some (s, v)) (stays s v)
    wrote settings count s v (Some octets) = wrote_of settings count s v octets

    unmoved : (s : Line R M) (v : View) (frame : Option (List ℕ)) → StepsAll s v frame (Some (s, v))
    unmoved s v frame = kept_steps s v frame (Some (s, v)) (stays s v)

    fires : (timer : ℕ) (s : Line R M) (v : View) (at : LineStage) → StepsAll s v None (plain.fires place timer s v at)
    fires timer s v (stage.Active own since) = go (timer == own)
      where
        go : (b : Bool) → StepsAll s v None (if b then plain.ends place errors.StreamReadTimeout s v else Some (s, v))
        go true = ends errors.StreamReadTimeout s v None
        go false = unmoved s v None
    fires timer s v (stage.Idle own) = go (timer == own)
      where
        go : (b : Bool) → StepsAll s v None (if b then plain.ends place errors.StreamReceiveError s v else Some (s, v))
        go true = ends errors.StreamReceiveError s v None
        go false = unmoved s v None
    fires timer s v stage.New = unmoved s v None
    fires timer s v stage.Ended = unmoved s v None

    left : (ticket : ℕ) (s : Line R M) (k : ℕ) (o : Option (Holder R M)) → entry_at k s.held.held ≡ o → Keeps s.held 0 (plain.leaves_id k s.held o) 0
    left ticket s k None e = same s.held s.held 0 0 refl refl
    left ticket s k (Some holder) e = record {
      table = λ t. table_over k GivenUp holder s.held t e;
      grows = omega arith;
      held = λ t h. (held_over id k GivenUp s.held h, refl);
      wrote = λ t w. absurd (omega arith);
    }

    gives_up : (ticket : ℕ) (s : Line R M) → Keeps s.held 0 (plain.gives_up ticket s).held 0
    gives_up ticket s = go (is_some (entry_at ticket s.queue)) (entry_at ticket s.ids)
      where
        go : (b : Bool) (o : Option ℕ) → Keeps s.held 0 (if b then record s { queue = frees ticket s.queue } else plain.gives_up_id ticket s o).held 0
        go true o = same s.held s.held 0 0 refl refl
        go false None = same s.held s.held 0 0 refl refl
        go false (Some k) = left ticket s k (entry_at k s.held.held) refl

-- the whole connection
module _ {R M : Type 0} (one : Requests R) (several : Requests M) (id : ℕ) where
  abbrev Moves : Stream R M → View → Option (List ℕ) → AfterAll R M → Type 0
  Moves s v frame after = IfSome after (λ x. Steps s.place id one several s.line v frame x.0.line x.1)

  keeps : (s : Stream R M) (v : View) (octets : List ℕ) (frame : Option (List ℕ)) (after : After R M) → StepsAll s.place id one several s.line v frame after → Moves s v frame (plain.with_line s octets after)
  keeps s v octets frame None k = tt
  keeps s v octets frame (Some x) k = k

  -- a step whose view differs in what is said of frames alone
  said : (s : Stream R M) (v : View) (frame : Option (List ℕ)) (x : Stream R M × View) (b : Bool) → Steps s.place id one several s.line v frame x.0.line x.1
      → Steps s.place id one several s.line v frame x.0.line (if b then record x.1 { more = true } else x.1)
  said s v frame x true k = record { table = k.table; free = k.free; wrote = k.wrote; kept = k.kept }
  said s v frame x false k = k

  says : (s : Stream R M) (v : View) (frame : Option (List ℕ)) (after : AfterAll R M) → Moves s v frame after → Moves s v frame (plain.says_if_more after)
  says s v frame None k = tt
  says s v frame (Some x) k = said s v frame x (has_frame x.0.octets) k

  stands : (s : Stream R M) (v : View) (frame : Option (List ℕ)) → Moves s v frame (Some (s, v))
  stands s v frame = unmoved s.place id one several s.line v frame

  takes_frame : (s : Stream R M) (v : View) (o : Option (List ℕ)) → Moves s v o (plain.takes_frame one several s v o)
  takes_frame s v None = stands s v None
  takes_frame s v (Some frame) = keeps s v (behind_frame s.octets) (Some frame) (plain.frame_comes one several s.place frame s.line v) (frame_comes s.place id one several frame s.line v)

  reads : (s : Stream R M) (v : View) → Moves s v (first_frame s.octets) (plain.reads one several s v)
  reads s v = says s v (first_frame s.octets) (plain.frame_taken one several s v) (takes_frame s v (first_frame s.octets))

  closes : (error : Error) (s : Stream R M) (v : View) (frame : Option (List ℕ)) → Moves s v frame (plain.closes error s v)
  closes error s v frame = keeps s v s.octets frame (plain.ends s.place error s.line v) (ends s.place id one several error s.line v frame)

  at_own : (s : Stream R M) (v : View) (h : What) → (b : Bool) → plain.is_at s.place h ≡ b → Moves s v (frame_told h s) (if b then plain.tells one several h s v else Some (s, v))
  at_own s v (what.Bytes at octets) true e = subst (λ b. Moves s v (if b then first_frame (s.octets ++ octets) else None) (plain.reads one several (record s { octets = s.octets ++ octets }) v)) (sym e) (reads (record s { octets = s.octets ++ octets }) v)
  at_own s v (what.Wrote at count) true e = keeps s v s.octets None (plain.wrote one several s.place s.settings count s.line v s.line.writing) (wrote s.place id one several s.settings count s.line v s.line.writing)
  at_own s v (what.WriteFailed at f) true e = closes (errors.StreamWriteError f) s v None
  at_own s v (what.ReadFailed at f) true e = closes (errors.StreamReadError f) s v None
  at_own s v (what.Ended at) true e = closes (plain.end_error s.octets) s v None
  at_own s v (what.Ask request) true e = stands s v None
  at_own s v (what.Opened at) true e = stands s v None
  at_own s v (what.OpenFailed at f) true e = stands s v None
  at_own s v (what.SendFailed at f) true e = stands s v None
  at_own s v (what.ShortSend at) true e = stands s v None
  at_own s v (what.Datagram at octets) true e = stands s v None
  at_own s v (what.RecvFailed at f) true e = stands s v None
  at_own s v what.Tick true e = stands s v None
  at_own s v h false e = stands s v (frame_told h s)

  more : (s : Stream R M) (v : View) (b : Bool) → Moves s v (if b then first_frame s.octets else None) (if b then plain.reads one several s v else Some (s, v))
  more s v true = reads s v
  more s v false = stands s v None

  hears : (s : Stream R M) (v : View) (h : Heard) → Moves s v (frame_heard h s) (plain.hears one several h s v)
  hears s v (told h) = at_own s v h (plain.is_at s.place h) refl
  hears s v (more_at place) = more s v (s.place == place)
  hears s v (due_timer timer) = keeps s v s.octets None (plain.fires s.place timer s.line v s.line.stage) (fires s.place id one several timer s.line v s.line.stage)

  steps : (s : Stream R M) (v : View) (h : Heard) (b : Bool) → Moves s v (frame_heard h s) (if b then Some (s, v) else plain.hears one several h s v)
  steps s v h true = stands s v (frame_heard h s)
  steps s v h false = hears s v h

  sends : (s : Stream R M) (v : View) (after : After R M) → StepsAll s.place id one several s.line v None after → Moves s v None (option_and_then (λ x. Some (record s { line = x.0 }, x.1)) after)
  sends s v None k = tt
  sends s v (Some x) k = k

  given_up : (s : Stream R M) (v : View) (line : Line R M) → Keeps {R = R} {M = M} s.place id s.line.held 0 line.held 0 → Steps s.place id one several s.line v None line v
  given_up s v line k = record {
    table = k.table;
    free = λ t h. grind (arith, nat_tests);
    wrote = λ t w e. absurd (let no : nat_lt (written s.place id v) (written s.place id v) ≡ false = grind (arith, nat_tests) in cc);
    kept = λ t h f e. (k.held t h).0;
  }

  call : (act : Act R M) (s : Stream R M) (v : View) → Moves s v (frame_taken_by act s) (does one several act s v)
  call (asks_for request) s v = sends s v (plain.takes_on one several s.place s.settings request s.line v) (kept_steps s.place id one several s.line v None (plain.takes_on one several s.place s.settings request s.line v) (takes_on s.place id one several s.settings request s.line v))
  call (hears_of h) s v = steps s v h (has_ended s.line.stage)
  call (gives_up_on ticket) s v = given_up s v (plain.gives_up ticket s.line) (gives_up s.place id one several ticket s.line)

  -- An id that is open is held.
  record IsHeld (is_open : Bool) (s : Stream R M) : Type 0 where
    table : IsTable s.line.held
    held : is_open ≡ true → holds id s.line.held ≡ true

  still : (is_open : Bool) (act : Act R M) (s : Stream R M) (v : View) (x : Stream R M × View) → IsHeld is_open s → Steps s.place id one several s.line v (frame_taken_by act s) x.0.line x.1 → IsHeld (open_after id is_open act s v x.0 x.1) x.0
  still is_open act s v x k m = record {
    table = m.table k.table;
    held = go is_open k.held (has_ended x.0.line.stage) refl (writes_id s.place id v x.1) refl (is_held id x.0.line) refl (has_id id (frame_taken_by act s)) refl;
  }
    where
      go : (o : Bool) → (o ≡ true → holds id s.line.held ≡ true) → (e : Bool) → has_ended x.0.line.stage ≡ e → (w : Bool) → writes_id s.place id v x.1 ≡ w → (a : Bool) → is_held id x.0.line ≡ a
          → (f : Bool) → has_id id (frame_taken_by act s) ≡ f → (not e && (w || (o && (a || not f)))) ≡ true → holds id x.0.line.held ≡ true
      go o h true e w w' a a' f f' y = absurd (cc)
      go o h false e true w a a' f f' y = m.wrote k.table w e
      go o h false e false w true a f f' y = a
      go true h false e false w false a false f y = m.kept k.table (h refl) f e
      go true h false e false w false a true f y = absurd (cc)
      go false h false e false w false a f f' y = absurd (cc)

  runs : (calls : List (Act R M × View)) (is_open : Bool) (s : Stream R M) → IsHeld is_open s → WritesFreeIds one several id is_open calls s
  runs [] is_open s k = tt
  runs (c ∷ calls) is_open s k = go (does one several c.0 s c.1) (call c.0 s c.1) (λ is_open s k. runs calls is_open s k)
    where
      go : (after : AfterAll R M) → Moves s c.1 (frame_taken_by c.0 s) after → ((is_open : Bool) (s : Stream R M) → IsHeld is_open s → WritesFreeIds one several id is_open calls s)
          → IfSome after (λ x. (is_open ≡ true → writes_id s.place id c.1 x.1 ≡ false) × WritesFreeIds one several id (open_after id is_open c.0 s c.1 x.0 x.1) calls x.0)
      go None m ih = tt
      go (Some x) m ih = (λ o. m.free k.table (k.held o), ih (open_after id is_open c.0 s c.1 x.0 x.1) x.0 (still is_open c.0 s c.1 x k m))

pub ids_law : {R M : Type 0} (one : Requests R) (several : Requests M) → IdsLaw one several
ids_law one several place settings id calls = runs one several id calls false (started place settings) (record { table = table_new; held = λ e. absurd (cc) })

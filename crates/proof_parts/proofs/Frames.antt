-- A frame comes to a connection: it is bad, or frees its id.
use Rattle.std.proofs.Common.{◌≡◌, ◌≢◌, ℕ, suc, ◌+◌, ◌≤◌, inl, inr, Bool, true, false, List, [], ◌∷◌, ◌++◌, length, Option, Some, None, refl, sym, ap, subst, ◌∙◌, arith}
use Rattle.std.specs.Prelude.{if◌then◌else◌, nat_le, option_and_then, Result, Ok, Err}
use Rattle.std.specs.Option.{unwrap_or}
use Rattle.client_request.specs.Numbered.{frees, entry_at}
use Rattle.client_request.specs.Request.{Request, is_answered}
use Rattle.client_request.specs.Requests.{for_one, for_several}
use Rattle.client_request.specs.View.{View, answers}
use Rattle.client_request.specs.declared.board.Posted.{Posted}
use Rattle.client_request.specs.declared.error.Error.{Error}
use Rattle.client_request.specs.declared.error.Error.TheVariants as errors
use Rattle.client_stream.specs.IdTable.{IdTable, removed}
use Rattle.client_stream.specs.Keepalive.{idle_time_told}
use Rattle.client_stream.specs.Plain.{message_id, ends_with, part_of, frees_id, releases, becomes_active, becomes_idle_if_unused, message_comes, frame_comes}
use Rattle.client_stream.specs.declared.request.Holder.{Holder}
use Rattle.client_stream.specs.declared.request.Holder.TheVariants.{Waits, GivenUp}
use Rattle.client_stream.specs.declared.line.LineStage.TheVariants as at
use Rattle.right_trace.specs.Frames.{is_bad}
use Rattle.right_trace.specs.Messages.{Octets, answers as message_answers, id_in, keepalive_of}
use Rattle.right_trace.specs.Timers.{told_idle}
use Rattle.right_trace.specs.Writes.{Written}
use Rattle.proof_right.specs.machine.Streams as multi
use Rattle.proof_right.specs.machine.Streams.{Mode, Active, Asker, Conn, Multi, drop, set_conn, end_at, framed, result_of, Gives, Nothing, LeavesMode, TakesFrame}
use Rattle.right_trace.specs.Updates.{with_at}
use Rattle.proof_parts.specs.Chains as chains
use Rattle.proof_parts.specs.PartTie.{Leads}
use Rattle.proof_parts.specs.Seats.{IsAway, IsSent, IdFits, IsFree, IsHeld, WasGivenUp, AreSeated}
use Rattle.proof_parts.specs.Connections.{dues, IsTimed, GaveNothing, GaveResult, StaysOpen, ClosesAsBad, HasHeard}
use Rattle.proof_parts.specs.Lines.{SingleLine, Sorted, IsInOrder, seats_of, LineFits, IsLineAt}
use Rattle.proof_parts.specs.Lines as lines
use Rattle.proof_parts.specs.Sights.{IsFair}
use Rattle.proof_parts.proofs.Ending.{ends_so}
use Rattle.proof_parts.proofs.FirstKeys.{table}
use Rattle.proof_parts.proofs.Hearing.{same_id, bad_short, not_bad, settles_so}
use Rattle.proof_parts.proofs.Keys.{with_here, with_there, with_same, was_there}
use Rattle.proof_parts.proofs.Retiming.{timed_by, IsRetimed, becomes_so}
use Rattle.proof_parts.proofs.Seating.{leaves_id, frees_late}
use Rattle.proof_parts.proofs.Tables.{sorted_frees, frees_path, fewer_by_frees}
use Rattle.proof_parts.proofs.Taking.{same_seats}
use Rattle.proof_parts.proofs.Waits.{idle_is_told}
use mathlib.Core.Path.{fun_ext}
use Rattle.right_trace.specs.Trace.{Conf}

leads_on : (P Q : SingleLine → View → Type 0) (f : SingleLine → View → Option (SingleLine × View)) (o : Option (SingleLine × View)) → Leads P o → ((t : SingleLine) (u : View) → P t u → Leads Q (f t u)) → Leads Q (option_and_then (λ y. f y.0 y.1) o)
leads_on P Q f None l g = tt
leads_on P Q f (Some y) l g = g y.0 y.1 l

-- what a message is for the request that it answers, or not
part_so : (f : List ℕ) (r a : Request) (id : ℕ) → is_answered f r ≡ message_answers a id f → part_of for_one for_several f r ≡ chains.part_of (result_of a id f)
part_so f r a id e = ap (λ b. if b then Ok (Some f) else Err errors.WrongReplyForQuery) e ∙ by (message_answers a id f)
  where
    right : Result (Option (List ℕ)) Error
    right = Ok (Some f)

    by : (b : Bool) → (if b then Ok (Some f) else Err errors.WrongReplyForQuery) ≡ chains.part_of (if b then Ok f else Err errors.WrongReplyForQuery)
    by true = refl
    by false = refl

module _ (c : Conf) (p : ℕ) (names : ℕ → Option ℕ) (m : Multi) (x : Conn) (s : SingleLine) (v : View) (line : IsLineAt c p names s m x (dues v) v.ticket) (fair : IsFair v) (settled : s.writing ≡ None → s.queue ≡ []) (f : Octets) where
  abbrev P : SingleLine → View → Type 0
  P t w = HasHeard c p names m x s v f t w

  abbrev id : ℕ
  id = id_in f

  is_closed : nat_le 12 (length f) ≡ false → P (ends_with p errors.ShortMessage s v).0 (ends_with p errors.ShortMessage s v).1
  is_closed e =
      let end = ends_so p names m x.ids s v line.seated line.fits.order.sorted line.fits.queue fair errors.ShortMessage (λ e. cc) in
      record { left = ClosesAsBad (multi.IsBad x line.conn (bad_short f e)) end refl; timed = end.timed; ticket = end.ticket; at_place = end.at_place; more = end.more }

  -- it is active, with the idle time that the frame tells
  abbrev told : SingleLine
  told = record s { idle_time = unwrap_or (idle_time_told f) s.idle_time }

  module _ (good : is_bad f ≡ false) (w : View) (r : IsRetimed s.stage (v.now + s.timeout + 1) v w) where
    abbrev now_active : SingleLine
    now_active = record told { stage = at.Active v.timers.next v.now }

    timed : IsTimed s.stage (at.Active v.timers.next v.now) v w
    timed = record { on = r.on; owned = λ i e. inr (own i e); others = r.others }
      where
        own : (i : ℕ) → Some v.timers.next ≡ Some i → v.timers.next ≤ i
        own i e = let g : v.timers.next ≡ i = cc in omega arith

    fits_so : (held : IdTable (Holder Request Request)) (ids : List (ℕ × ℕ)) → IsInOrder held → length held.held ≤ 32768 → Sorted 0 w.ticket ids → (u : View) → dues u ≡ dues w → u.ticket ≡ w.ticket
        → LineFits c (record now_active { held = held; ids = ids }) (framed f (Active v.now) x) (dues u) u.ticket
    fits_so held ids order few sorted u same ticket = record {
      stage = lines.IsActive v.timers.next v.now refl refl (ap (λ (g : ℕ → Option ℕ). g v.timers.next) same ∙ (r.here ∙ ap (λ n. Some (v.now + n + 1)) line.fits.timeout));
      writing = line.fits.writing;
      idle = idle_is_told f s.idle_time ∙ ap (told_idle (keepalive_of f)) line.fits.idle;
      timeout = line.fits.timeout;
      resting = λ ne. absurd (ne v.now refl);
      order = order;
      few = few;
      ids = subst (λ n. Sorted 0 n ids) (sym ticket) sorted;
      queue = subst (λ n. Sorted 0 n s.queue) (sym (ticket ∙ r.alike.ticket)) line.fits.queue;
    }

    sorted_ids : Sorted 0 w.ticket s.ids
    sorted_ids = subst (λ n. Sorted 0 n s.ids) (sym r.alike.ticket) line.fits.ids

    -- its id is nobody's
    unknown : x.ids id ≡ None → P now_active w
    unknown none = record {
      left = StaysOpen Nothing (set_conn p (framed f (Active v.now) x) m) (framed f (Active v.now) x) (multi.IsUnknown x line.conn good none) (GaveNothing refl r.alike.board refl) r.alike.outs
          (record {
            conn = with_here p (Some (framed f (Active v.now) x)) m.conns;
            seated = subst (AreSeated p names) (same_seats (seats_of s m.asks x.ids) (seats_of now_active m.asks (with_at id None x.ids)) refl refl refl refl (fun_ext (λ j. sym (with_same id None x.ids j none)))) line.seated;
            fits = fits_so s.held s.ids line.fits.order line.fits.few sorted_ids w refl refl;
          })
          settled refl refl (λ q ne. with_there p (Some (framed f (Active v.now) x)) m.conns q ne) refl refl;
      timed = timed;
      ticket = r.alike.ticket;
      at_place = r.alike.place;
      more = r.alike.more;
    }

    -- the ids without it
    abbrev freed : IdTable (Holder Request Request)
    freed = removed (message_id f) s.held

    freed_path : table freed.held ≡ with_at id None (table s.held.held)
    freed_path = frees_path (message_id f) 0 s.held.mark s.held.held line.fits.order.sorted ∙ ap (λ d. with_at d None (table s.held.held)) (same_id f)

    freed_order : IsInOrder freed
    freed_order = record { sorted = sorted_frees (message_id f) 0 s.held.mark s.held.held line.fits.order.sorted; small = line.fits.order.small }

    freed_few : (h : Holder Request Request) → entry_at (message_id f) s.held.held ≡ Some h → length freed.held ≤ 32768
    freed_few h e = less (length freed.held) (length s.held.held) (fewer_by_frees (message_id f) h s.held.held e) line.fits.few
      where
        less : (a b : ℕ) → suc a ≡ b → b ≤ 32768 → a ≤ 32768
        less a b e le = omega arith

    -- it was given up
    late : entry_at (message_id f) s.held.held ≡ Some GivenUp → (y : Written) → entry_at id s.held.held ≡ Some GivenUp → x.ids id ≡ Some y → ((a : Asker) → m.asks y.request ≡ Some a → a.phase ≢ multi.Holding p id)
        → Leads P (becomes_idle_if_unused p (record now_active { held = freed }) w)
    late there y here wr absent = settles_so c p names m x s v line fair settled f good m Nothing (record now_active { held = freed }) w refl refl refl (λ k a e. e)
        (λ mode l. multi.IsLate x y mode line.conn good wr absent l)
        (λ next u asks board. GaveNothing refl (board ∙ r.alike.board) asks)
        (subst (AreSeated p names) (same_seats (record (seats_of s m.asks x.ids) { held = with_at id None (table s.held.held); written = with_at id None x.ids }) (seats_of (record now_active { held = freed }) m.asks (with_at id None x.ids)) (sym freed_path) refl refl refl refl)
        (frees_late p names (seats_of s m.asks x.ids) id line.seated here))
        (fits_so freed s.ids freed_order (freed_few GivenUp there) sorted_ids w refl refl) timed r.alike.outs r.alike.ticket r.alike.place r.alike.more refl refl

    -- its result came
    result : (i k : ℕ) (q : Request) (y : Written) → entry_at (message_id f) s.held.held ≡ Some (Waits i q) → entry_at id s.held.held ≡ Some (Waits i q) → x.ids id ≡ Some y → y.request ≡ k → names i ≡ Some k → IsSent p id k q m.asks
        → Leads P (becomes_idle_if_unused p (record now_active { held = freed; ids = frees i s.ids }) (answers i (part_of for_one for_several f q) w))
    result i k q y there here wr rq named sent = settles_so c p names m x s v line fair settled f good (drop y.request m) (Gives y.request (result_of sent.ask.request id f)) (record now_active { held = freed; ids = frees i s.ids }) (answers i (part_of for_one for_several f q) w) refl refl refl
        (λ j a e. (was_there y.request m.asks j a e).1)
        (λ mode l. multi.IsResult x y mode sent.ask line.conn good wr (ap m.asks rq ∙ sent.is) sent.phase l)
        (λ next u asks board. GaveResult i y.request (result_of sent.ask.request id f) refl (named ∙ ap Some (sym rq))
        (board ∙ (ap (λ (b : List Posted). b ++ record { ticket = i; part = part_of for_one for_several f q; is_stale = false } ∷ []) r.alike.board ∙ ap (λ part. v.board ++ record { ticket = i; part = part; is_stale = false } ∷ []) (part_so f q sent.ask.request id (sent.answered f)))) asks)
        (subst (AreSeated p names)
        (same_seats (record { held = with_at id None (table s.held.held); ids = with_at i None (table s.ids); queue = table s.queue; asks = with_at k None m.asks; written = with_at id None x.ids })
        (seats_of (record now_active { held = freed; ids = frees i s.ids }) (drop y.request m).asks (with_at id None x.ids)) (sym freed_path) (sym (frees_path i 0 v.ticket s.ids line.fits.ids)) refl (ap (λ k. with_at k None m.asks) (sym rq)) refl)
        (leaves_id p names (seats_of s m.asks x.ids) i k id q None None (with_at id None x.ids) line.seated here named gone (λ d ne. with_there id None x.ids d ne) (inl (refl, with_here id None x.ids))))
        (fits_so freed (frees i s.ids) freed_order (freed_few (Waits i q) there) (sorted_frees i 0 w.ticket s.ids sorted_ids) (answers i (part_of for_one for_several f q) w) refl refl)
        (timed_by s.stage (at.Active v.timers.next v.now) v w (answers i (part_of for_one for_several f q) w) refl refl refl refl refl timed) r.alike.outs r.alike.ticket r.alike.place r.alike.more refl refl
      where
        gone : IsAway p None
        gone = record { lined = λ a e g. (let z : None ≡ Some a = e in cc); holding = λ a d e g. (let z : None ≡ Some a = e in cc) }

    at_holder : (o : Option (Holder Request Request)) → entry_at (message_id f) s.held.held ≡ o → entry_at id s.held.held ≡ o → IdFits p names (seats_of s m.asks x.ids) id → Leads P (frees_id for_one for_several p f now_active w o)
    at_holder None there here (IsFree h wr) = unknown wr
    at_holder None there here (IsHeld i k q y h wr rq nm is sent) = absurd (let z = sym here ∙ h in cc)
    at_holder None there here (WasGivenUp y h wr absent) = absurd (let z = sym here ∙ h in cc)
    at_holder (Some o) there here (IsFree h wr) = absurd (let z = sym h ∙ here in cc)
    at_holder (Some o) there here (IsHeld i k q y h wr rq nm is sent) =
        let same : o ≡ Waits i q = (let z : Some o ≡ Some (Waits i q) = sym here ∙ h in cc) in
        subst (λ o. Leads P (frees_id for_one for_several p f now_active w (Some o))) (sym same) (result i k q y (there ∙ ap Some same) h wr rq nm sent)
    at_holder (Some o) there here (WasGivenUp y h wr absent) =
        let same : o ≡ GivenUp = (let z : Some o ≡ Some GivenUp = sym here ∙ h in cc) in
        subst (λ o. Leads P (frees_id for_one for_several p f now_active w (Some o))) (sym same) (late (there ∙ ap Some same) y h wr absent)

    released : Leads P (releases for_one for_several p f now_active w)
    released = at_holder (entry_at (message_id f) s.held.held) refl (ap (λ d. entry_at d s.held.held) (sym (same_id f))) (line.seated.at_id id)

  heard : (good : is_bad f ≡ false) → Leads P (message_comes for_one for_several p f s v)
  heard good = leads_on (λ t w. Leads P (releases for_one for_several p f t w)) P (λ t w. releases for_one for_several p f t w) (becomes_active told v)
      (becomes_so (λ t w. Leads P (releases for_one for_several p f t w)) (λ timer. at.Active timer v.now) (v.now + s.timeout + 1) told v fair (omega arith) (λ w r. released good w r))
      (λ t u l. l)

  pub frame_so : Leads P (frame_comes for_one for_several p f s v)
  frame_so = by (nat_le 12 (length f)) refl
    where
      by : (b : Bool) → nat_le 12 (length f) ≡ b → Leads P (if b then message_comes for_one for_several p f s v else Some (ends_with p errors.ShortMessage s v))
      by true e = heard (not_bad f e)
      by false e = is_closed e

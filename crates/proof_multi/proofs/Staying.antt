-- What reconnection leaves as it is: events, frames and timers of others.
use Rattle.std.proofs.Common.{◌≡◌, ◌≢◌, ℕ, ◌+◌, inr, inl, Bool, true, false, ◌==◌, List, [], Option, Some, None, refl, sym, ap, ap₂, subst, ◌∙◌, arith}
use Rattle.std.specs.Prelude.{if◌then◌else◌, option_and_then, slice_range}
use Rattle.std.proofs.lemmas.Bool.Decides.{nat_tests}
use Rattle.client_request.specs.Numbered.{entry_at}
use Rattle.client_request.specs.Request.{Request}
use Rattle.client_request.specs.Requests.{for_one, for_several}
use Rattle.client_request.specs.View.{View, Heard, told, more_at, due_timer, drawn}
use Rattle.client_request.specs.declared.error.Error.TheVariants as errors
use Rattle.client_request.specs.declared.event.What.{What}
use Rattle.client_request.specs.declared.event.What.TheVariants.{Ask, Opened, OpenFailed, SendFailed, ShortSend, Datagram, RecvFailed, Wrote, WriteFailed, Bytes, ReadFailed, Ended, Tick}
use Rattle.client_stream.specs.Frames.{has_frame, body_size}
use Rattle.client_stream.specs.Plain.{has_ended, ends_with, octets_left, timer_at, says_if_more, takes_frame, reads, fires as line_fires}
use Rattle.client_stream.specs.declared.line.LineStage.{LineStage}
use Rattle.client_stream.specs.declared.line.LineStage.TheVariants as stage
use Rattle.client_multi.specs.Links.{Link, one_stream}
use Rattle.client_multi.specs.MultiStream.{After, with_tables, hears_at, calls, returns, taken, with_connection, keeps, lent, watched, unwatched, is_number, each, hands, opened, refused, backs_off, open_fails, is_open as plain_open, due_at}
use Rattle.right_trace.specs.Frames.{Reading}
use Rattle.right_trace.specs.Messages.{Octets}
use Rattle.proof_right.specs.machine.Served.{Served}
use Rattle.proof_right.specs.machine.Streams.{Conn, Multi, IsForeign}
use Rattle.proof_parts.specs.Connections.{timer_of}
use Rattle.proof_parts.specs.Octets.{IsLinkAt}
use Rattle.proof_parts.specs.Reading.{Keeps}
use Rattle.proof_parts.specs.Sights.{Sight}
use Rattle.proof_parts.proofs.Calling.{is_open}
use Rattle.proof_parts.proofs.FrameReads.{kept_is_read}
use Rattle.proof_parts.proofs.Tables.{put_back}
use Rattle.proof_multi.specs.Servers.{Server, desk_of, names_at, LinkFits, IsNone, IsSome}
use Rattle.proof_multi.specs.Tied.{Streams, by_streams, frames_at, IsStream, owns}
use Rattle.right_trace.specs.Trace.{Conf}

itself : (p q : ℕ) → q ≡ p → (q == p) ≡ true
itself p q e = grind (arith, nat_tests)

-- no whole frame stands in octets that keep none
no_frame : (octets : List ℕ) (got : Reading) → Keeps octets [] got → has_frame octets ≡ false
no_frame octets got k = by (has_frame octets) refl
  where
    by : (b : Bool) → has_frame octets ≡ b → has_frame octets ≡ false
    by true e = (let s = kept_is_read.some octets (slice_range octets 2 (2 + body_size octets)) [] got k (ap (λ b. if b then Some (slice_range octets 2 (2 + body_size octets)) else None) e) in absurd (let z = s.1 in cc))
    by false e = e

-- What stays as it is
module _ (conf : Conf) (s : ℕ) (u : Streams) (x : Sight) (a : Served) (st : IsStream conf s u x a) where
  abbrev d : Server
  d = u.tables

  abbrev m : Multi
  m = a.server.by_stream

  abbrev frames : ℕ → List Octets
  frames = frames_at a.place a.frames

  none_there : (p : ℕ) → m.conns p ≡ None → entry_at p d.connections ≡ None
  none_there p none = by (st.ties.links p)
    where
      by : LinkFits conf (desk_of d) m frames x.dues x.ticket p → entry_at p d.connections ≡ None
      by (IsNone e f away) = e
      by (IsSome l c at link) = absurd (let z : None ≡ Some c = sym none ∙ link.line.conn in cc)

  link_of : (p : ℕ) (l : Link Request) → entry_at p d.connections ≡ Some l → (c : Conn) × IsLinkAt conf p (names_at (desk_of d)) l m c (frames p) x.dues x.ticket
  link_of p l is = by (st.ties.links p)
    where
      by : LinkFits conf (desk_of d) m frames x.dues x.ticket p → (c : Conn) × IsLinkAt conf p (names_at (desk_of d)) l m c (frames p) x.dues x.ticket
      by (IsNone e f away) = absurd (let z : None ≡ Some l = sym e ∙ is in cc)
      by (IsSome k c at link) = (c, subst (λ k. IsLinkAt conf p (names_at (desk_of d)) k m c (frames p) x.dues x.ticket) (let z : Some k ≡ Some l = sym at ∙ is in cc) link)

  -- nothing was done
  unchanged : (v : View) (o : After Request (Link Request)) → o ≡ Some (d, v) → with_tables u o ≡ Some (u, v)
  unchanged v o e = ap (with_tables u) e

  -- none is told where none stands
  unheard : (h : Heard) (v : View) (p : ℕ) → m.conns p ≡ None → hears_at (one_stream for_one) h d v (Some p) ≡ Some (d, v)
  unheard h v p none = ap (calls (one_stream for_one) p ((one_stream for_one).calls.step h) d v) (none_there p none)

  not_opening : (p : ℕ) → m.opening ≢ Some p → is_number p d.opening ≡ false
  not_opening p ne = by d.opening st.ties.tables.opening
    where
      differs : (p q : ℕ) → (q ≡ p → ⊥) → (p == q) ≡ false
      differs p q ne = grind (arith, nat_tests)

      by : (o : Option ℕ) → o ≡ m.opening → is_number p o ≡ false
      by None e = refl
      by (Some q) e = differs p q (λ same. ne (sym e ∙ ap Some same))

  pub passes_by : (w : What) (v : View) → IsForeign w m → by_streams.step (told w) u v ≡ Some (u, v)
  passes_by (Ask r) v f = refl
  passes_by (Opened p) v f = unchanged v (plain_open (one_stream for_one) u.server u.settings.stream p d v) (ap (λ b. if b then each (hands (one_stream for_one) u.server) d.waiting (opened (one_stream for_one) u.server u.settings.stream p d) v else Some (d, v)) (not_opening p f))
  passes_by (OpenFailed p e) v f = unchanged v (open_fails p d v) (ap (λ b. if b then each backs_off d.waiting (refused d v) (drawn v) else Some (d, v)) (not_opening p f))
  passes_by (SendFailed p e) v f = refl
  passes_by (ShortSend p) v f = refl
  passes_by (Datagram p o) v f = refl
  passes_by (RecvFailed p e) v f = refl
  passes_by (Wrote p n) v f = unchanged v (hears_at (one_stream for_one) (told (Wrote p n)) d v (Some p)) (unheard (told (Wrote p n)) v p f)
  passes_by (WriteFailed p e) v f = unchanged v (hears_at (one_stream for_one) (told (WriteFailed p e)) d v (Some p)) (unheard (told (WriteFailed p e)) v p (f p (itself p p refl)))
  passes_by (Bytes p o) v f = unchanged v (hears_at (one_stream for_one) (told (Bytes p o)) d v (Some p)) (unheard (told (Bytes p o)) v p f)
  passes_by (ReadFailed p e) v f = unchanged v (hears_at (one_stream for_one) (told (ReadFailed p e)) d v (Some p)) (unheard (told (ReadFailed p e)) v p (f p (itself p p refl)))
  passes_by (Ended p) v f = unchanged v (hears_at (one_stream for_one) (told (Ended p)) d v (Some p)) (unheard (told (Ended p)) v p (f p (itself p p refl)))
  passes_by Tick v f = refl

  -- A connection that does nothing is put back where it was
  module _ (p : ℕ) (l : Link Request) (is : entry_at p d.connections ≡ Some l) where
    abbrev link : (c : Conn) × IsLinkAt conf p (names_at (desk_of d)) l m c (frames p) x.dues x.ticket
    link = link_of p l is

    live : has_ended l.line.stage ≡ false
    live = is_open conf x.dues l.line.idle_time l.line.stage (link.0).mode link.1.line.fits.stage

    same_watches : (o : Option ℕ) → ((i : ℕ) → o ≡ Some i → entry_at i d.watches ≡ Some p) → watched p o (unwatched o d.watches) ≡ d.watches
    same_watches None w = refl
    same_watches (Some i) w = put_back i p 0 x.timer d.watches st.order.watches (w i refl)

    timers_agree : (i : ℕ) (at : LineStage) → timer_at at ≡ Some i → timer_of at ≡ Some i
    timers_agree i stage.New e = e
    timers_agree i (stage.Active t since) e = e
    timers_agree i (stage.Idle t) e = e
    timers_agree i stage.Ended e = e

    kept : keeps (one_stream for_one) p l (taken (one_stream for_one) p l d) ≡ d
    kept = ap₂ (λ (cs : List (ℕ × Link Request)) (ws : List (ℕ × ℕ)). record d { connections = cs; watches = ws })
        (put_back p l 0 x.place d.connections st.order.connections is)
        (same_watches (timer_at l.line.stage) (λ i e. (st.ties.watched p l i is (timers_agree i l.line.stage e)).0))

    put : with_connection (one_stream for_one) p l (taken (one_stream for_one) p l d) ≡ d
    put = ap (λ b. if b then taken (one_stream for_one) p l d else keeps (one_stream for_one) p l (taken (one_stream for_one) p l d)) live ∙ kept

    rests_so : (h : Heard) (v : View) → (one_stream for_one).calls.step h l (lent v) ≡ Some (l, lent v) → hears_at (one_stream for_one) h d v (Some p) ≡ Some (d, v)
    rests_so h v still =
        ap (calls (one_stream for_one) p ((one_stream for_one).calls.step h) d v) is
        ∙ (ap (option_and_then (returns (one_stream for_one) p (taken (one_stream for_one) p l d) v)) still
        ∙ ap (λ t. Some (t, v)) put)

    -- no timer of its own
    line_still : (i q : ℕ) (v : View) (at : LineStage) → (timer_of at ≡ Some i → ⊥) → line_fires q i l.line v at ≡ Some (l.line, v)
    line_still i q v stage.New free = refl
    line_still i q v stage.Ended free = refl
    line_still i q v (stage.Active own since) free = ap (λ b. if b then Some (ends_with q errors.StreamReadTimeout l.line v) else Some (l.line, v)) (differs i own (λ e. free (ap Some e)))
      where
        differs : (i own : ℕ) → (own ≡ i → ⊥) → (i == own) ≡ false
        differs i own ne = grind (arith, nat_tests)
    line_still i q v (stage.Idle own) free = ap (λ b. if b then Some (ends_with q errors.StreamReceiveError l.line v) else Some (l.line, v)) (differs i own (λ e. free (ap Some e)))
      where
        differs : (i own : ℕ) → (own ≡ i → ⊥) → (i == own) ≡ false
        differs i own ne = grind (arith, nat_tests)

    ends_no : (v : View) (o : Option (Link Request × View)) → o ≡ Some (l, v) → (if has_ended l.line.stage then Some (l, v) else o) ≡ Some (l, v)
    ends_no v o e = ap (λ b. if b then Some (l, v) else o) live ∙ e

    not_fired : (i : ℕ) (v : View) → (timer_of l.line.stage ≡ Some i → ⊥) → (one_stream for_one).calls.step (due_timer i) l v ≡ Some (l, v)
    not_fired i v free = ends_no v (option_and_then (λ y. Some (record l { line = y.0; octets = octets_left y.0.stage l.octets }, y.1)) (line_fires l.place i l.line v l.line.stage))
        (ap (option_and_then (λ y. Some (record l { line = y.0; octets = octets_left y.0.stage l.octets }, y.1))) (line_still i l.place v l.line.stage free)
        ∙ ap (λ b. Some (record l { octets = if b then [] else l.octets }, v)) live)

    -- no frame stands
    not_read : (v : View) → frames p ≡ [] → (one_stream for_one).calls.step (more_at p) l v ≡ Some (l, v)
    not_read v none =
        let no = no_frame l.octets (link.0).got (subst (λ fs. Keeps l.octets fs (link.0).got) none link.1.keeps) in
        ends_no v (if l.place == p then reads for_one for_several l v else Some (l, v))
        (ap (λ b. if b then reads for_one for_several l v else Some (l, v)) (itself p l.place link.1.place)
        ∙ (ap (λ o. says_if_more (takes_frame for_one for_several l v o)) (ap (λ b. if b then Some (slice_range l.octets 2 (2 + body_size l.octets)) else None) no)
        ∙ ap (λ b. Some (l, if b then record v { more = true } else v)) no))

  -- a timer of others
  pub others_fire : (v : View) (i : ℕ) → (owns u i → ⊥) → by_streams.step (due_timer i) u v ≡ Some (u, v)
  others_fire v i free = unchanged v (due_at (one_stream for_one) u.server i d v (entry_at i d.timers)) (by (entry_at i d.timers) refl)
    where
      at_place : (p : ℕ) (o : Option (Link Request)) → entry_at p d.connections ≡ o → hears_at (one_stream for_one) (due_timer i) d v (Some p) ≡ Some (d, v)
      at_place p None e = ap (calls (one_stream for_one) p ((one_stream for_one).calls.step (due_timer i)) d v) e
      at_place p (Some l) e = rests_so p l e (due_timer i) v (not_fired p l e i (lent v) (λ own. free (inr (p, l, e, own))))

      by_watch : (o : Option ℕ) → hears_at (one_stream for_one) (due_timer i) d v o ≡ Some (d, v)
      by_watch None = refl
      by_watch (Some p) = at_place p (entry_at p d.connections) refl

      by : (o : Option ℕ) → entry_at i d.timers ≡ o → due_at (one_stream for_one) u.server i d v o ≡ Some (d, v)
      by None e = by_watch (entry_at i d.watches)
      by (Some t) e = absurd (free (inl (t, e)))

  -- a place where no frame stands
  pub nothing_read : (v : View) (p : ℕ) → frames p ≡ [] → by_streams.step (more_at p) u v ≡ Some (u, v)
  nothing_read v p none = unchanged v (hears_at (one_stream for_one) (more_at p) d v (Some p)) (by (entry_at p d.connections) refl)
    where
      by : (o : Option (Link Request)) → entry_at p d.connections ≡ o → hears_at (one_stream for_one) (more_at p) d v (Some p) ≡ Some (d, v)
      by None e = ap (calls (one_stream for_one) p ((one_stream for_one).calls.step (more_at p)) d v) e
      by (Some l) e = rests_so p l e (more_at p) v (not_read p l e (lent v) none)

-- An event is told, but for octets that come.
use Rattle.std.proofs.Common.{◌≡◌, ◌≢◌, ℕ, Bool, true, false, ◌==◌, List, [], ◌∷◌, ◌++◌, Option, Some, None, refl, sym, ap, subst, ◌∙◌, arith, append-nil}
use Rattle.std.specs.Prelude.{if◌then◌else◌, option_and_then}
use Rattle.std.proofs.lemmas.Bool.Decides.{nat_tests}
use Rattle.client_request.specs.Numbered.{entry_at}
use Rattle.client_request.specs.Request.{Request}
use Rattle.client_request.specs.Requests.{for_one, for_several}
use Rattle.client_request.specs.View.{View, told, drawn, asks}
use Rattle.client_request.specs.declared.error.Error.{Error}
use Rattle.client_request.specs.declared.error.Error.TheVariants as errors
use Rattle.client_request.specs.declared.fault.Fault.{Fault}
use Rattle.client_request.specs.declared.fault.Fault.TheVariants as fault
use Rattle.client_request.specs.declared.event.What.{What}
use Rattle.client_request.specs.declared.event.What.TheVariants.{Ask, Opened, OpenFailed, SendFailed, ShortSend, Datagram, RecvFailed, Wrote, WriteFailed, Bytes, ReadFailed, Ended, Tick}
use Rattle.client_request.specs.declared.event.Out.{Out}
use Rattle.client_request.specs.declared.event.Out.TheVariants.{Close, Resume}
use Rattle.client_stream.specs.Frames.{is_in_body}
use Rattle.client_stream.specs.Plain.{has_ended, end_error, ends_with, wrote, octets_left}
use Rattle.right_settings.specs.Given.{stream_of, streams_of}
use Rattle.client_multi.specs.Links.{Link, one_stream}
use Rattle.client_multi.specs.MultiStream.{tells, hears_at, calls, returns, taken, lent, is_number, each, hands, opened, refused, backs_off, open_fails, is_open as plain_open}
use Rattle.right_trace.specs.Messages.{Octets}
use Rattle.right_trace.specs.Places.{is_told}
use Rattle.proof_right.specs.machine.Served.{place_after, outs_of, posts_of}
use Rattle.proof_right.specs.machine.Streams as multi
use Rattle.proof_right.specs.machine.Streams.{Phase, Asker, Conn, Multi, Nothing, Puts, Takes, ItOpens, ItDoesNotOpen, ItFails, IsForeign, set_conn, wrote_on, heard_on, end_at, open_at, not_opened}
use Rattle.right_trace.specs.Updates.{with_at}
use Rattle.proof_parts.specs.Chains.{still}
use Rattle.proof_parts.specs.Connections.{dues, IsTimed, HasWritten, IsHeard, WritesOn, HasRoom, FailsWriting}
use Rattle.proof_parts.specs.Lines.{SingleLine, IsLineAt}
use Rattle.proof_parts.specs.Octets.{IsLinkAt}
use Rattle.proof_parts.specs.PartTie.{Leads}
use Rattle.proof_parts.specs.Reading.{Keeps}
use Rattle.proof_parts.specs.Runs.{Rests}
use Rattle.proof_parts.specs.Sights.{IsFair}
use Rattle.proof_parts.proofs.Calling.{is_open}
use Rattle.proof_parts.proofs.Ending.{ends_so}
use Rattle.proof_parts.proofs.Keys.{with_here, with_there}
use Rattle.proof_parts.proofs.Retiming.{timed_same, timed_by}
use Rattle.proof_parts.proofs.Writing.{wrote_so}
use Rattle.proof_multi.specs.Servers.{Desk, Server, desk_of, names_at, nothing_under_way, LinkFits, IsNone, IsSome, NoneHeard, Stands}
use Rattle.proof_multi.proofs.Going.{Went, leads_as}
use Rattle.proof_multi.proofs.Holding.{link_at}
use Rattle.proof_multi.proofs.Openings.{soon, open_so, fails_so}
use Rattle.proof_multi.proofs.Stepping.{AtWork, ended_call, kept_call, pumped_call}
use Rattle.right_trace.specs.Trace.{Conf}

-- what was put out before
abbrev pub said : View → multi.Act → View
said v x = record v { outs = v.outs ++ outs_of x }

-- An event is of nothing here, and nothing is done; or it is taken, and moves follow.
pub data ToldOf (conf : Conf) (server : ℕ) (frames : ℕ → List Octets) (what : What) (s : Server) (m : Multi) (v : View) (t : Server) (w : View) : Type 0 where
  Passes : IsForeign what m → t ≡ s → w ≡ v → ToldOf conf server frames what s m v t w
  Takes_it : (x : multi.Act) (n : Multi) → Takes conf v.now m what x n → posts_of x ≡ [] → place_after x v.place ≡ v.place → Went conf server frames nothing_under_way (desk_of s) n (said v x) t w → ToldOf conf server frames what s m v t w

is_own : (p : ℕ) (o : Option ℕ) → is_number p o ≡ true → o ≡ Some p
is_own p None e = absurd (cc)
is_own p (Some q) e = ap Some (same p q e)
  where
    same : (p q : ℕ) → (p == q) ≡ true → q ≡ p
    same p q e = grind (arith, nat_tests)

is_not : (p : ℕ) (o : Option ℕ) → is_number p o ≡ false → o ≡ Some p → ⊥
is_not p None e f = absurd (cc)
is_not p (Some q) e f = other p q e (let s : q ≡ p = cc in s)
  where
    other : (p q : ℕ) → (p == q) ≡ false → q ≡ p → ⊥
    other p q e s = grind (arith, nat_tests)

itself : (p q : ℕ) → q ≡ p → (q == p) ≡ true
itself p q e = grind (arith, nat_tests)

module _ (conf : Conf) (server : ℕ) (frames : ℕ → List Octets) (s : Server) (m : Multi) (v : View) (st : Stands conf nothing_under_way (desk_of s) s m frames v) (quiet : NoneHeard m) (no_frames : (q : ℕ) → frames q ≡ []) where
  abbrev d : Desk
  d = desk_of s

  passes : (what : What) → IsForeign what m → Leads (ToldOf conf server frames what s m v) (Some (s, v))
  passes what f = Passes f refl refl

  -- what follows an event that is taken
  taken_so : (what : What) (x : multi.Act) (n : Multi) → Takes conf v.now m what x n → posts_of x ≡ [] → place_after x v.place ≡ v.place → (o : Option (Server × View)) → Leads (Went conf server frames nothing_under_way d n (said v x)) o → Leads (ToldOf conf server frames what s m v) o
  taken_so what x n takes posts place o l = leads_as (Went conf server frames nothing_under_way d n (said v x)) (ToldOf conf server frames what s m v) o l (λ r w g. Takes_it x n takes posts place g)

  -- nothing more was put out
  silent : (n : Multi) (t : Server) (w : View) → Went conf server frames nothing_under_way d n v t w → Went conf server frames nothing_under_way d n (said v Nothing) t w
  silent n t w a = subst (λ os. Went conf server frames nothing_under_way d n (record v { outs = os }) t w) (sym (append-nil v.outs)) a

  -- A place

  opens : (several p : ℕ) → Leads (ToldOf conf server frames (Opened p) s m v) (plain_open (one_stream for_one) server (stream_of several conf) p s v)
  opens several p = by (is_number p s.opening) refl
    where
      by : (b : Bool) → is_number p s.opening ≡ b → Leads (ToldOf conf server frames (Opened p) s m v) (if b then each (hands (one_stream for_one) server) s.waiting (opened (one_stream for_one) server (stream_of several conf) p s) v else Some (s, v))
      by true e = let own = is_own p s.opening e in
          taken_so (Opened p) Nothing (open_at conf p m) (ItOpens p (sym st.server.tables.opening ∙ own)) refl refl (each (hands (one_stream for_one) server) s.waiting (opened (one_stream for_one) server (stream_of several conf) p s) v)
          (leads_as (Went conf server frames nothing_under_way d (open_at conf p m) v) (Went conf server frames nothing_under_way d (open_at conf p m) (said v Nothing)) (each (hands (one_stream for_one) server) s.waiting (opened (one_stream for_one) server (stream_of several conf) p s) v)
          (open_so conf server frames s m v st p own quiet several (no_frames p)) (silent (open_at conf p m)))
      by false e = passes (Opened p) (λ f. is_not p s.opening e (st.server.tables.opening ∙ f))

  fails : (p : ℕ) (f : Fault) → Leads (ToldOf conf server frames (OpenFailed p f) s m v) (open_fails p s v)
  fails p f = by (is_number p s.opening) refl
    where
      by : (b : Bool) → is_number p s.opening ≡ b → Leads (ToldOf conf server frames (OpenFailed p f) s m v) (if b then each backs_off s.waiting (refused s v) (drawn v) else Some (s, v))
      by true e = let own = is_own p s.opening e in
          taken_so (OpenFailed p f) Nothing (not_opened (refused s v).calm m) (ItDoesNotOpen p f (refused s v).calm (sym st.server.tables.opening ∙ own) (soon conf server frames s m v st p own quiet)) refl refl (each backs_off s.waiting (refused s v) (drawn v))
          (leads_as (Went conf server frames nothing_under_way d (not_opened (refused s v).calm m) v) (Went conf server frames nothing_under_way d (not_opened (refused s v).calm m) (said v Nothing)) (each backs_off s.waiting (refused s v) (drawn v))
          (fails_so conf server frames s m v st p own quiet) (silent (not_opened (refused s v).calm m)))
      by false e = passes (OpenFailed p f) (λ h. is_not p s.opening e (st.server.tables.opening ∙ h))

  -- none stands there
  none_there : (p : ℕ) → entry_at p s.connections ≡ None → m.conns p ≡ None
  none_there p none = by (st.server.links p)
    where
      by : LinkFits conf d m frames (dues v) v.ticket p → m.conns p ≡ None
      by (IsNone a b away) = b
      by (IsSome l x at link) = absurd (let z : None ≡ Some l = sym none ∙ at in cc)

  -- A connection
  module _ (p : ℕ) (l : Link Request) (is : entry_at p s.connections ≡ Some l) where
    found : (x : Conn) × IsLinkAt conf p (names_at d) l m x (frames p) (dues v) v.ticket
    found = link_at conf d m frames (dues v) v.ticket p l (st.server.links p) is

    abbrev x : Conn
    x = found.0

    link : IsLinkAt conf p (names_at d) l m x (frames p) (dues v) v.ticket
    link = found.1

    work : AtWork conf p l x s m frames v (dues v)
    work = record { tables = st.server.tables; links = λ q ne. st.server.links q; watched = st.server.watched; order = st.order; fair = st.fair; is = is; line = link.line }

    fair_u : IsFair (lent v)
    fair_u = record { order = st.fair.order; words = st.fair.words }

    live : has_ended l.line.stage ≡ false
    live = is_open conf (dues v) l.line.idle_time l.line.stage x.mode link.line.fits.stage

    abbrev after : Option (Link Request × View) → Option (Server × View)
    after o = option_and_then (returns (one_stream for_one) p (taken (one_stream for_one) p l s) v) o

    -- it ends for an error
    closes_so : (what : What) (error : Error) → error ≢ errors.WrongReplyForQuery → is_told p what ≡ true → Leads (ToldOf conf server frames what s m v) (after (Some (record l { line = (ends_with p error l.line (lent v)).0; octets = octets_left (ends_with p error l.line (lent v)).0.stage l.octets }, (ends_with p error l.line (lent v)).1)))
    closes_so what error right is_told_there =
        let e = ends_so p (names_at d) m x.ids l.line (lent v) link.line.seated link.line.fits.order.sorted link.line.fits.queue fair_u error right in
        taken_so what (Puts (Close p)) (end_at p m) (ItFails what p x link.line.conn is_told_there) refl refl
        (after (Some (record l { line = (ends_with p error l.line (lent v)).0; octets = octets_left (ends_with p error l.line (lent v)).0.stage l.octets }, (ends_with p error l.line (lent v)).1)))
        (ended_call conf server p l x s m frames v (dues v) work frames (λ q ne. refl) (end_at p m) (v.outs ++ Close p ∷ []) (still v.place (end_at p m)) (Rests v.place (end_at p m)) refl refl
        (ends_with p error l.line (lent v)).1 (record l { line = (ends_with p error l.line (lent v)).0; octets = octets_left (ends_with p error l.line (lent v)).0.stage l.octets }) e refl refl (e.outs ∙ sym (append-nil (v.outs ++ Close p ∷ []))) (λ q. q))

    -- so many octets were taken
    module _ (count : ℕ) where
      abbrev what : What
      what = Wrote p count

      abbrev c_of : SingleLine → Link Request
      c_of t = record l { line = t; octets = octets_left t.stage l.octets }

      open_octets : (t : SingleLine) → has_ended t.stage ≡ false → c_of t ≡ record l { line = t }
      open_octets t e = ap (λ b. record l { line = t; octets = if b then [] else l.octets }) e

      left : (t : SingleLine) (w : View) → HasWritten conf server p (names_at d) m x l.line (lent v) count t w → Leads (ToldOf conf server frames what s m v) (after (Some (c_of t, w)))
      left t w (IsHeard takes same_line same_view) =
          let n : Multi = set_conn p (heard_on x) m in
          subst (λ (w : View). Leads (ToldOf conf server frames what s m v) (after (Some (c_of t, w)))) (sym same_view)
          (subst (λ (t : SingleLine). Leads (ToldOf conf server frames what s m v) (after (Some (c_of t, lent v)))) (sym same_line)
          (taken_so what Nothing n takes refl refl (after (Some (c_of l.line, lent v)))
          (kept_call conf server p l x s m frames v (dues v) work frames (λ q ne. refl) n (v.outs ++ []) (still v.place n) (Rests v.place n) refl refl
          n (lent v) (c_of l.line) (heard_on x) refl (λ q ne. with_there p (Some (heard_on x)) m.conns q ne) refl refl (timed_same l.line.stage (lent v) fair_u)
          (record {
            place = link.place;
            timeout = link.timeout;
            line = record {
              conn = with_here p (Some (heard_on x)) m.conns;
              seated = link.line.seated;
              fits = record { stage = link.line.fits.stage; writing = link.line.fits.writing; idle = link.line.fits.idle; timeout = link.line.fits.timeout; resting = link.line.fits.resting; order = link.line.fits.order; few = link.line.fits.few; ids = link.line.fits.ids; queue = link.line.fits.queue };
            };
            settled = link.settled;
            keeps = subst (λ o. Keeps o (frames p) x.got) (sym (ap (λ (b : Bool). if b then [] else l.octets) live)) link.keeps;
          })
          refl refl refl refl (sym (ap (λ (os : List Out). os ++ []) (append-nil v.outs) ∙ append-nil v.outs)) (λ q. q))))
      left t w (WritesOn octets takes line same_view stage settled) =
          taken_so what (Puts (Resume p octets)) (set_conn p (wrote_on count x) m) takes refl refl (after (Some (c_of t, w)))
          (subst (λ (w : View). Leads (Went conf server frames nothing_under_way d (set_conn p (wrote_on count x) m) (said v (Puts (Resume p octets)))) (after (Some (c_of t, w)))) (sym same_view)
          (kept_call conf server p l x s m frames v (dues v) work frames (λ q ne. refl) (set_conn p (wrote_on count x) m) (v.outs ++ Resume p octets ∷ []) (still v.place (set_conn p (wrote_on count x) m)) (Rests v.place (set_conn p (wrote_on count x) m)) refl refl
          (set_conn p (wrote_on count x) m) (asks (Resume p octets) (lent v)) (c_of t) (wrote_on count x) refl (λ q ne. with_there p (Some (wrote_on count x)) m.conns q ne) refl refl
          (subst (λ st. IsTimed l.line.stage st (lent v) (asks (Resume p octets) (lent v))) (sym stage) (timed_by l.line.stage l.line.stage (lent v) (lent v) (asks (Resume p octets) (lent v)) refl refl refl refl refl (timed_same l.line.stage (lent v) fair_u)))
          (record { place = link.place; timeout = link.timeout; line = subst (λ (w : View). IsLineAt conf p (names_at d) t (set_conn p (wrote_on count x) m) (wrote_on count x) (dues w) w.ticket) same_view line; settled = settled; keeps = subst (λ o. Keeps o (frames p) x.got) (sym (ap (λ b. if b then [] else l.octets) (ap has_ended stage ∙ live))) link.keeps })
          refl refl refl refl (sym (append-nil (v.outs ++ Resume p octets ∷ []))) (λ q. q)))
      left t w (HasRoom takes pumped) =
          let none_ended = is_open conf (dues w) t.idle_time t.stage (pumped.taken.conn).mode pumped.taken.line.fits.stage in
          taken_so what Nothing (set_conn p (wrote_on count x) m) takes refl refl (after (Some (c_of t, w)))
          (subst (λ c. Leads (Went conf server frames nothing_under_way d (set_conn p (wrote_on count x) m) (said v Nothing)) (after (Some (c, w)))) (sym (open_octets t none_ended))
          (pumped_call conf server p l x (wrote_on count x) s m (set_conn p (wrote_on count x) m) frames v work link refl (λ q ne. with_there p (Some (wrote_on count x)) m.conns q ne) refl refl refl
          (record l.line { writing = None }) refl (λ i at. at) t w pumped (quiet p x link.line.conn) (v.outs ++ []) (pumped.taken.outs ∙ ap (λ (os : List Out). os ++ pumped.taken.made.outs) (sym (append-nil v.outs)))))
      left t w (FailsWriting takes e is_ended) =
          taken_so what (Puts (Close p)) (end_at p m) takes refl refl (after (Some (c_of t, w)))
          (ended_call conf server p l x s m frames v (dues v) work frames (λ q ne. refl) (end_at p m) (v.outs ++ Close p ∷ []) (still v.place (end_at p m)) (Rests v.place (end_at p m)) refl refl
          w (c_of t) e is_ended refl (e.outs ∙ sym (append-nil (v.outs ++ Close p ∷ []))) (λ q. q))

      writes_so : Leads (ToldOf conf server frames what s m v) (after (option_and_then (λ y. Some (c_of y.0, y.1)) (wrote for_one for_several p l.settings count l.line (lent v) l.line.writing)))
      writes_so = by (wrote for_one for_several p l.settings count l.line (lent v) l.line.writing) (wrote_so conf server p l.settings link.timeout (names_at d) m x l.line (lent v) link.line fair_u link.settled (quiet p x link.line.conn) count)
        where
          by : (o : Option (SingleLine × View)) → Leads (HasWritten conf server p (names_at d) m x l.line (lent v) count) o → Leads (ToldOf conf server frames what s m v) (after (option_and_then (λ y. Some (c_of y.0, y.1)) o))
          by None h = tt
          by (Some y) h = left y.0 y.1 h

  -- A call of the connection at a place, if there is one

  -- it is at that place, and lives
  at_place : (what : What) (p : ℕ) (l : Link Request) (is : entry_at p s.connections ≡ Some l) (own : ℕ → Option (Link Request × View)) (test : (l.place == p) ≡ true → Leads (ToldOf conf server frames what s m v) (after p l is (own p)))
      → Leads (ToldOf conf server frames what s m v) (after p l is (if has_ended l.line.stage then Some (l, lent v) else (if l.place == p then own l.place else Some (l, lent v))))
  at_place what p l is own test =
      let place = (link p l is).place in
      subst (λ b. Leads (ToldOf conf server frames what s m v) (after p l is (if b then Some (l, lent v) else (if l.place == p then own l.place else Some (l, lent v))))) (sym (live p l is))
      (subst (λ b. Leads (ToldOf conf server frames what s m v) (after p l is (if b then own l.place else Some (l, lent v)))) (sym (itself p l.place place))
      (subst (λ q. Leads (ToldOf conf server frames what s m v) (after p l is (own q))) (sym place) (test (itself p l.place place))))

  told_wrote : (p n : ℕ) → Leads (ToldOf conf server frames (Wrote p n) s m v) (hears_at (one_stream for_one) (told (Wrote p n)) s v (Some p))
  told_wrote p n = by (entry_at p s.connections) refl
    where
      by : (o : Option (Link Request)) → entry_at p s.connections ≡ o → Leads (ToldOf conf server frames (Wrote p n) s m v) (calls (one_stream for_one) p ((one_stream for_one).calls.step (told (Wrote p n))) s v o)
      by None e = passes (Wrote p n) (none_there p e)
      by (Some l) e = at_place (Wrote p n) p l e (λ q. option_and_then (λ y. Some (record l { line = y.0; octets = octets_left y.0.stage l.octets }, y.1)) (wrote for_one for_several q l.settings n l.line (lent v) l.line.writing)) (λ same. writes_so p l e n)

  -- an event after which the connection closes
  told_broken : (what : What) (p : ℕ) (error : Link Request → Error) → ((l : Link Request) → error l ≢ errors.WrongReplyForQuery) → is_told p what ≡ true → (m.conns p ≡ None → IsForeign what m)
      → (o : Option (Link Request)) → entry_at p s.connections ≡ o
      → Leads (ToldOf conf server frames what s m v) (calls (one_stream for_one) p (λ l u. if has_ended l.line.stage then Some (l, u) else (if l.place == p then option_and_then (λ y. Some (record l { line = y.0; octets = octets_left y.0.stage l.octets }, y.1)) (Some (ends_with l.place (error l) l.line u)) else Some (l, u))) s v o)
  told_broken what p error right is foreign None e = passes what (foreign (none_there p e))
  told_broken what p error right is foreign (Some l) e = at_place what p l e (λ q. Some (record l { line = (ends_with q (error l) l.line (lent v)).0; octets = octets_left (ends_with q (error l) l.line (lent v)).0.stage l.octets }, (ends_with q (error l) l.line (lent v)).1)) (λ same. closes_so p l e what (error l) (right l) is)

  only : (p q : ℕ) → (p == q) ≡ true → p ≡ q
  only p q e = grind (arith, nat_tests)

  -- whoever is told of a place is told of no other
  foreign_there : (p : ℕ) (ev : What) → ((q : ℕ) → is_told q ev ≡ true → p ≡ q) → m.conns p ≡ None → (q : ℕ) → is_told q ev ≡ true → m.conns q ≡ None
  foreign_there p ev same none q told_there = ap m.conns (sym (same q told_there)) ∙ none

  in_body : (os : List ℕ) → end_error os ≢ errors.WrongReplyForQuery
  in_body os = by (is_in_body os)
    where
      by : (b : Bool) → (if b then errors.StreamUnexpectedEndOfData else errors.StreamReadError fault.EndOfData) ≢ errors.WrongReplyForQuery
      by true = λ e. cc
      by false = λ e. cc

  none_told : (ev : What) → ((q : ℕ) → is_told q ev ≡ false) → (q : ℕ) → is_told q ev ≡ true → m.conns q ≡ None
  none_told ev never q told_there = absurd (let z : false ≡ true = sym (never q) ∙ told_there in cc)

  pub told_so : (several : ℕ) (what : What) → ((p : ℕ) (o : Octets) → what ≢ Bytes p o) → Leads (ToldOf conf server frames what s m v) (tells (one_stream for_one) server (streams_of several conf) what s v)
  told_so several (Ask r) other = passes (Ask r) (none_told (Ask r) (λ q. refl))
  told_so several (Opened p) other = opens several p
  told_so several (OpenFailed p f) other = fails p f
  told_so several (SendFailed p f) other = passes (SendFailed p f) tt
  told_so several (ShortSend p) other = passes (ShortSend p) tt
  told_so several (Datagram p o) other = passes (Datagram p o) (none_told (Datagram p o) (λ q. refl))
  told_so several (RecvFailed p f) other = passes (RecvFailed p f) tt
  told_so several (Wrote p n) other = told_wrote p n
  told_so several (WriteFailed p f) other = told_broken (WriteFailed p f) p (λ l. errors.StreamWriteError f) (λ l e. cc) (itself p p refl) (foreign_there p (WriteFailed p f) (λ q e. only p q e)) (entry_at p s.connections) refl
  told_so several (Bytes p o) other = absurd (other p o refl)
  told_so several (ReadFailed p f) other = told_broken (ReadFailed p f) p (λ l. errors.StreamReadError f) (λ l e. cc) (itself p p refl) (foreign_there p (ReadFailed p f) (λ q e. only p q e)) (entry_at p s.connections) refl
  told_so several (Ended p) other = told_broken (Ended p) p (λ l. end_error l.octets) (λ l. in_body l.octets) (itself p p refl) (foreign_there p (Ended p) (λ q e. only p q e)) (entry_at p s.connections) refl
  told_so several Tick other = passes Tick (none_told Tick (λ q. refl))

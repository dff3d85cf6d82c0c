-- What a move of one server's part writes may be answered in the same row.
use Rattle.std.proofs.Common.{◌≡◌, ◌≢◌, ℕ, ◌+◌, ◌<◌, Bool, true, false, ◌&&◌, ◌||◌, ◌⊎◌, inl, inr, Option, Some, List, [], ◌∷◌, ◌++◌, is_some, refl, arith, ◌∙◌, sym, subst, ap, ◌==◌}
use Rattle.std.specs.Prelude.{if◌then◌else◌, nat_lt}
use Rattle.std.proofs.lemmas.Bool.{cases_eq, eqb-true}
use Rattle.std.proofs.lemmas.Bool.Decides.{nat_tests}
use Rattle.client_request.specs.Request.{Request}
use Rattle.client_request.specs.declared.event.What.{What}
use Rattle.client_request.specs.declared.event.What.TheVariants.{Bytes}
use Rattle.client_request.specs.declared.event.Out.{Out}
use Rattle.client_request.specs.declared.event.Out.TheVariants.{Start, OpenDgram, OpenStream, Send, Write, Resume, Close, Reply, Stale}
use Rattle.client_request.specs.declared.event.Via.{Via}
use Rattle.client_request.specs.declared.event.Via.TheVariants.{Dgram, Stream}
use Rattle.right_trace.specs.Trace.{History, Conf, Put, put_all}
use Rattle.right_trace.specs.Time.{now, stream_timeout}
use Rattle.right_trace.specs.Messages.{Octets, answers}
use Rattle.right_trace.specs.Requests.{Asking, asking, is_ask, start, started}
use Rattle.right_trace.specs.Places.{Site, site}
use Rattle.right_trace.specs.Frames.{came, fed, first_with}
use Rattle.right_trace.specs.Writes.{waiting_with}
use Rattle.right_trace.specs.Exchanges.{octets_for, is_before, waited_for, IsAmong, Comes}
use Rattle.proof_right.specs.machine.Streams.{Act, Puts, Gives, Nothing, Asker, Conn, Multi, Moves, TakesFrame}
use Rattle.right_trace.specs.Updates.{with_at}
use Rattle.proof_right.specs.machine.Dgrams.{Stage, Queued, Trying, Sent, Ending, Cut, Tryer, Dgrams, Tries, Meets}
use Rattle.proof_right.specs.machine.Served.{Served, holds, has_moved, does, outs_of, Acts, Settles, AsItIs, WithResult}
use Rattle.proof_right.proofs.server.Expecting.{Expects}
use Rattle.proof_right.specs.machine.Part.{Act as Step}
use Rattle.proof_right.proofs.PartLaws.{Late}
use Rattle.proof_right.proofs.server.Kept.{stream_site, brings_to, ConnFits, AskFits}
use Rattle.proof_right.proofs.server.Views.{at_here, each_at, each_other}
use Rattle.proof_right.proofs.server.Coming.{site_past, asking_past}
use Rattle.proof_right.proofs.server.Ending.{at_is}
use Rattle.proof_right.proofs.server.Untaken.{InOctets, IsUntaken, expects_it}
use Rattle.proof_right.proofs.server.Fitting.{Fits, bytes_or, no_frames_came, elsewhere}
use Rattle.proof_right.proofs.server.Handing.{before_of, waited_start, not_start}
use Rattle.proof_right.specs.machine.Streams as multi
use Rattle.proof_right.specs.machine.Dgrams as dgrams
use Rattle.proof_right.specs.machine.Served as served

-- an out that neither writes nor hands over
abbrev pub IsQuiet : Out → Type 0
IsQuiet (Start k s v) = ⊥
IsQuiet (Write p k id o) = ⊥
IsQuiet _ = Unit {0}

waits_same : (o : Out) → IsQuiet o → (p id : ℕ) (h : History) → waiting_with [] p id (Put o ∷ h) ≡ waiting_with [] p id h
waits_same (Start k s v) q p id h = absurd q
waits_same (OpenDgram r s) q p id h = refl
waits_same (OpenStream r s) q p id h = refl
waits_same (Send r k i o) q p id h = refl
waits_same (Write r k i o) q p id h = absurd q
waits_same (Resume r o) q p id h = refl
waits_same (Stale l) q p id h = refl
waits_same (Close r) q p id h = refl
waits_same (Reply k x) q p id h = refl

starts_same : (o : Out) → IsQuiet o → (k s : ℕ) (h : History) → start k s Stream (Put o ∷ h) ≡ start k s Stream h
starts_same (Start j t v) q k s h = absurd q
starts_same (OpenDgram r t) q k s h = refl
starts_same (OpenStream r t) q k s h = refl
starts_same (Send r j i o) q k s h = refl
starts_same (Write r j i o) q k s h = absurd q
starts_same (Resume r o) q k s h = refl
starts_same (Stale l) q k s h = refl
starts_same (Close r) q k s h = refl
starts_same (Reply j x) q k s h = refl

pub comes_out : (c : Conf) (r : Request) (v : Via) (s p k id : ℕ) (m : Octets) (past : History) (w : What) (o : Out) (h : History) → IsQuiet o → Comes c r v s p k id m past w (Put o ∷ h) → Comes c r v s p k id m past w h
comes_out c r v s p k id m past w o h q x = (let y = x.is_open in record { is_open = record { stands = y.stands; octets = y.octets; sent = back v y.sent; carries = y.carries }; first = x.first })
  where
    back : (v : Via) → IsAmong x.is_open.octets (waited_for c v r s p k id (now h) [] past (Put o ∷ h)) → IsAmong x.is_open.octets (waited_for c v r s p k id (now h) [] past h)
    back Dgram i = i
    back Stream i = subst (λ t. IsAmong x.is_open.octets (if is_before c (now h) t then octets_for k (waiting_with [] p id h) else [])) (starts_same o q k s h) (subst (λ ws. IsAmong x.is_open.octets (if is_before c (now h) (start k s Stream (Put o ∷ h)) then octets_for k ws else [])) (waits_same o q p id h) i)

-- what comes by a move came before, or it is by stream for this server, and is still to be taken, in time
abbrev pub ComesLate : (c : Conf) (s : ℕ) (past : History) (w : What) (h : History) (d : Step Served) → Type 0
ComesLate c s past w h d = (t : ℕ) (r : Request) (v : Via) (p k id : ℕ) (m : Octets) → Comes c r v t p k id m past w (put_all d.outs h) → Comes c r v t p k id m past w h ⊎ ((t ≡ s) × (v ≡ Stream) × ((a : Asker) × IsUntaken d.state p k id m a × (a.request ≡ r) × (d.state.clock < a.since + stream_timeout c)))

-- so it is of what matches
pub late_of : (c : Conf) (s : ℕ) (past : History) (w : What) (h : History) (d : Step Served) → ComesLate c s past w h d → Late c Served holds (Expects c) s past w h d
late_of c s past w h d late t r v p k id m z = elim (late t r v p k id m z.comes) [
  | inl y ↦ inl (record { comes = y; agrees = z.agrees; whole = z.whole })
  | inr y ↦ inr (y.0, or_last (is_some (d.state.server.by_dgram.held k)) (is_some (d.state.server.by_stream.asks k)) (ap is_some y.2.1.ask), expects_it c d.state p k id m y.2.0 y.2.1 y.2.3 (subst (λ r. answers r id m ≡ true) (sym y.2.2) z.agrees))
]
  where
    or_last : (x y : Bool) → y ≡ true → (x || y) ≡ true
    or_last true y e = refl
    or_last false y e = e

module _ (c : Conf) (s next : ℕ) (past : History) (w : What) (u : Served) (h : History) (f : Fits c s past w u h) where
  -- a request that goes on by stream was not written before
  comes_on_stream : (k : ℕ) → started k s Stream h ≡ false → (r : Request) (v : Via) (i p j id : ℕ) (m : Octets) → Comes c r v i p j id m past w (Put (Start k s Stream) ∷ h) → Comes c r v i p j id m past w h
  comes_on_stream k un r v i p j id m x = (let y = x.is_open in record { is_open = record { stands = y.stands; octets = y.octets; sent = back v y.stands.at y.sent; carries = y.carries }; first = x.first })
    where
      ne : site p past ≡ Some (record { via = Stream; server = i }) → IsAmong x.is_open.octets (octets_for j (waiting_with [] p id h)) → i ≡ s → k ≢ j
      ne at a is same =
          let here : site p h ≡ Some (stream_site s) = subst (λ i. site p h ≡ Some (record { via = Stream; server = i })) is (site_past p (record { via = Stream; server = i }) h (ap (site p) f.streams.row.before ∙ at)) in
          let b = f.begun p j id x.is_open.octets (at_is s p h here) a in
          (let z : started k s Stream h ≡ true = subst (λ k. started k s Stream h ≡ true) (sym same) b in let y : true ≡ false = sym z ∙ un in cc)

      back : (v : Via) → site p past ≡ Some (record { via = v; server = i }) → IsAmong x.is_open.octets (waited_for c v r i p j id (now h) [] past (Put (Start k s Stream) ∷ h)) → IsAmong x.is_open.octets (waited_for c v r i p j id (now h) [] past h)
      back Dgram at a = a
      back Stream at a = waited_start c k s i Stream Stream r p j id x.is_open.octets [] past h (not_start k s j i Stream (ne at (before_of (is_before c (now h) (start j i Stream (Put (Start k s Stream) ∷ h))) x.is_open.octets (octets_for j (waiting_with [] p id h)) a).1)) a

  abbrev IsQuietAct : Act → Type 0
  IsQuietAct (Puts o) = IsQuiet o
  IsQuietAct (Gives k x) = Unit {0}
  IsQuietAct Nothing = Unit {0}

  quiet_back : (x : Act) → IsQuietAct x → (t : ℕ) (r : Request) (v : Via) (p k id : ℕ) (m : Octets) → Comes c r v t p k id m past w (put_all (outs_of x) h) → Comes c r v t p k id m past w h
  quiet_back (Puts o) q t r v p k id m z = comes_out c r v t p k id m past w o h q z
  quiet_back (Gives j y) q t r v p k id m z = z
  quiet_back Nothing q t r v p k id m z = z

  settles_late : (y : Served) (x : Act) (d : Step Served) → IsQuietAct x → ((k : ℕ) (a : Tryer) → y.server.by_dgram.held k ≡ Some a → (b : Tryer) × (u.server.by_dgram.held k ≡ Some b)) → Settles s u.clock next y x d → ComesLate c s past w h d
  settles_late y x _ q was (AsItIs set) t r v p j id m z = inl (quiet_back x q t r v p j id m z)
  settles_late y x _ q was (WithResult k a g held stage) t r v p j id m z = inl (quiet_back x q t r v p j id m z)

  some_at : (k : ℕ) (a b : Tryer) (g : ℕ → Option Tryer) → g k ≡ Some a → (j : ℕ) (x : Tryer) → with_at k (Some b) g j ≡ Some x → (y : Tryer) × (g j ≡ Some y)
  some_at k a b g e j x i = each_at (λ j (x : Tryer). (y : Tryer) × (g j ≡ Some y)) k b g (a, e) (λ j x ne i. (x, i)) j x i

  pub tries_late : (d : Dgrams) (x : Act) → Tries c s u.clock next u.server.by_dgram x d → IsQuietAct x × ((k : ℕ) (a : Tryer) → d.held k ≡ Some a → (b : Tryer) × (u.server.by_dgram.held k ≡ Some b))
  tries_late _ _ (dgrams.Opens k b held stage few) = (tt, some_at k b _ u.server.by_dgram.held held)
  tries_late _ _ (dgrams.Retries k b p id t held stage late few) = (tt, some_at k b _ u.server.by_dgram.held held)
  tries_late _ _ (dgrams.StopsTrying k b p id t held stage late six) = (tt, some_at k b _ u.server.by_dgram.held held)
  tries_late _ _ (dgrams.Ends k b x held stage) = (tt, each_other (λ j (x : Tryer). (y : Tryer) × (u.server.by_dgram.held j ≡ Some y)) k u.server.by_dgram.held (λ j x ne i. (x, i)))

  pub meets_late : (d : Dgrams) (v : What) (x : Act) → Meets c u.clock u.server.by_dgram v x d → IsQuietAct x × ((k : ℕ) (a : Tryer) → d.held k ≡ Some a → (b : Tryer) × (u.server.by_dgram.held k ≡ Some b))
  meets_late _ _ _ (dgrams.IsSent k a p id o at held stage carries) = (tt, some_at k a _ u.server.by_dgram.held held)
  meets_late _ _ _ (dgrams.CannotBeSent k a p e at held stage bad) = (tt, some_at k a _ u.server.by_dgram.held held)
  meets_late _ _ _ (dgrams.DoesNotOpen k a p g at held stage) = (tt, some_at k a _ u.server.by_dgram.held held)
  meets_late _ _ _ (dgrams.NotSent k a p id t g at held stage) = (tt, some_at k a _ u.server.by_dgram.held held)
  meets_late _ _ _ (dgrams.SentShort k a p id t at held stage) = (tt, some_at k a _ u.server.by_dgram.held held)
  meets_late _ _ _ (dgrams.NotReceived k a p id t g at held stage) = (tt, some_at k a _ u.server.by_dgram.held held)
  meets_late _ _ _ (dgrams.IsAnswered k a p id t o at held stage long ok) = (tt, some_at k a _ u.server.by_dgram.held held)

  takes_quiet : (m : Multi) (v : What) (x : Act) → multi.Takes c u.clock u.server.by_stream v x m → IsQuietAct x
  takes_quiet _ _ _ (multi.ItOpens p op) = tt
  takes_quiet _ _ _ (multi.ItDoesNotOpen p g calm op lt) = tt
  takes_quiet _ _ _ (multi.ItFails w p x conn told) = tt
  takes_quiet _ _ _ (multi.SomeWritten p c x o conn lt) = tt
  takes_quiet _ _ _ (multi.AllWritten p c x conn some le) = tt
  takes_quiet _ _ _ (multi.NothingToWrite p c x conn none) = tt
  takes_quiet _ _ _ (multi.OctetsCome p o x conn) = tt

  frame_quiet : (p : ℕ) (g : Octets) (m : Multi) (x : Act) → TakesFrame u.clock p g u.server.by_stream x m → IsQuietAct x
  frame_quiet p g _ _ (multi.IsBad x conn bad) = tt
  frame_quiet p g _ _ (multi.IsUnknown x conn good none) = tt
  frame_quiet p g _ _ (multi.IsLate x y mode conn good held late leaves) = tt
  frame_quiet p g _ _ (multi.IsResult x y mode a conn good held ask phase leaves) = tt
  frame_quiet p g _ _ (multi.IsDropped none) = tt

  -- A write may be answered by the row's event, which is not taken yet.
  module _ (k p id : ℕ) (a : Asker) (x : Conn) (o : Octets) (ask : u.server.by_stream.asks k ≡ Some a) (conn : u.server.by_stream.conns p ≡ Some x) (unheard : x.heard ≡ false) (d : Step Served) (outs : d.outs ≡ Write p k id o ∷ []) (clock : d.state.clock ≡ u.clock) (pending : d.state.pending ≡ u.pending) (taken : d.state.taken ≡ u.taken)
      (b : Asker) (ask' : d.state.server.by_stream.asks k ≡ Some b) (same : b.request ≡ a.request) (since : b.since ≡ a.since) (phase : b.phase ≡ multi.Holding p id) (y : Conn) (conn' : d.state.server.by_stream.conns p ≡ Some y) (got : y.got ≡ x.got) where
    abbrev h' : History
    h' = Put (Write p k id o) ∷ h

    fit : ConnFits c s p past u.pending (f.fr p) (f.more p) x h
    fit = f.streams.conns p x conn

    asker : AskFits c s k a u.server.by_stream.conns u.server.by_stream.opening h
    asker = f.streams.asks k a ask

    -- the event is octets for this place, and is pending
    record IsPending (m : Octets) : Type 0 where
      pub octets : Octets
      pub event : u.pending ≡ Bytes p octets
      pub untaken : u.taken ≡ false
      pub first : first_with id (fed x.got octets).frames ≡ Some m

    none_first : (m : Octets) (ms : List Octets) → ms ≡ [] → first_with id ms ≡ Some m → ⊥
    none_first m ms e g = (let z : first_with id [] ≡ Some m = subst (λ ms. first_with id ms ≡ Some m) e g in cc)

    is_pending : (m : Octets) → first_with id (came p w past) ≡ Some m → IsPending m
    is_pending m first = go u.taken refl
      where
        here : (f.fr p ++ f.more p) ≡ came p w past
        here = fit.frames ∙ f.streams.row.came p

        empty : f.fr p ≡ []
        empty = fit.unheard unheard

        at : f.more p ≡ came p w past
        at = sym (ap (λ l. l ++ f.more p) empty) ∙ here

        octets : (q : ℕ) × (z : Octets) × (w ≡ Bytes q z) → u.taken ≡ false → IsPending m
        octets e un = elim (cases_eq (e.0) p) [
          | inl is ↦
              (let z = e.1 in
              let event : u.pending ≡ Bytes p z = (f.untaken un).pending ∙ (e.2 ∙ ap (λ q. Bytes q z) is) in
              let it : (p == p) ≡ true = grind (arith, nat_tests) in
              let read = fit.read.frames (rw (event, it) refl) in
              let frames : f.more p ≡ (fed x.got z).frames = read ∙ (rw (event, it) refl) in
              record { octets = z; event = event; untaken = un; first = ap (first_with id) (sym frames ∙ at) ∙ first })
          | inr ne ↦ absurd (none_first m (came p w past) (subst (λ w. came p w past ≡ []) (sym e.2) (elsewhere (e.0) p (e.1) past ne)) first)
        ]

        go : (t : Bool) → u.taken ≡ t → IsPending m
        go false un = elim (bytes_or w) [
          | inl other ↦ absurd (none_first m (came p w past) (no_frames_came c s p w past h f.streams.row.before fit.at other) first)
          | inr e ↦ octets e un
        ]
        go true tk = absurd (let none : f.more p ≡ [] = fit.unread unheard (ap (λ v. brings_to p v) (f.taken tk).pending) in none_first m (came p w past) (sym at ∙ none) first)

    lt_of : (n z : ℕ) → nat_lt n z ≡ true → n < z
    lt_of n z e = grind (arith, nat_tests)

    soon : is_before c (now h) (start k s Stream h) ≡ true → d.state.clock < b.since + stream_timeout c
    soon e =
        let g : nat_lt (now h) (a.since + stream_timeout c) ≡ true = subst (λ t. is_before c (now h) t ≡ true) asker.since e in
        let lt = lt_of (now h) (a.since + stream_timeout c) g in
        let c = f.clock in
        let c' = clock in
        let n = since in
        omega arith

    -- what is written now, or what waited before
    new_or_old : (q j i : ℕ) (z : Octets) (bw bi bk : Bool) → (p == q) ≡ bw → (id == i) ≡ bi → (k == j) ≡ bk → IsAmong z (octets_for j (if (bw && bi) && true then record { request = k; octets = o; moment = now h } ∷ waiting_with [] q i h else waiting_with [] q i h)) → ((p ≡ q) × ((id ≡ i) × (k ≡ j))) ⊎ IsAmong z (octets_for j (waiting_with [] q i h))
    new_or_old q j i z true true true e g l n = inl (eqb-true p q e, (eqb-true id i g, eqb-true k j l))
    new_or_old q j i z true true false e g l n = inr (subst (λ b. IsAmong z (if b then o ∷ octets_for j (waiting_with [] q i h) else octets_for j (waiting_with [] q i h))) l n)
    new_or_old q j i z true false bk e g l n = inr n
    new_or_old q j i z false bi bk e g l n = inr n

    request_is : (r : Request) (n : ℕ) → asking k past ≡ Some (record { request = r; moment = n }) → is_ask w ≡ false → r ≡ a.request
    request_is r n e no_ask =
        let old : asking k past ≡ asking k h = ap (asking k) (sym f.streams.row.before) ∙ asking_past k h (ap is_ask f.streams.row.event ∙ no_ask) in
        let z : record { request = r; moment = n } ≡ record { request = a.request; moment = asker.asked.0 } = (let v = sym e ∙ (old ∙ asker.asked.1) in cc) in
        ap (λ (x : Asking). x.request) z

    pub write_late : ComesLate c s past w h d
    write_late t r v q j i m z = go v refl (subst (λ os. Comes c r v t q j i m past w (put_all os h)) outs z)
      where
        newly : Comes c r Stream t q j i m past w h' → p ≡ q → id ≡ i → k ≡ j → (t ≡ s) × ((a : Asker) × IsUntaken d.state q j i m a × (a.request ≡ r) × (d.state.clock < a.since + stream_timeout c))
        newly x' e g l =
            let pend = is_pending m (subst (λ i. first_with i (came p w past) ≡ Some m) (sym g) (subst (λ q. first_with i (came q w past) ≡ Some m) (sym e) x'.first)) in
            let at : site p past ≡ Some (record { via = Stream; server = t }) = subst (λ q. site q past ≡ Some (record { via = Stream; server = t })) (sym e) x'.is_open.stands.at in
            let is : t ≡ s = (let y : site p h ≡ Some (record { via = Stream; server = t }) = site_past p (record { via = Stream; server = t }) h (ap (site p) f.streams.row.before ∙ at) in let v : record { via = Stream; server = t } ≡ stream_site s = (let v = sym y ∙ fit.at in cc) in ap (λ (x : Site). x.server) v) in
            let early = (before_of (is_before c (now h) (start j t Stream h)) x'.is_open.octets (octets_for j (waiting_with [] q i h')) x'.is_open.sent).0 in
            let early' : is_before c (now h) (start k s Stream h) ≡ true = subst (λ t. is_before c (now h) (start k t Stream h) ≡ true) is (subst (λ j. is_before c (now h) (start j t Stream h) ≡ true) (sym l) early) in
            let event : w ≡ Bytes p pend.octets = sym (f.untaken pend.untaken).pending ∙ pend.event in
            let req = request_is r x'.is_open.stands.asked.0 (subst (λ j. asking j past ≡ Some (record { request = r; moment = x'.is_open.stands.asked.0 })) (sym l) x'.is_open.stands.asked.1) (ap is_ask event) in
            let it : IsUntaken d.state p k id m b = record { ask = ask'; phase = phase; conn = y; is_conn = conn'; source = InOctets pend.octets (pending ∙ pend.event) (taken ∙ pend.untaken) (subst (λ g. first_with id (fed g pend.octets).frames ≡ Some m) (sym got) pend.first) } in
            (is, (b, subst (λ i. IsUntaken d.state q j i m b) g (subst (λ j. IsUntaken d.state q j id m b) l (subst (λ q. IsUntaken d.state q k id m b) e it)), same ∙ sym req, soon early'))

        go : (u : Via) → v ≡ u → Comes c r v t q j i m past w h' → Comes c r v t q j i m past w h ⊎ ((t ≡ s) × (v ≡ Stream) × ((a : Asker) × IsUntaken d.state q j i m a × (a.request ≡ r) × (d.state.clock < a.since + stream_timeout c)))
        go Dgram e x' = (let y = x'.is_open in inl (record { is_open = record { stands = y.stands; octets = y.octets; sent = subst (λ v. IsAmong y.octets (waited_for c v r t q j i (now h) [] past h)) (sym e) (subst (λ v. IsAmong y.octets (waited_for c v r t q j i (now h) [] past h')) e y.sent); carries = y.carries }; first = x'.first }))
        go Stream e x' =
            let y = x'.is_open in
            let sent : IsAmong y.octets (waited_for c Stream r t q j i (now h) [] past h') = subst (λ v. IsAmong y.octets (waited_for c v r t q j i (now h) [] past h')) e y.sent in
            let both = before_of (is_before c (now h) (start j t Stream h)) y.octets (octets_for j (waiting_with [] q i h')) sent in
            elim (new_or_old q j i y.octets (p == q) (id == i) (k == j) refl refl refl both.1) [
              | inl new ↦ (let z = newly (subst (λ v. Comes c r v t q j i m past w h') e x') new.0 new.1.0 new.1.1 in inr (z.0, e, z.1))
              | inr old ↦ inl (record { is_open = record { stands = y.stands; octets = y.octets; sent = subst (λ v. IsAmong y.octets (waited_for c v r t q j i (now h) [] past h)) (sym e) (rw both.0 old); carries = y.carries }; first = x'.first })
            ]

  moves_late : (m : Multi) (x : Act) → Moves c s u.clock next u.server.by_stream x m → ComesLate c s past w h (does (has_moved (record u.server { by_stream = m }) u) next x)
  moves_late _ _ (multi.Joins k a p x ask phase conn) t r v q j i n z = inl z
  moves_late _ _ (multi.Expects k a p ask phase op) t r v q j i n z = inl z
  moves_late _ _ (multi.Opens k a ask phase none full) t r v q j i n z = inl (comes_out c r v t q j i n past w (OpenStream next s) h tt z)
  moves_late _ _ (multi.Meets k a until ask phase calm low high) t r v q j i n z = inl z
  moves_late _ _ (multi.BacksOff k a until ask phase low high) t r v q j i n z = inl z
  moves_late _ _ (multi.Writes k a p x id o ask phase conn none quiet unheld carries some) t r v q j i n z = write_late k p id a x o ask conn quiet (does (has_moved (record u.server { by_stream = multi.set_conn p (multi.written_on id k u.clock o x) (multi.move k a (multi.Holding p id) u.server.by_stream) }) u) next (Puts (Write p k id o))) refl refl refl refl _ (at_here k _ u.server.by_stream.asks) refl refl refl _ (at_here p _ u.server.by_stream.conns) refl t r v q j i n z
  moves_late _ _ (multi.CannotWrite k a p x ask phase conn none bad) t r v q j i n z = inl z
  moves_late _ _ (multi.FindsNoId k a p x ask phase conn none full) t r v q j i n z = inl z
  moves_late _ _ (multi.GoesOn k a until ask phase late) t r v q j i n z = inl z
  moves_late _ _ (multi.TimesOut k a ask late) t r v q j i n z = inl z
  moves_late _ _ (multi.ReadsNothing p x since conn mode late) t r v q j i n z = inl (comes_out c r v t q j i n past w (Close p) h tt z)
  moves_late _ _ (multi.RestsTooLong p x since conn mode late pumped) t r v q j i n z = inl (comes_out c r v t q j i n past w (Close p) h tt z)

  pub acts_come : (d : Step Served) → Acts c s next u d → ComesLate c s past w h d
  acts_come d (served.ByDgram x e _ tries set) = (let t = tries_late e x tries in settles_late _ x d t.0 t.1 set)
  acts_come _ (served.ByStream x m move) = moves_late m x move
  acts_come _ (served.FallsBack k a held stage) = λ t r v q j i n z. inl (comes_on_stream k (f.dgrams.held k a held).unstreamed r v t q j i n z)
  acts_come d (served.TellsDgrams x e _ un soon meets foreign set) = (let t = meets_late e u.pending x meets in settles_late _ x d t.0 t.1 set)
  acts_come _ (served.TellsStreams x m un plain takes ignored) = λ t r v q j i n z. inl (quiet_back x (takes_quiet m u.pending x takes) t r v q j i n z)
  acts_come _ (served.Reads p o x un pend conn) = λ t r v q j i n z. inl z
  acts_come _ (served.TakesOne g gs x m is soon frame) = λ t r v q j i n z. inl (quiet_back x (frame_quiet u.place g m x frame) t r v q j i n z)
  acts_come _ (served.ClosesFirst g gs k y m x since is soon frame conn mode late pumped) = λ t r v q j i n z. inl (comes_out c r v t q j i n past w (Close u.place) h tt z)

  pub acts_late : (d : Step Served) → Acts c s next u d → Late c Served holds (Expects c) s past w h d
  acts_late d act = late_of c s past w h d (acts_come d act)

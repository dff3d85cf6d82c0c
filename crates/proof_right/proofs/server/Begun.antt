-- A row begins, for one server's part.
use Rattle.proof_right.proofs.Received.{received_first}
use Rattle.std.proofs.Common.{◌≡◌, ◌≢◌, ℕ, ◌+◌, ◌≤◌, ◌<◌, max, Bool, true, false, not, ◌&&◌, ◌||◌, ◌⊎◌, inl, inr, Option, Some, None, List, [], ◌∷◌, ◌++◌, is_some, refl, arith, ◌∙◌, sym, subst, ap, ◌==◌, length, take}
use Rattle.std.specs.Prelude.{if◌then◌else◌, nat_lt, nat_le}
use Rattle.std.proofs.lemmas.List.{append-nil}
use Rattle.std.proofs.lemmas.Bool.{cases_eq}
use Rattle.std.proofs.lemmas.Bool.Decides.{nat_tests}
use Rattle.client_request.specs.declared.event.What.{What}
use Rattle.client_request.specs.declared.event.Event.{Event}
use Rattle.client_request.specs.Request.{Request}
use Rattle.client_request.specs.declared.event.Via.{Via}
use Rattle.client_request.specs.declared.event.What.TheVariants.{Tick, Bytes, Datagram}
use Rattle.client_request.specs.declared.event.Via.TheVariants.{Dgram, Stream}
use Rattle.right_trace.specs.Trace.{History, Conf, Came}
use Rattle.right_trace.specs.Time.{now, read_timeout, stream_timeout, recv_size}
use Rattle.right_trace.specs.Messages.{Octets, answers, truncated, CarriesBy}
use Rattle.right_trace.specs.Requests.{Asking, asking, start, started, handed}
use Rattle.right_trace.specs.Places.{site, is_at, is_of_kind, Opening, Alive, stand, is_alive, is_live}
use Rattle.right_trace.specs.Frames.{came, came_here, brings, first_with, fed, reading, is_alive_stream, received}
use Rattle.right_trace.specs.Writes.{Written, IsWritten, waiting_with, waiting}
use Rattle.right_trace.specs.Exchanges.{octets_for, IsAmong, is_before, unanswered, has_answer, waited_for, first_of, Comes, Matches}
use Rattle.right_trace.specs.Causes.{Heard}
use Rattle.proof_right.specs.machine.Streams.{Asker, Conn, IsForeign, unheard}
use Rattle.proof_right.specs.machine.Dgrams.{no_datagram, IsIgnored, Stage, Queued, Trying, Sent, Ending, Cut, Tryer}
use Rattle.proof_right.specs.machine.Served.{Served, unserved, row_begun, RestsNow, holds}
use Rattle.proof_right.proofs.server.Expecting.{Expects, ByDatagram, ByOctets, InFrames}
use Rattle.proof_right.proofs.server.Kept.{stream_site, listed, ConnFits}
use Rattle.proof_right.proofs.server.Ending.{at_is}
use Rattle.right_trace.specs.Owed.{IsOwed}
use Rattle.proof_right.proofs.client.Promptness.{Brings, ADatagram, SomeOctets, came_when}
use Rattle.proof_right.proofs.server.DgramMoves.{dgram_at}
use Rattle.proof_right.proofs.server.DgramKept.{dgram_site, placed, TryingFits, SentFits, StageFits, KeptD}
use Rattle.proof_right.proofs.server.DgramTaking.{row_begins_d}
use Rattle.proof_right.proofs.server.Beginning.{row_begins, asked_still, on_dead}
use Rattle.proof_right.proofs.server.FrameLaws.{waits_before}
use Rattle.proof_right.proofs.server.Coming.{octets_among, site_past}
use Rattle.proof_right.proofs.server.Starting.{nothing_yet}
use Rattle.proof_right.proofs.server.Cancels.{one_way}
use Rattle.proof_right.proofs.server.Untaken.{InOctets, IsUntaken, expects_it}
use Rattle.proof_right.proofs.server.OwedFits.{StageOwed, PhaseOwed, OwedFits}
use Rattle.proof_right.proofs.server.Fitting.{OneId, BegunBy, Fits, RowDone, rests_end, bytes_or, no_frames_came, elsewhere}

lt_of : (a b : ℕ) → nat_lt a b ≡ true → a < b
lt_of a b e = grind (arith, nat_tests)

le_of : (a b : ℕ) → nat_le a b ≡ true → a ≤ b
le_of a b e = grind (arith, nat_tests)

-- who wrote what is among these
pub written_of : (k : ℕ) (x : Octets) (ws : List Written) → IsAmong x (octets_for k ws) → (y : Written) × IsWritten y ws × (y.request ≡ k)
written_of k x [] i = absurd i
written_of k x (w ∷ ws) i = go (written_of k x ws) (w.request == k) refl i
  where
    go : (IsAmong x (octets_for k ws) → (y : Written) × IsWritten y ws × (y.request ≡ k)) → (b : Bool) → (w.request == k) ≡ b → IsAmong x (if b then w.octets ∷ octets_for k ws else octets_for k ws) → (y : Written) × IsWritten y (w ∷ ws) × (y.request ≡ k)
    go rest true e i = (w, inl refl, (let z : w.request ≡ k = grind (arith, nat_tests) in z))
    go rest false e i = (let r = rest i in (r.0, inr r.1, r.2))

-- fewer frames counted, more waits
pub among_before : (ms : List Octets) (p i k : ℕ) (x : Octets) (h : History) → IsAmong x (octets_for k (waiting_with ms p i h)) → (y : Octets) × IsAmong y (octets_for k (waiting_with [] p i h))
among_before ms p i k x h a = (let y = written_of k x (waiting_with ms p i h) a in (y.0.octets, octets_among k (y.0) (waiting_with [] p i h) y.2 (waits_before ms p i (y.0) h y.1)))

one_begins : (s : ℕ) (e : Event) (h : History) → OneId s h → OneId s (Came e ∷ h)
one_begins s e h one p k i j x y at a b = (let u = among_before (came_here p h) p i k x h a in let v = among_before (came_here p h) p j k y h b in one p k i j (u.0) (v.0) at u.1 v.1)

begun_begins : (s : ℕ) (e : Event) (h : History) → BegunBy s h → BegunBy s (Came e ∷ h)
begun_begins s e h b p k i x at a = (let u = among_before (came_here p h) p i k x h a in b p k i (u.0) at u.1)

pub fresh_fits : (c : Conf) (s : ℕ) → Fits c s [] Tick unserved []
fresh_fits c s = record {
  fr = λ q. [];
  more = λ q. [];
  clock = refl;
  streams = nothing_yet c s;
  dgrams = none;
  untaken = λ e. absurd (cc);
  taken = λ e. record { pending = refl; here = λ x f. absurd (cc); others = λ q x ne f. absurd (cc) };
  free = λ q le. refl;
  by_dgram = λ k a e. absurd (cc);
  settled = λ k a e. absurd (cc);
  silent = λ k a e. absurd (cc);
  one_id = λ p k i j x y at a b. absurd (cc);
  begun = λ p k i x at a. absurd (cc);
  unsent = λ k e. refl;
}
  where
    none : KeptD c s [] Tick Tick no_datagram []
    none = record {
      held = λ k a e. absurd (cc);
      slots = λ p k e. absurd (cc);
      points = λ k a e. absurd (cc);
      others = λ p e g. refl;
      new = λ p le. record { was = refl; unheld = refl; stand = refl; nowhere = refl; unsent = refl; none = λ r j i n. refl };
      lives = refl;
      places = refl;
      few = omega arith;
    }

pub begins : (c : Conf) (s : ℕ) (old past : History) (w : What) (e : Event) (u : Served) → Fits c s old w u past → RestsNow c u → ((k : ℕ) (a : Asker) → u.server.by_stream.asks k ≡ Some a → Heard c k s past → ⊥) → Fits c s past e.what (row_begun e u) (Came e ∷ past)
begins c s old past w e u f r unheard =
    let d = rests_end c s old w u past f r in
    record {
      fr = λ q. [];
      more = λ q. came q e.what past;
      clock = ap (max e.moment.0) f.clock;
      streams = row_begins c s old w d.fr d.more u.server.by_stream e past d.streams d.whole r.rests.broken;
      dgrams = row_begins_d c s old w u.server.by_dgram e past d.dgrams (record { ending = λ k a g x. r.rests.ending k a x g; cut = r.rests.cut });
      untaken = λ g. record { pending = refl; before = refl; coming = refl; frames = refl };
      taken = λ g. absurd (cc);
      free = λ q le. refl;
      by_dgram = f.by_dgram;
      settled = f.settled;
      silent = λ k a g x. elim x [ inl y ↦ unheard k a g y | inr y ↦ f.silent k a g y ];
      one_id = one_begins s e past f.one_id;
      begun = begun_begins s e past f.begun;
      unsent = f.unsent;
    }

pub expects_held : (c : Conf) → (u : Served) (p k : ℕ) (m : Octets) → Expects c u p k m → holds u k ≡ true
expects_held c u p k m (ByDatagram a id t o pend un held at stage soon long same ok whole) = rw held refl
expects_held c u p k m (ByOctets a id o x pend un ask soon phase conn first ok) = by_stream (is_some (u.server.by_dgram.held k)) (is_some (u.server.by_stream.asks k)) (ap is_some ask)
  where
    by_stream : (x y : Bool) → y ≡ true → (x || y) ≡ true
    by_stream true y e = refl
    by_stream false y e = e
expects_held c u p k m (InFrames a id x place is_taken ask soon phase conn first ok) = by_stream (is_some (u.server.by_dgram.held k)) (is_some (u.server.by_stream.asks k)) (ap is_some ask)
  where
    by_stream : (x y : Bool) → y ≡ true → (x || y) ≡ true
    by_stream true y e = refl
    by_stream false y e = e

pub rested : (c : Conf) → (u : Served) (p k : ℕ) (m : Octets) → RestsNow c u → Expects c u p k m → ⊥
rested c u p k m r (ByDatagram a id t o pend un held at stage soon long same ok whole) =
    let none : answers a.request id (take (recv_size c) o) ≡ false = subst (λ w. IsIgnored c w u.server.by_dgram) pend r.ignored k a id t at held stage long in
    let yes : answers a.request id (take (recv_size c) o) ≡ true = subst (λ m. answers a.request id m ≡ true) (sym same) ok in
    (let z : true ≡ false = sym yes ∙ none in cc)
rested c u p k m r (ByOctets a id o x pend un ask soon phase conn first ok) = (let none : u.server.by_stream.conns p ≡ None = subst (λ w. IsForeign w u.server.by_stream) pend r.foreign in let z = sym none ∙ conn in cc)
rested c u p k m r (InFrames a id x place is_taken ask soon phase conn first ok) = (let z : first_with id [] ≡ Some m = subst (λ fs. first_with id fs ≡ Some m) r.frames first in cc)

-- What is open when a row begins.

module _ (c : Conf) (s : ℕ) (old past : History) (w : What) (e : Event) (u : Served) (f : Fits c s old w u past) (r : RestsNow c u) where
  d : RowDone c s old w u past
  d = rests_end c s old w u past f r

  -- a stream place that is alive is a connection
  is_conn : (p : ℕ) → site p past ≡ Some (stream_site s) → stand p past ≡ Alive → (x : Conn) × (u.server.by_stream.conns p ≡ Some x)
  is_conn p at alive = go (u.server.by_stream.conns p) refl
    where
      not_opening : u.server.by_stream.opening ≢ Some p
      not_opening o = (let z : stand p past ≡ Opening = (d.streams.opening p o).stand in let y : Opening ≡ Alive = sym z ∙ alive in cc)

      go : (x : Option Conn) → u.server.by_stream.conns p ≡ x → (x : Conn) × (u.server.by_stream.conns p ≡ Some x)
      go (Some x) g = (x, g)
      go None g = absurd (let z : is_live (stand p past) ≡ false = d.streams.others p (at_is s p past at) g not_opening in let y : is_live Alive ≡ false = subst (λ st. is_live st ≡ false) alive z in cc)

  -- what waits for a frame when the row begins is what the connection knows
  known_write : (p id k : ℕ) (x : Conn) (o : Octets) → u.server.by_stream.conns p ≡ Some x → IsAmong o (octets_for k (waiting (p) id past)) → (y : Written) × (x.ids id ≡ Some y) × (y.request ≡ k) × (waiting p id past ≡ y ∷ [])
  known_write p id k x o conn i = go (x.ids id) refl
    where
      fit : ConnFits c s p old Tick (d.fr p) (d.more p) x past
      fit = d.streams.conns p x conn

      all : d.fr p ≡ came_here p past
      all = sym (append-nil (d.fr p)) ∙ (ap (λ l. d.fr p ++ l) (sym (d.whole p x conn)) ∙ fit.frames)

      is : waiting p id past ≡ listed (x.ids id)
      is = ap (λ ms. waiting_with ms p id past) (sym all) ∙ fit.ids id

      go : (z : Option Written) → x.ids id ≡ z → (y : Written) × (x.ids id ≡ Some y) × (y.request ≡ k) × (waiting p id past ≡ y ∷ [])
      go None g = absurd (let n : waiting p id past ≡ [] = is ∙ ap listed g in subst (λ ws. IsAmong o (octets_for k ws)) n i)
      go (Some y) g =
          let n : waiting p id past ≡ y ∷ [] = is ∙ ap listed g in
          let q = written_of k o (y ∷ []) (subst (λ ws. IsAmong o (octets_for k ws)) n i) in
          (y, g, its y (q.0) q.1 q.2, n)
        where
          its : (y q : Written) → IsWritten q (y ∷ []) → q.request ≡ k → y.request ≡ k
          its y q (inl e) g = ap (λ (w : Written). w.request) e ∙ g
          its y q (inr e) g = absurd e

  before_of : (b : Bool) (x : Octets) (ys : List Octets) → IsAmong x (if b then ys else []) → (b ≡ true) × IsAmong x ys
  before_of true x ys i = (refl, i)
  before_of false x ys i = absurd i

  earlier : (n m : ℕ) (t : Option ℕ) → n ≤ m → is_before c m t ≡ true → is_before c n t ≡ true
  earlier n m (Some t) le b = grind (arith, nat_tests)
  earlier n m None le b = absurd (cc)

  begun_of : (n : ℕ) (t : Option ℕ) → is_before c n t ≡ true → is_some t ≡ true
  begun_of n (Some t) b = refl
  begun_of n None b = absurd (cc)

  or_last : (x y : Bool) → y ≡ true → (x || y) ≡ true
  or_last true y e = refl
  or_last false y e = e

  same_request : (r q : Request) (t n : ℕ) (k : ℕ) → asking k past ≡ Some (record { request = r; moment = t }) → asking k past ≡ Some (record { request = q; moment = n }) → r ≡ q
  same_request r q t n k a b = (let z : record { request = r; moment = t } ≡ record { request = q; moment = n } = (let u = sym a ∙ b in cc) in ap (λ (x : Asking). x.request) z)

  no_first : (id : ℕ) (m : Octets) (ms : List Octets) → ms ≡ [] → first_with id ms ≡ Some m → ⊥
  no_first id m ms e g = (let z : first_with id [] ≡ Some m = subst (λ ms. first_with id ms ≡ Some m) e g in cc)

  -- by stream
  module _ (p k id : ℕ) (q : Request) (m : Octets) (x : Comes c q Stream s p k id m past e.what (Came e ∷ past)) where
    open_by : (is_before c (now (Came e ∷ past)) (start k s Stream past) ≡ true) × IsAmong x.is_open.octets (octets_for k (waiting p id past))
    open_by = before_of (is_before c (now (Came e ∷ past)) (start k s Stream past)) x.is_open.octets (octets_for k (waiting p id past)) x.is_open.sent

    on : (x : Conn) × (u.server.by_stream.conns p ≡ Some x)
    on = is_conn p x.is_open.stands.at x.is_open.stands.alive

    by : (y : Written) × (on.0.ids id ≡ Some y) × (y.request ≡ k) × (waiting p id past ≡ y ∷ [])
    by = known_write p id k (on.0) x.is_open.octets on.1 (open_by.1)

    -- the event brings octets there
    octets : (o : Octets) × (e.what ≡ Bytes p o)
    octets = elim (bytes_or e.what) [
      | inl other ↦ absurd (no_first id m (came p e.what past) (no_frames_came c s p e.what past (Came e ∷ past) refl x.is_open.stands.at other) x.first)
      | inr b ↦ elim (cases_eq (b.0) p) [
        | inl is ↦ (b.1, b.2 ∙ ap (λ q. Bytes q (b.1)) is)
        | inr ne ↦ absurd (no_first id m (came p e.what past) (subst (λ w. came p w past ≡ []) (sym b.2) (elsewhere (b.0) p (b.1) past ne)) x.first)
      ]
    ]

    fit : ConnFits c s p old Tick (d.fr p) (d.more p) (on.0) past
    fit = d.streams.conns p (on.0) on.1

    frames : (o : Octets) → came p (Bytes p o) past ≡ (fed on.0.got o).frames
    frames o =
        let it : (p == p) ≡ true = grind (arith, nat_tests) in
        let alive = fit.alive in
        let at = fit.at in
        let got : reading p past ≡ on.0.got = sym fit.read.left in
        rw (it, alive, at, got) refl

    soon_stream : (t : Option ℕ) (since : ℕ) → t ≡ Some since → is_before c (now (Came e ∷ past)) t ≡ true → max e.moment.0 u.clock < since + stream_timeout c
    soon_stream None since g b = absurd (cc)
    soon_stream (Some n) since g b = (let same : n ≡ since = cc in let same_clock = f.clock in subst (λ n. n < since + stream_timeout c) (ap (max e.moment.0) (sym same_clock)) (subst (λ since. now (Came e ∷ past) < since + stream_timeout c) same (lt_of (now (Came e ∷ past)) (n + stream_timeout c) b)))

    pub asks_untaken : (a : Asker) → u.server.by_stream.asks k ≡ Some a → IsUntaken (row_begun e u) p k id m a
    asks_untaken a ask =
        let phase = d.streams.owners p (on.0) on.1 id (by.0) by.1 a (ap u.server.by_stream.asks by.2 ∙ ask) in
        record { ask = ask; phase = phase; conn = record on.0 { heard = false }; is_conn = ap unheard on.1; source = InOctets octets.0 octets.1 refl (ap (first_with id) (sym (frames octets.0)) ∙ subst (λ w. first_with id (came p w past) ≡ Some m) octets.1 x.first) }

    asks_expects : (a : Asker) → u.server.by_stream.asks k ≡ Some a → answers q id m ≡ true → Expects c (row_begun e u) p k m
    asks_expects a ask agrees =
        let f = (d.streams.asks k a ask).asked in
        let same = same_request q a.request x.is_open.stands.asked.0 f.0 k x.is_open.stands.asked.1 f.1 in
        expects_it c (row_begun e u) p k id m a (asks_untaken a ask) (soon_stream (start k s Stream past) a.since (d.streams.asks k a ask).since open_by.0) (subst (λ q. answers q id m ≡ true) same agrees)

    stream_expects : answers q id m ≡ true → holds u k ≡ true → Expects c (row_begun e u) p k m
    stream_expects agrees held = go (u.server.by_dgram.held k) refl (u.server.by_stream.asks k) refl held
      where
        go : (y : Option Tryer) → u.server.by_dgram.held k ≡ y → (z : Option Asker) → u.server.by_stream.asks k ≡ z → (is_some y || is_some z) ≡ true → Expects c (row_begun e u) p k m
        go (Some a) g z i o = absurd (let n = (d.dgrams.held k a g).unstreamed in let b : started k s Stream past ≡ true = subst (λ k. started k s Stream past ≡ true) by.2 (fit.begun id (by.0) by.1) in let y : true ≡ false = sym b ∙ n in cc)
        go None g (Some a) i o = asks_expects a i agrees
        go None g None i o = absurd (cc)

    stream_owed : (handed k s past ≡ true) × IsOwed c s k old w past
    stream_owed =
        let o = x.is_open in
        let b = earlier (now past) (now (Came e ∷ past)) (start k s Stream past) (omega arith) open_by.0 in (
          or_last (started k s Dgram past) (started k s Stream past) (begun_of (now past) (start k s Stream past) b),
          record { request = q; via = Stream; place = p; id = id; asked = o.stands.asked; alive = inl o.stands.alive; at = o.stands.at; octets = o.octets; sent = rw b open_by.1; carries = o.carries },
        )

  -- by datagram
  module _ (p k id : ℕ) (q : Request) (m : Octets) (x : Matches c q Dgram s p k id m past e.what (Came e ∷ past)) where
    -- the place is the request's
    record IsOwn : Type 0 where
      pub tryer : Tryer
      pub held : u.server.by_dgram.held k ≡ Some tryer
      pub at : u.server.by_dgram.at p ≡ Some k
      pub moment : ℕ
      pub stage : tryer.stage ≡ Sent p id moment
      pub soon : now (Came e ∷ past) < moment + read_timeout c

    own : IsOwn
    own = go (u.server.by_dgram.at p) refl
      where
        owned : (j : ℕ) (a : Tryer) → u.server.by_dgram.at p ≡ Some j → u.server.by_dgram.held j ≡ Some a → (st : Stage) → a.stage ≡ st → placed st ≡ Some p → IsOwn
        owned j a g h Queued i t = absurd (cc)
        owned j a g h (Trying l) i t =
            absurd (let same : l ≡ p = cc in
            let fit : TryingFits c s l old Tick past = subst (λ st. StageFits c s j a.request old w Tick past st) i (d.dgrams.held j a h).stage in
            let z : stand p past ≡ Opening = ap (λ p. stand p past) (sym same) ∙ fit.stand in
            let y : Opening ≡ Alive = sym z ∙ x.comes.is_open.stands.alive in cc)
        owned j a g h (Sent l n y) i t =
            let same : l ≡ p = cc in
            let fit : SentFits c s l n y j a.request old Tick past = subst (λ st. StageFits c s j a.request old w Tick past st) i (d.dgrams.held j a h).stage in
            let one = fit.only q k id (now (Came e ∷ past)) x.comes.is_open.octets (subst (λ l. IsAmong x.comes.is_open.octets (unanswered c q l k id (now (Came e ∷ past)) past)) (sym same) x.comes.is_open.sent) in
            record { tryer = a; held = ap u.server.by_dgram.held one.0 ∙ h; at = g ∙ ap Some (sym one.0); moment = y; stage = i ∙ (ap (λ l. Sent l n y) same ∙ ap (λ n. Sent p n y) (sym one.1)); soon = one.2 }
        owned j a g h (Ending y) i t = absurd (cc)
        owned j a g h Cut i t = absurd (cc)

        go : (z : Option ℕ) → u.server.by_dgram.at p ≡ z → IsOwn
        go (Some j) g = (let o = d.dgrams.slots p j g in owned j o.owner g o.is_held o.owner.stage refl o.its)
        go None g = absurd (let z : is_live (stand p past) ≡ false = d.dgrams.others p (dgram_at s p past x.comes.is_open.stands.at) g in let y : is_live Alive ≡ false = subst (λ st. is_live st ≡ false) x.comes.is_open.stands.alive z in cc)

    clocked : u.clock ≡ now past
    clocked = f.clock

    dgram_expects : Expects c (row_begun e u) p k m
    dgram_expects = go (came_when c Dgram id p e.what past m x.comes.first)
      where
        go : Brings p e.what → Expects c (row_begun e u) p k m
        go (ADatagram o is) =
            let first : first_of c Dgram id (came p (Datagram p o) past) ≡ Some m = subst (λ w. first_of c Dgram id (came p w past) ≡ Some m) is x.comes.first in
            let b = received_first (recv_size c) ((p == p) && (is_alive (stand p past) && is_of_kind Dgram (site p past))) o m first in
            let f = (d.dgrams.held k own.tryer own.held).asked in
            let same = same_request q own.tryer.request x.comes.is_open.stands.asked.0 f.0 k x.comes.is_open.stands.asked.1 f.1 in
            ByDatagram own.tryer id own.moment o is refl own.held own.at own.stage (subst (λ n. n < own.moment + read_timeout c) (ap (max e.moment.0) (sym clocked)) own.soon) (le_of 12 (length (take (recv_size c) o)) b.1) b.2 (subst (λ q. answers q id m ≡ true) same x.agrees) (not_false (truncated m) x.whole)
          where
            not_false : (b : Bool) → not b ≡ true → b ≡ false
            not_false true e = absurd (cc)
            not_false false e = refl
        go (SomeOctets o is) = absurd (let at = x.comes.is_open.stands.at in let z : is_of_kind Stream (site p past) ≡ false = rw at refl in none (and_none (p == p) (is_alive (stand p past)) z) (subst (λ w. first_of c Dgram id (came p w past) ≡ Some m) is x.comes.first))
          where
            and_none : (a b : Bool) → is_of_kind Stream (site p past) ≡ false → (a && (b && is_of_kind Stream (site p past))) ≡ false
            and_none true true e = e
            and_none true false e = refl
            and_none false b e = refl

            none : ((p == p) && is_alive_stream p past) ≡ false → first_of c Dgram id (if (p == p) && is_alive_stream p past then (fed (reading p past) o).frames else []) ≡ Some m → ⊥
            none b g = (let z : first_of c Dgram id [] ≡ Some m = subst (λ b. first_of c Dgram id (if b then (fed (reading p past) o).frames else []) ≡ Some m) b g in cc)

  pub begins_expecting : (p k id : ℕ) (q : Request) (v : Via) (m : Octets) → Matches c q v s p k id m past e.what (Came e ∷ past) → (holds u k ≡ true → Expects c (row_begun e u) p k m) × (holds u k ≡ false → (handed k s past ≡ true) × IsOwed c s k old w past)
  begins_expecting p k id q Stream m x = (stream_expects p k id q m x.comes x.agrees, λ none. stream_owed p k id q m x.comes)
  begins_expecting p k id q Dgram m x = (λ held. dgram_expects p k id q m x, λ none. absurd (let o = own p k id q m x in let h = o.held in let z : holds u k ≡ true = rw h refl in let y : true ≡ false = sym z ∙ none in cc))

  -- What is owed when a row begins is owed where the rows before left it.
  module _ (k : ℕ) (o : IsOwed c s k past e.what (Came e ∷ past)) where
    -- by datagram: at the place of its request, and the event is no answer
    pub record DgramOwner : Type 0 where
      pub tryer : Tryer
      pub held : u.server.by_dgram.held k ≡ Some tryer
      pub moment : ℕ
      pub stage : tryer.stage ≡ Sent o.place o.id moment
      pub none : has_answer o.request o.id (received (recv_size c) (came o.place e.what past)) ≡ false

    -- by stream: at a connection where the request holds the id
    pub record StreamOwner : Type 0 where
      pub conn : Conn
      pub is_conn : u.server.by_stream.conns o.place ≡ Some conn
      pub written : Written
      pub id : conn.ids o.id ≡ Some written
      pub its : written.request ≡ k
      pub early : is_before c (now (Came e ∷ past)) (start k s Stream past) ≡ true
      pub was : IsAmong o.octets (octets_for k (waiting o.place o.id past))

    dead : is_live (stand o.place past) ≡ false → ⊥
    dead z = elim o.alive [
      | inl is ↦ (let n = on_dead e.what o.place (stand o.place past) z in let y : is_live Alive ≡ false = subst (λ st. is_live st ≡ false) is n in cc)
      | inr is ↦ (let y : is_live Alive ≡ false = subst (λ st. is_live st ≡ false) is.0 z in cc)
    ]

    dgram_owner : site o.place past ≡ Some (dgram_site s) → IsAmong o.octets (unanswered c o.request o.place k o.id (now (Came e ∷ past)) (Came e ∷ past)) → DgramOwner
    dgram_owner at i = placed_at (u.server.by_dgram.at o.place) refl
      where
        left : (b : Bool) → IsAmong o.octets (if b then [] else unanswered c o.request o.place k o.id (now (Came e ∷ past)) past) → (b ≡ false) × IsAmong o.octets (unanswered c o.request o.place k o.id (now (Came e ∷ past)) past)
        left true i = absurd i
        left false i = (refl, i)

        was : (has_answer o.request o.id (received (recv_size c) (came o.place e.what past)) ≡ false) × IsAmong o.octets (unanswered c o.request o.place k o.id (now (Came e ∷ past)) past)
        was = left (has_answer o.request o.id (received (recv_size c) (came o.place e.what past))) i

        staged : (j : ℕ) (a : Tryer) → u.server.by_dgram.held j ≡ Some a → (st : Stage) → a.stage ≡ st → placed st ≡ Some o.place → DgramOwner
        staged j a h Queued g t = absurd (cc)
        staged j a h (Trying l) g t =
            absurd (let same : l ≡ o.place = cc in
            let fit : TryingFits c s l old Tick past = subst (λ st. StageFits c s j a.request old w Tick past st) g (d.dgrams.held j a h).stage in
            subst (λ os. IsAmong o.octets os) (fit.none o.request k o.id (now (Came e ∷ past))) (subst (λ l. IsAmong o.octets (unanswered c o.request l k o.id (now (Came e ∷ past)) past)) (sym same) was.1))
        staged j a h (Sent l n y) g t =
            let same : l ≡ o.place = cc in
            let fit : SentFits c s l n y j a.request old Tick past = subst (λ st. StageFits c s j a.request old w Tick past st) g (d.dgrams.held j a h).stage in
            let one = fit.only o.request k o.id (now (Came e ∷ past)) o.octets (subst (λ l. IsAmong o.octets (unanswered c o.request l k o.id (now (Came e ∷ past)) past)) (sym same) was.1) in
            record { tryer = a; held = ap u.server.by_dgram.held one.0 ∙ h; moment = y; stage = g ∙ (ap (λ l. Sent l n y) same ∙ ap (λ n. Sent o.place n y) (sym one.1)); none = was.0 }
        staged j a h (Ending y) g t = absurd (cc)
        staged j a h Cut g t = absurd (cc)

        placed_at : (z : Option ℕ) → u.server.by_dgram.at o.place ≡ z → DgramOwner
        placed_at (Some j) g = (let x = d.dgrams.slots o.place j g in staged j x.owner x.is_held x.owner.stage refl x.its)
        placed_at None g = absurd (dead (d.dgrams.others o.place (dgram_at s o.place past at) g))

    stream_owner : site o.place past ≡ Some (stream_site s) → IsAmong o.octets (if is_before c (now (Came e ∷ past)) (start k s Stream past) then octets_for k (waiting_with (came o.place e.what past) o.place o.id (Came e ∷ past)) else []) → StreamOwner
    stream_owner at i = at_conn (u.server.by_stream.conns o.place) refl
      where
        b : (is_before c (now (Came e ∷ past)) (start k s Stream past) ≡ true) × IsAmong o.octets (octets_for k (waiting_with (came o.place e.what past) o.place o.id (Came e ∷ past)))
        b = before_of (is_before c (now (Came e ∷ past)) (start k s Stream past)) o.octets (octets_for k (waiting_with (came o.place e.what past) o.place o.id (Came e ∷ past))) i

        left : (z : Bool) → IsAmong o.octets (octets_for k (if z then [] else waiting o.place o.id past)) → IsAmong o.octets (octets_for k (waiting o.place o.id past))
        left true i = absurd i
        left false i = i

        was : IsAmong o.octets (octets_for k (waiting o.place o.id past))
        was = left (brings o.id (came o.place e.what past)) b.1

        at_conn : (z : Option Conn) → u.server.by_stream.conns o.place ≡ z → StreamOwner
        at_conn (Some x) g = (let y = known_write o.place o.id k x o.octets g was in record { conn = x; is_conn = g; written = y.0; id = y.1; its = y.2; early = b.0; was = was })
        at_conn None g = absurd (opening (u.server.by_stream.opening) refl)
          where
            not_opening : u.server.by_stream.opening ≢ Some o.place → ⊥
            not_opening ne = dead (d.streams.others o.place (at_is s o.place past at) g ne)

            opening : (z : Option ℕ) → u.server.by_stream.opening ≡ z → ⊥
            opening None i = not_opening (λ j. (let z = sym i ∙ j in cc))
            opening (Some q) i = elim (cases_eq q o.place) [
              | inl is ↦ (let n = (d.streams.opening q i).blank.waiting (came_here o.place past) o.id in subst (λ ws. IsAmong o.octets (octets_for k ws)) (subst (λ q. waiting_with (came_here o.place past) q o.id past ≡ []) is n) was)
              | inr ne ↦ not_opening (λ j. ne (let z : Some q ≡ Some o.place = sym i ∙ j in cc))
            ]

    pub owner : ((o.via ≡ Dgram) × DgramOwner) ⊎ ((o.via ≡ Stream) × StreamOwner)
    owner = go o.via refl
      where
        go : (v : Via) → o.via ≡ v → ((o.via ≡ Dgram) × DgramOwner) ⊎ ((o.via ≡ Stream) × StreamOwner)
        go Dgram g = inl (g, dgram_owner (subst (λ v. site o.place past ≡ Some (record { via = v; server = s })) g o.at) (subst (λ v. IsAmong o.octets (waited_for c v o.request s o.place k o.id (now (Came e ∷ past)) (came_here o.place (Came e ∷ past)) (Came e ∷ past) (Came e ∷ past))) g o.sent))
        go Stream g = inr (g, stream_owner (subst (λ v. site o.place past ≡ Some (record { via = v; server = s })) g o.at) (subst (λ v. IsAmong o.octets (waited_for c v o.request s o.place k o.id (now (Came e ∷ past)) (came_here o.place (Came e ∷ past)) (Came e ∷ past) (Came e ∷ past))) g o.sent))

  -- a request that is not held and is owed nothing is owed nothing in the row that begins
  pub begins_over : (k : ℕ) → holds u k ≡ false → (IsOwed c s k old w past → ⊥) → IsOwed c s k past e.what (Came e ∷ past) → ⊥
  begins_over k none over o = elim (owner k o) [ inl x ↦ by_dgram x.1 | inr x ↦ by_stream x.0 x.1 ]
    where
      by_dgram : DgramOwner k o → ⊥
      by_dgram x = (let held = x.held in let z : holds u k ≡ true = rw held refl in let y : true ≡ false = sym z ∙ none in cc)

      by_stream : o.via ≡ Stream → StreamOwner k o → ⊥
      by_stream via x =
          let alive = (d.streams.conns o.place x.conn x.is_conn).alive in
          let bb = earlier (now past) (now (Came e ∷ past)) (start k s Stream past) (omega arith) x.early in
          over (record { request = o.request; via = Stream; place = o.place; id = o.id; asked = asked_was; alive = inl alive; at = subst (λ v. site o.place past ≡ Some (record { via = v; server = s })) via o.at; octets = o.octets; sent = rw bb x.was; carries = subst (λ v. CarriesBy c v o.octets o.request o.id) via o.carries })
        where
          asked_was : (t : ℕ) × (asking k past ≡ Some (record { request = o.request; moment = t }))
          asked_was =
              let a = (d.streams.conns o.place x.conn x.is_conn).asked o.id x.written x.id in
              let z : asking k past ≡ Some a.0 = ap (λ k. asking k past) (sym x.its) ∙ a.1 in
              let still = asked_still k a.0 e past z in
              let same : a.0 ≡ record { request = o.request; moment = o.asked.0 } = (let v = sym still ∙ o.asked.1 in cc) in
              (o.asked.0, z ∙ ap Some same)

  -- what is owed is owed where it is held
  pub begins_owed : OwedFits c s past e.what (row_begun e u).server (Came e ∷ past)
  begins_owed = record {
    begun = λ k o. elim (owner k o) [
      | inl x ↦ (let z = (d.dgrams.held k x.1.tryer x.1.held).has_it in rw z refl)
      | inr x ↦ or_last (started k s Dgram past) (started k s Stream past) (stream_begun k o x.1)
    ];
    by_dgram = λ k a held o. elim (owner k o) [
      | inl x ↦ dgram_owed k a held o x.1
      | inr x ↦ absurd (let z = stream_begun k o x.1 in let n = (d.dgrams.held k a held).unstreamed in let y : true ≡ false = sym z ∙ n in cc)
    ];
    by_stream = λ k a ask o. elim (owner k o) [
      | inl x ↦ absurd (one_way c s old w u past k x.1.tryer a f x.1.held ask)
      | inr x ↦ (let phase = d.streams.owners o.place x.1.conn x.1.is_conn o.id x.1.written x.1.id a (ap u.server.by_stream.asks x.1.its ∙ ask) in subst (λ ph. PhaseOwed (now (Came e ∷ past)) o.via o.place ph) (sym phase) (x.0, refl))
    ];
  }
    where
      stream_begun : (k : ℕ) (o : IsOwed c s k past e.what (Came e ∷ past)) → StreamOwner k o → started k s Stream past ≡ true
      stream_begun k o x = subst (λ k. started k s Stream past ≡ true) x.its ((d.streams.conns o.place x.conn x.is_conn).begun o.id x.written x.id)

      dgram_owed : (k : ℕ) (a : Tryer) → u.server.by_dgram.held k ≡ Some a → (o : IsOwed c s k past e.what (Came e ∷ past)) → DgramOwner k o → StageOwed c e.what past a.request o.place a.stage
      dgram_owed k a held o x =
          let same : x.tryer ≡ a = (let z = sym x.held ∙ held in cc) in
          let stage : a.stage ≡ Sent o.place o.id x.moment = ap (λ (a : Tryer). a.stage) (sym same) ∙ x.stage in
          let asked = (d.dgrams.held k a held).asked in
          let still = asked_still k (record { request = a.request; moment = asked.0 }) e past asked.1 in
          let both : record { request = o.request; moment = o.asked.0 } ≡ record { request = a.request; moment = asked.0 } = (let v = sym o.asked.1 ∙ still in cc) in
          let request : o.request ≡ a.request = ap (λ (x : Asking). x.request) both in
          subst (λ st. StageOwed c e.what past a.request o.place st) (sym stage) (refl, subst (λ r. has_answer r o.id (received (recv_size c) (came o.place e.what past)) ≡ false) request x.none)

-- At any point of a row.

pub one_id : (c : Conf) (s p k i j : ℕ) (q r : Request) (m n : Octets) (past : History) (w : What) (u : Served) (h : History) → Fits c s past w u h → Comes c q Stream s p k i m past w h → Comes c r Stream s p k j n past w h → i ≡ j
one_id c s p k i j q r m n past w u h f x y = f.one_id p k i j x.is_open.octets y.is_open.octets at (among (is_before c (now h) (start k s Stream h)) (octets_for k (waiting_with [] p i h)) x.is_open.octets x.is_open.sent) (among (is_before c (now h) (start k s Stream h)) (octets_for k (waiting_with [] p j h)) y.is_open.octets y.is_open.sent)
  where
    among : (b : Bool) (ys : List Octets) (o : Octets) → IsAmong o (if b then ys else []) → IsAmong o ys
    among true ys o i = i
    among false ys o i = absurd i

    at : is_at Stream s p h ≡ true
    at = at_is s p h (site_past p (stream_site s) h (ap (site p) f.streams.row.before ∙ x.is_open.stands.at))

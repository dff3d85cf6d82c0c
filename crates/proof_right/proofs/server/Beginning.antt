-- A row begins: what was so when the row before was done is what was before this one.
use Rattle.std.proofs.Common.{◌≡◌, ℕ, ◌+◌, ◌<◌, Bool, true, false, ◌&&◌, ◌||◌, inl, inr, Option, Some, None, List, [], ◌∷◌, ◌++◌, ◌≢◌, refl, arith, ◌∙◌, sym, subst, ap, ◌==◌}
use Rattle.std.specs.Prelude.{if◌then◌else◌, nat_lt}
use Rattle.std.proofs.lemmas.Bool.Decides.{nat_tests}
use Rattle.std.proofs.lemmas.List.{append-nil}
use Rattle.client_request.specs.Request.{Request}
use Rattle.client_request.specs.declared.event.Event.{Event}
use Rattle.client_request.specs.declared.event.What.{What}
use Rattle.client_request.specs.declared.event.What.TheVariants.{Ask, Opened, OpenFailed, SendFailed, ShortSend, Datagram, RecvFailed, Wrote, WriteFailed, Bytes, ReadFailed, Ended, Tick}
use Rattle.right_trace.specs.Trace.{History, Came, Put, Conf}
use Rattle.right_trace.specs.Time.{now, response_timeout}
use Rattle.right_trace.specs.Messages.{Octets, CarriesInFrame}
use Rattle.right_trace.specs.Requests.{Asking, asking, asks, is_ask}
use Rattle.right_trace.specs.Places.{site, Stand, Unused, Opening, Alive, Gone, opened, failed, on_event, stand, is_live, is_alive}
use Rattle.right_trace.specs.Frames.{Reading, fed, reading, read_on, is_alive_stream, came, came_here, brings}
use Rattle.right_trace.specs.Writes.{Written, waiting_with, waiting, writing, taken_by, is_unwritten}
use Rattle.right_trace.specs.Timers.{is_opened, quiet_with, quiet, idle_with, MayBeQuiet, HeldForLong, EndsLoose, InvalidRequest, ReadTimerIsDue}
use Rattle.right_trace.specs.Busy.{OpeningFailed}
use Rattle.proof_right.specs.machine.Streams.{Phase, Free, Expecting, Lined, Holding, Broken, BackingOff, Asker, Mode, New, Active, Idle, Conn, Multi, unheard, begin_row}
use Rattle.proof_right.proofs.server.Kept.{stream_site, PhaseFits, listed, Reason, HoldsSince, EndsSo, HasInvalid, ModeFits, LeftFits, octets_at, brings_to, IsBlank, ConnFits, OpeningFits, Kept}
use Rattle.proof_right.proofs.server.Ending.{at_is}

pub asked_below : (k : ℕ) (a : Asking) (h : History) → asking k h ≡ Some a → k < asks h
asked_below k a [] e = absurd (cc)
asked_below k a (Came e ∷ h) g = go (is_ask e.what) (asks h == k) refl refl (asked_below k a h)
  where
    go : (x y : Bool) → is_ask e.what ≡ x → (asks h == k) ≡ y → (asking k h ≡ Some a → k < asks h) → k < asks (Came e ∷ h)
    go false y i j ih = rw i (ih (rw i at g))
    go true true i j ih = rw i (grind (arith, nat_tests))
    go true false i j ih = rw i (let z = ih (rw (i, j) at g) in omega arith)
asked_below k a (Put o ∷ h) g = asked_below k a h g

pub asked_still : (k : ℕ) (a : Asking) (e : Event) (h : History) → asking k h ≡ Some a → asking k (Came e ∷ h) ≡ Some a
asked_still k a e h g = go (asked_below k a h g) (is_ask e.what) refl
  where
    go : k < asks h → (x : Bool) → is_ask e.what ≡ x → asking k (Came e ∷ h) ≡ Some a
    go low false i = rw i g
    go low true i = (let ne : (asks h == k) ≡ false = grind (arith, nat_tests) in rw (i, ne) g)

if_same : {A : Type 0} (b : Bool) (x : A) → (if b then x else x) ≡ x
if_same true x = refl
if_same false x = refl

pub on_alive : (w : What) (p : ℕ) → on_event w p Alive ≡ Alive
on_alive (Ask r) p = refl
on_alive (Opened q) p = if_same (q == p) Alive
on_alive (OpenFailed q g) p = if_same (q == p) Alive
on_alive (SendFailed q g) p = refl
on_alive (ShortSend q) p = refl
on_alive (Datagram q o) p = refl
on_alive (RecvFailed q g) p = refl
on_alive (Wrote q n) p = refl
on_alive (WriteFailed q g) p = refl
on_alive (Bytes q o) p = refl
on_alive (ReadFailed q g) p = refl
on_alive (Ended q) p = refl
on_alive Tick p = refl

pub on_unused : (w : What) (p : ℕ) → on_event w p Unused ≡ Unused
on_unused (Ask r) p = refl
on_unused (Opened q) p = if_same (q == p) Unused
on_unused (OpenFailed q g) p = if_same (q == p) Unused
on_unused (SendFailed q g) p = refl
on_unused (ShortSend q) p = refl
on_unused (Datagram q o) p = refl
on_unused (RecvFailed q g) p = refl
on_unused (Wrote q n) p = refl
on_unused (WriteFailed q g) p = refl
on_unused (Bytes q o) p = refl
on_unused (ReadFailed q g) p = refl
on_unused (Ended q) p = refl
on_unused Tick p = refl

dead_opened : (b : Bool) (x : Stand) → is_live x ≡ false → is_live (if b then opened x else x) ≡ false
dead_opened true Unused e = refl
dead_opened false Unused e = refl
dead_opened true Opening e = absurd (cc)
dead_opened false Opening e = absurd (cc)
dead_opened true Alive e = absurd (cc)
dead_opened false Alive e = absurd (cc)
dead_opened true Gone e = refl
dead_opened false Gone e = refl

dead_failed : (b : Bool) (x : Stand) → is_live x ≡ false → is_live (if b then failed x else x) ≡ false
dead_failed true Unused e = refl
dead_failed false Unused e = refl
dead_failed true Opening e = absurd (cc)
dead_failed false Opening e = absurd (cc)
dead_failed true Alive e = absurd (cc)
dead_failed false Alive e = absurd (cc)
dead_failed true Gone e = refl
dead_failed false Gone e = refl

pub on_dead : (w : What) (p : ℕ) (x : Stand) → is_live x ≡ false → is_live (on_event w p x) ≡ false
on_dead (Ask r) p x e = e
on_dead (Opened q) p x e = dead_opened (q == p) x e
on_dead (OpenFailed q g) p x e = dead_failed (q == p) x e
on_dead (SendFailed q g) p x e = e
on_dead (ShortSend q) p x e = e
on_dead (Datagram q o) p x e = e
on_dead (RecvFailed q g) p x e = e
on_dead (Wrote q n) p x e = e
on_dead (WriteFailed q g) p x e = e
on_dead (Bytes q o) p x e = e
on_dead (ReadFailed q g) p x e = e
on_dead (Ended q) p x e = e
on_dead Tick p x e = e

-- what an event brings to a place that is not alive
none : (b : Bool) (l : List Octets) → (if b && false then l else []) ≡ []
none true l = refl
none false l = refl

nothing_came : (c : Conf) → (p : ℕ) (w : What) (h : History) → is_alive (stand p h) ≡ false → came p w h ≡ []
nothing_came c p (Ask r) h e = refl
nothing_came c p (Opened q) h e = refl
nothing_came c p (OpenFailed q g) h e = refl
nothing_came c p (SendFailed q g) h e = refl
nothing_came c p (ShortSend q) h e = refl
nothing_came c p (Datagram q o) h e = rw e (none (q == p) (o ∷ []))
nothing_came c p (RecvFailed q g) h e = refl
nothing_came c p (Wrote q n) h e = refl
nothing_came c p (WriteFailed q g) h e = refl
nothing_came c p (Bytes q o) h e = rw e (none (q == p) (fed (reading p h) o).frames)
nothing_came c p (ReadFailed q g) h e = refl
nothing_came c p (Ended q) h e = refl
nothing_came c p Tick h e = refl

nothing_read : (p : ℕ) (w : What) (h : History) → is_alive (stand p h) ≡ false → read_on p w (is_alive_stream p h) (reading p h) ≡ reading p h
nothing_read p (Ask r) h e = refl
nothing_read p (Opened q) h e = refl
nothing_read p (OpenFailed q g) h e = refl
nothing_read p (SendFailed q g) h e = refl
nothing_read p (ShortSend q) h e = refl
nothing_read p (Datagram q o) h e = refl
nothing_read p (RecvFailed q g) h e = refl
nothing_read p (Wrote q n) h e = refl
nothing_read p (WriteFailed q g) h e = refl
nothing_read p (Bytes q o) h e = rw e (none (q == p))
  where
    none : (b : Bool) → (if b && false then (fed (reading p h) o).left else reading p h) ≡ reading p h
    none true = refl
    none false = refl
nothing_read p (ReadFailed q g) h e = refl
nothing_read p (Ended q) h e = refl
nothing_read p Tick h e = refl

blank_begins : (c : Conf) → (p : ℕ) (w : What) (e : Event) (h : History) → is_alive (stand p h) ≡ false → IsBlank c p w h → IsBlank c p e.what (Came e ∷ h)
blank_begins c p w e h dead b =
    let wanted = b.wanted in
    let free : nat_lt (writing p h).taken (writing p h).wanted ≡ false = grind (arith, nat_tests) in
    record {
      waiting = λ ms id. waits ms id (brings id ms);
      wanted = wanted;
      takes = rw free refl;
      idle = ap (λ ms. idle_with c ms p h) b.came ∙ b.idle;
      reading = nothing_read p e.what h dead ∙ b.reading;
      came = nothing_came c p e.what h dead;
    }
  where
    waits : (ms : List Octets) (id : ℕ) (x : Bool) → (if x then [] else waiting_with (came_here p h) p id h) ≡ []
    waits ms id true = refl
    waits ms id false = b.waiting (came_here p h) id

-- Requests

phase_begins : (c : Conf) → (s k : ℕ) (r : Request) (conns : ℕ → Option Conn) (opening : Option ℕ) (e : Event) (h : History) (ph : Phase) → ph ≢ Broken → PhaseFits c s k r conns opening h ph → PhaseFits c s k r (λ p. unheard (conns p)) opening (Came e ∷ h) ph
phase_begins c s k r conns opening e h Free ne f = tt
phase_begins c s k r conns opening e h Expecting ne f = f
phase_begins c s k r conns opening e h (Lined p) ne f = (record f.0 { heard = false }, ap unheard f.1)
phase_begins c s k r conns opening e h (Holding p id) ne f = record { conn = record f.conn { heard = false }; is_conn = ap unheard f.is_conn; written = f.written; is_held = f.is_held; its = f.its }
phase_begins c s k r conns opening e h Broken ne f = absurd (ne refl)
phase_begins c s k r conns opening e h (BackingOff until) ne (inl i) = inl i
phase_begins c s k r conns opening e h (BackingOff until) ne (inr b) = inr (inr b)

-- Connections

reason_begins : (s p since : ℕ) (x : Conn) (e : Event) (h : History) → Reason s p since (came_here p h) x h → Reason s p since [] (record x { heard = false }) (Came e ∷ h)
reason_begins s p since x e h (HoldsSince i y g le) = HoldsSince i y g le
reason_begins s p since x e h (EndsSo g) = EndsSo g
reason_begins s p since x e h (HasInvalid k a g i st) = HasInvalid k a (asked_still k a e h g) i st

quiet_begins : (p : ℕ) (e : Event) (h : History) → stand p h ≡ Alive → quiet_with [] p (Came e ∷ h) ≡ quiet p h
quiet_begins p e h alive = rw alive (and_false (is_opened p e.what))
  where
    and_false : (b : Bool) → (if (b && false) || false then now (Came e ∷ h) else quiet p h) ≡ quiet p h
    and_false true = refl
    and_false false = refl

mode_begins : (s p : ℕ) (past : History) (x : Conn) (e : Event) (h : History) → (0 < x.left → is_unwritten p h ≡ true) → stand p h ≡ Alive → (mode : Mode) → ModeFits s p past (came_here p h) x h mode → ModeFits s p h [] (record x { heard = false }) (Came e ∷ h) mode
mode_begins s p past x e h some alive New f = tt
mode_begins s p past x e h some alive (Active since) f = record { quiet = (let a = quiet_begins p e h alive in let b = f.quiet in omega arith); reason = reason_begins s p since x e h f.reason }
mode_begins s p past x e h some alive (Idle since) f = record { quiet = (let a = quiet_begins p e h alive in let b = f.quiet in omega arith); unheld = f.unheld; amid = λ lt. inl (some lt) }

unwritten_at : (p : ℕ) (x : Conn) (h : History) → LeftFits p 0 x h → 0 < x.left → is_unwritten p h ≡ true
unwritten_at p x h l lt = (let e = l.some lt in grind (arith, nat_tests))

left_begins : (p n : ℕ) (x : Conn) (e : Event) (h : History) → taken_by p e.what ≡ n → LeftFits p 0 x h → LeftFits p n (record x { heard = false }) (Came e ∷ h)
left_begins p n x e h takes l = record {
  some = λ lt. rw takes (let z = l.some lt in omega arith);
  none = λ g. rw takes (let z = l.none g in omega arith);
  amid = λ lt. (let busy = unwritten_at p x h l lt in rw (takes, busy) refl);
  room = λ g none. (let z = l.none none in let free : nat_lt (writing p h).taken (writing p h).wanted ≡ false = grind (arith, nat_tests) in rw (takes, free) refl);
}

-- what is brought to an alive stream place
read_begins : (p : ℕ) (w : What) (h : History) (got : Reading) → is_alive_stream p h ≡ true → got ≡ reading p h → (fed got (octets_at p w)).left ≡ read_on p w (is_alive_stream p h) (reading p h)
read_begins p (Bytes q o) h got alive g = rw (alive, g) (go (q == p))
  where
    go : (b : Bool) → (fed (reading p h) (if b then o else [])).left ≡ (if b && true then (fed (reading p h) o).left else reading p h)
    go true = refl
    go false = refl
read_begins p _ h got alive g = g

frames_begin : (p : ℕ) (w : What) (h : History) (got : Reading) → is_alive_stream p h ≡ true → got ≡ reading p h → brings_to p w ≡ true → came p w h ≡ (fed got (octets_at p w)).frames
frames_begin p (Bytes q o) h got alive g b = rw (alive, g, b) refl
frames_begin p _ h got alive g b = absurd (cc)

-- nothing else comes to a stream place
unread_begins : (c : Conf) → (p : ℕ) (w : What) (h : History) (s : ℕ) → site p h ≡ Some (stream_site s) → brings_to p w ≡ false → came p w h ≡ []
unread_begins c p (Bytes q o) h s at b = rw b refl
unread_begins c p (Datagram q o) h s at b = rw at (no_dgram (q == p) (is_alive (stand p h)) (o ∷ []))
  where
    no_dgram : (x y : Bool) (l : List Octets) → (if x && (y && false) then l else []) ≡ []
    no_dgram true true l = refl
    no_dgram true false l = refl
    no_dgram false y l = refl
unread_begins c p _ h s at b = refl

conn_begins : (c : Conf) → (s p : ℕ) (past : History) (fr more : List Octets) (x : Conn) (e : Event) (h : History) → ConnFits c s p past Tick fr more x h → more ≡ [] → ConnFits c s p h e.what [] (came p e.what h) (record x { heard = false }) (Came e ∷ h)
conn_begins c s p past fr more x e h f done =
    let all : fr ≡ came_here p h = sym (append-nil fr) ∙ (ap (λ l. fr ++ l) (sym done) ∙ f.frames) in
    let stream : is_alive_stream p h ≡ true = rw (f.alive, f.at) refl in
    let l : LeftFits p 0 x h = f.left in
    let got : x.got ≡ reading p h = f.read.left in
    record {
      alive = ap (on_event e.what p) f.alive ∙ on_alive e.what p;
      at = f.at;
      ids = λ id. ap (λ ms. waiting_with ms p id h) (sym all) ∙ f.ids id;
      early = λ id y g. (let z = f.early id y g in grind arith);
      asked = λ id y g. (let a = f.asked id y g in (a.0, asked_still y.request a.0 e h a.1));
      begun = f.begun;
      carries = λ id y a g ask. carries id y a g ask;
      idle = ap (λ ms. idle_with c ms p h) (sym all) ∙ f.idle;
      mode = mode_begins s p past x e h (unwritten_at p x h l) f.alive x.mode (subst (λ ms. ModeFits s p past ms x h x.mode) all f.mode);
      left = left_begins p (taken_by p e.what) x e h refl l;
      read = record { left = read_begins p e.what h x.got stream got; frames = λ b. frames_begin p e.what h x.got stream got b };
      frames = refl;
      good = refl;
      unheard = λ g. refl;
      unread = λ g b. unread_begins c p e.what h s f.at b;
    }
  where
    carries : (id : ℕ) (y : Written) (a : Asking) → x.ids id ≡ Some y → asking y.request (Came e ∷ h) ≡ Some a → CarriesInFrame y.octets a.request id
    carries id y a g ask = (let old = f.asked id y g in let same = asked_still y.request old.0 e h old.1 in let z : old.0 ≡ a = (let u = sym same ∙ ask in cc) in f.carries id y a g (old.1 ∙ ap Some z))

-- Since it is quiet for long, its read timer is due.
late_begins : (c : Conf) → (s p : ℕ) (past : History) (fr more : List Octets) (x : Conn) (since t : ℕ) (h : History) → ConnFits c s p past Tick fr more x h → more ≡ [] → x.mode ≡ Active since → since + response_timeout c < t → ReadTimerIsDue c p t h
late_begins c s p past fr more x since t h f done mode lt =
    let all : fr ≡ came_here p h = sym (append-nil fr) ∙ (ap (λ l. fr ++ l) (sym done) ∙ f.frames) in
    let g : ModeFits s p past (came_here p h) x h (Active since) = subst (λ m. ModeFits s p past (came_here p h) x h m) mode (subst (λ ms. ModeFits s p past ms x h x.mode) all f.mode) in
    let q = g.quiet in
    record { alive = f.alive; passed = omega arith; may = may all g.reason }
  where
    may : fr ≡ came_here p h → Reason s p since (came_here p h) x h → MayBeQuiet c p t h
    may all (HoldsSince id y e le) =
        let wait : waiting p id h ≡ y ∷ [] = ap (λ ms. waiting_with ms p id h) (sym all) ∙ (f.ids id ∙ ap listed e) in
        HeldForLong id y (rw wait (inl refl)) (omega arith)
    may all (EndsSo e) = EndsLoose e
    may all (HasInvalid k a e i st) = InvalidRequest s f.at k a e i st

unheard_some : (z : Option Conn) (x : Conn) → unheard z ≡ Some x → (y : Conn) × (z ≡ Some y) × (x ≡ record y { heard = false })
unheard_some None x e = absurd (cc)
unheard_some (Some y) x e = (y, refl, (grind arith))

unheard_none : (z : Option Conn) → unheard z ≡ None → z ≡ None
unheard_none None e = refl
unheard_none (Some y) e = absurd (cc)

opening_begins : (c : Conf) → (s p : ℕ) (past : History) (w : What) (e : Event) (h : History) → OpeningFits c s p past w Tick h → OpeningFits c s p h e.what e.what (Came e ∷ h)
opening_begins c s p past w e h f =
    let dead : is_alive (stand p h) ≡ false = rw f.stand refl in
    record {
      fails = λ g i. inl (record { recent = omega arith; broke = OpeningFailed e p g h refl i (at_is s p h f.at) f.stand });
      stand = ap (on_event e.what p) f.stand;
      at = f.at;
      blank = blank_begins c p w e h dead f.blank;
    }

pub row_begins : (c : Conf) → (s : ℕ) (past : History) (w : What) (fr more : ℕ → List Octets) (m : Multi) (e : Event) (h : History) → Kept c s past w Tick fr more m h → ((p : ℕ) (x : Conn) → m.conns p ≡ Some x → more p ≡ []) → ((k : ℕ) (a : Asker) → m.asks k ≡ Some a → a.phase ≢ Broken)
    → Kept c s h e.what e.what (λ p. []) (λ p. came p e.what h) (begin_row m) (Came e ∷ h)
row_begins c s past w fr more m e h kept done settled = record {
  row = record { before = refl; event = refl; came = λ p. refl };
  asks = λ k a g. (let f = kept.asks k a g in record { asked = (f.asked.0, asked_still k _ e h f.asked.1); since = f.since; phase = phase_begins c s k a.request m.conns m.opening e h a.phase (settled k a g) f.phase });
  conns = λ p x g. (let old = unheard_some (m.conns p) x g in subst (λ x. ConnFits c s p h e.what [] (came p e.what h) x (Came e ∷ h)) (sym old.2) (conn_begins c s p past (fr p) (more p) old.0 e h (kept.conns p old.0 old.1) (done p old.0 old.1)));
  owners = λ p x g i y u. (let old = unheard_some (m.conns p) x g in kept.owners p old.0 old.1 i y (ap (λ x. x.ids i) (sym old.2) ∙ u));
  opening = λ p g. opening_begins c s p past w e h (kept.opening p g);
  apart = λ p x g i. (let old = unheard_some (m.conns p) x i in kept.apart p old.0 g old.1);
  others = λ p g i n. on_dead e.what p (stand p h) (kept.others p g (unheard_none (m.conns p) i) n);
  to_come = λ p le. (let n = kept.to_come p le in record { was = n.stand; unheld = ap unheard n.unheld; stand = ap (on_event e.what p) n.stand ∙ on_unused e.what p; nowhere = n.nowhere; blank = blank_begins c p w e h (rw n.stand refl) n.blank });
  below = kept.below;
  calm = λ lt. inr (kept.calm (grind arith));
  late = λ p x g since mode lt. (let old = unheard_some (m.conns p) x g in late_begins c s p past (fr p) (more p) old.0 since (now (Came e ∷ h)) h (kept.conns p old.0 old.1) (done p old.0 old.1) (ap (λ x. x.mode) (sym old.2) ∙ mode) lt);
}

-- An event is taken, but for frames.
use Rattle.std.proofs.Common.{◌≡◌, ℕ, zero, suc, ◌+◌, ◌<◌, ◌≤◌, true, false, ◌⊎◌, inl, inr, Option, Some, None, List, [], ◌≢◌, refl, arith, ◌∙◌, sym, subst, ap, ◌==◌}
use Rattle.std.proofs.lemmas.Bool.{cases_eq}
use Rattle.std.proofs.lemmas.Bool.Decides.{nat_tests}
use Rattle.client_request.specs.Request.{Request}
use Rattle.client_request.specs.declared.fault.Fault.{Fault}
use Rattle.client_request.specs.declared.event.What.{What}
use Rattle.client_request.specs.declared.event.What.TheVariants.{Ask, Opened, OpenFailed, SendFailed, ShortSend, Datagram, RecvFailed, Wrote, WriteFailed, Bytes, ReadFailed, Ended, Tick}
use Rattle.client_request.specs.declared.event.Via.TheVariants.{Stream}
use Rattle.right_trace.specs.Trace.{History, Conf}
use Rattle.right_trace.specs.Time.{now, response_timeout, back_off}
use Rattle.right_trace.specs.Messages.{Octets}
use Rattle.right_trace.specs.Places.{is_at, Opening, Gone, on_event, stand, is_live, is_told}
use Rattle.right_trace.specs.Writes.{Written, taken_by}
use Rattle.right_trace.specs.Frames.{fed, reading}
use Rattle.right_trace.specs.Timers.{ReadTimerIsDue}
use Rattle.right_trace.specs.Busy.{HappenedWithin}
use Rattle.proof_right.specs.machine.Streams.{Phase, Free, Expecting, Lined, Holding, Broken, BackingOff, Asker, Mode, New, Active, Idle, Conn, Multi, new_conn, every, expected, open_at, not_opened, set_conn, wrote_on, heard_on, fed_by, IsForeign}
use Rattle.right_trace.specs.Updates.{with_at}
use Rattle.proof_right.proofs.server.Kept.{Broke, PhaseFits, AskFits, listed, Reason, HoldsSince, EndsSo, HasInvalid, ModeFits, LeftFits, octets_at, brings_to, ConnFits, OpeningFits, Kept}
use Rattle.proof_right.proofs.server.Views.{each_at, at_there, ever_more}
use Rattle.proof_right.proofs.server.Ending.{every_some}
use Rattle.proof_right.proofs.server.Writing.{phase_same}

-- The pending event says nothing of what server s has.
pub record IsDone (pend : What) (m : Multi) : Type 0 where
  pub taken : (q : ℕ) (x : Conn) → m.conns q ≡ Some x → taken_by q pend ≡ 0
  pub brought : (q : ℕ) (x : Conn) → m.conns q ≡ Some x → brings_to q pend ≡ false
  pub opens : (q : ℕ) → m.opening ≡ Some q → on_event pend q Opening ≡ Opening

no_octets : (p : ℕ) (w : What) → brings_to p w ≡ false → octets_at p w ≡ []
no_octets p (Bytes q o) e = rw e refl
no_octets p (Ask r) e = refl
no_octets p (Opened q) e = refl
no_octets p (OpenFailed q f) e = refl
no_octets p (SendFailed q f) e = refl
no_octets p (ShortSend q) e = refl
no_octets p (Datagram q o) e = refl
no_octets p (RecvFailed q f) e = refl
no_octets p (Wrote q n) e = refl
no_octets p (WriteFailed q f) e = refl
no_octets p (ReadFailed q f) e = refl
no_octets p (Ended q) e = refl
no_octets p Tick e = refl

pub turn_conn : (c : Conf) → (s p : ℕ) (past : History) (pend : What) (fr more : List Octets) (x : Conn) (h : History) → taken_by p pend ≡ 0 → brings_to p pend ≡ false → ConnFits c s p past pend fr more x h → ConnFits c s p past Tick fr more x h
turn_conn c s p past pend fr more x h none nothing f = record {
  alive = f.alive;
  at = f.at;
  ids = f.ids;
  early = f.early;
  asked = f.asked;
  begun = f.begun;
  carries = f.carries;
  idle = f.idle;
  mode = f.mode;
  left = subst (λ n. LeftFits p n x h) none f.left;
  read = record { left = subst (λ o. (fed x.got o).left ≡ reading p h) (no_octets p pend nothing) f.read.left; frames = λ e. absurd (cc) };
  frames = f.frames;
  good = f.good;
  unheard = f.unheard;
  unread = λ e g. f.unread e nothing;
}

turn_opening : (c : Conf) → (s q : ℕ) (past : History) (w pend : What) (h : History) → on_event pend q Opening ≡ Opening → OpeningFits c s q past w pend h → OpeningFits c s q past w Tick h
turn_opening c s q past w pend h e f = record { fails = f.fails; stand = f.stand ∙ e; at = f.at; blank = f.blank }

pub turns : (c : Conf) → (s : ℕ) (past : History) (w pend : What) (fr more : ℕ → List Octets) (m : Multi) (h : History) → Kept c s past w pend fr more m h → IsDone pend m → Kept c s past w Tick fr more m h
turns c s past w pend fr more m h kept done = record {
  row = kept.row;
  asks = kept.asks;
  conns = λ q x e. turn_conn c s q past pend (fr q) (more q) x h (done.taken q x e) (done.brought q x e) (kept.conns q x e);
  owners = kept.owners;
  opening = λ q e. turn_opening c s q past w pend h (done.opens q e) (kept.opening q e);
  apart = kept.apart;
  others = kept.others;
  to_come = kept.to_come;
  below = kept.below;
  calm = kept.calm;
  late = kept.late;
}

-- one connection is changed, in all but its ids and its mode
pub changes : (c : Conf) → (s : ℕ) (past : History) (w pend : What) (fr more : ℕ → List Octets) (m : Multi) (h : History) (p : ℕ) (x x' : Conn) → Kept c s past w pend fr more m h → m.conns p ≡ Some x → x'.ids ≡ x.ids → x'.mode ≡ x.mode → ConnFits c s p past Tick (fr p) (more p) x' h
    → ((q : ℕ) → p ≢ q → taken_by q pend ≡ 0) → ((q : ℕ) → p ≢ q → brings_to q pend ≡ false) → ((q : ℕ) → on_event pend q Opening ≡ Opening)
    → Kept c s past w Tick fr more (set_conn p x' m) h
changes c s past w pend fr more m h p x x' kept conn ids mode fits none nothing opens = record {
  row = kept.row;
  asks = λ k a e. (let f = kept.asks k a e in record { asked = f.asked; since = f.since; phase = phase_same c s k p a.request m.conns m.opening x x' h conn ids a.phase f.phase });
  conns = each_at (λ q z. ConnFits c s q past Tick (fr q) (more q) z h) p x' m.conns fits (λ q z ne e. turn_conn c s q past pend (fr q) (more q) z h (none q ne) (nothing q ne) (kept.conns q z e));
  owners = each_at (λ q z. (i : ℕ) (y : Written) → z.ids i ≡ Some y → (b : Asker) → m.asks y.request ≡ Some b → b.phase ≡ Holding q i) p x' m.conns (λ i y e. kept.owners p x conn i y (ap (λ l. l i) (sym ids) ∙ e)) (λ q z ne e. kept.owners q z e);
  opening = λ q e. turn_opening c s q past w pend h (opens q) (kept.opening q e);
  apart = λ q z e g. grind (arith, nat_tests, kept.apart q, kept.apart p x);
  others = λ q e g n. kept.others q e (grind (arith, nat_tests)) n;
  to_come = λ q le. (let c = kept.to_come q le in record { was = c.was; unheld = grind (arith, nat_tests); stand = c.stand; nowhere = c.nowhere; blank = c.blank });
  below = kept.below;
  calm = kept.calm;
  late = each_at (λ q z. (since : ℕ) → z.mode ≡ Active since → since + response_timeout c < now h → ReadTimerIsDue c q (now h) past) p x' m.conns (λ since e lt. kept.late p x conn since (sym mode ∙ e) lt) (λ q z ne e. kept.late q z e);
}

mode_change : (s p : ℕ) (past : History) (fr : List Octets) (x x' : Conn) (h : History) → x'.ids ≡ x.ids → (0 < x'.left → 0 < x.left) → (mode : Mode) → ModeFits s p past fr x h mode → ModeFits s p past fr x' h mode
mode_change s p past fr x x' h ids left New f = tt
mode_change s p past fr x x' h ids left (Active since) f = record { quiet = f.quiet; reason = reason f.reason }
  where
    reason : Reason s p since fr x h → Reason s p since fr x' h
    reason (HoldsSince i y e le) = HoldsSince i y (ap (λ l. l i) ids ∙ e) le
    reason (EndsSo e) = EndsSo e
    reason (HasInvalid j a e i st) = HasInvalid j a e i st
mode_change s p past fr x x' h ids left (Idle since) f = record { quiet = f.quiet; unheld = λ id. ap (λ l. l id) ids ∙ f.unheld id; amid = λ lt. f.amid (left lt) }

-- Octets were written.

wrote_other : (p q c : ℕ) → p ≢ q → taken_by q (Wrote p c) ≡ 0
wrote_other p q c ne = grind (arith, nat_tests)

wrote_here : (p c : ℕ) → taken_by p (Wrote p c) ≡ c
wrote_here p c = grind (arith, nat_tests)

wrote_fits : (c : Conf) → (s p b : ℕ) (past : History) (fr more : List Octets) (x x' : Conn) (h : History) → ConnFits c s p past (Wrote p b) fr more x h → x'.ids ≡ x.ids → x'.idle ≡ x.idle → x'.mode ≡ x.mode → x'.got ≡ x.got → (x'.heard ≡ false → x.heard ≡ false) → (0 < x'.left → 0 < x.left) → LeftFits p 0 x' h → ConnFits c s p past Tick fr more x' h
wrote_fits c s p b past fr more x x' h f ids idle mode got heard some left = record {
  alive = f.alive;
  at = f.at;
  ids = λ id. f.ids id ∙ ap (λ l. listed (l id)) (sym ids);
  early = λ id y e. f.early id y (ap (λ l. l id) (sym ids) ∙ e);
  asked = λ id y e. f.asked id y (ap (λ l. l id) (sym ids) ∙ e);
  begun = λ id y e. f.begun id y (ap (λ l. l id) (sym ids) ∙ e);
  carries = λ id y a e g. f.carries id y a (ap (λ l. l id) (sym ids) ∙ e) g;
  idle = f.idle ∙ sym idle;
  mode = subst (λ m. ModeFits s p past fr x' h m) (sym mode) (mode_change s p past fr x x' h ids some x.mode f.mode);
  left = left;
  read = record { left = ap (λ g. (fed g []).left) got ∙ f.read.left; frames = λ e. absurd (cc) };
  frames = f.frames;
  good = f.good;
  unheard = λ e. f.unheard (heard e);
  unread = λ e g. f.unread (heard e) refl;
}

pub writes_some : (c : Conf) → (s : ℕ) (past : History) (w : What) (fr more : ℕ → List Octets) (m : Multi) (h : History) (p b : ℕ) (x : Conn) → Kept c s past w (Wrote p b) fr more m h → m.conns p ≡ Some x → b < x.left → Kept c s past w Tick fr more (set_conn p (wrote_on b x) m) h
writes_some c s past w fr more m h p b x kept conn lt =
    let fits = kept.conns p x conn in
    let l : LeftFits p b x h = subst (λ n. LeftFits p n x h) (wrote_here p b) fits.left in
    changes c s past w (Wrote p b) fr more m h p x (wrote_on b x) kept conn refl refl
    (wrote_fits c s p b past (fr p) (more p) x (wrote_on b x) h fits refl refl refl refl (λ e. e) (λ lt. omega arith)
    (record { some = λ g. (let e = l.some (omega arith) in omega arith); none = λ e. absurd (omega arith); amid = λ g. l.amid (omega arith); room = λ e g. absurd (omega arith) }))
    (λ q ne. wrote_other p q b ne) (λ q ne. refl) (λ q. refl)

pub writes_all : (c : Conf) → (s : ℕ) (past : History) (w : What) (fr more : ℕ → List Octets) (m : Multi) (h : History) (p b : ℕ) (x : Conn) → Kept c s past w (Wrote p b) fr more m h → m.conns p ≡ Some x → 0 < x.left → x.left ≤ b → Kept c s past w Tick fr more (set_conn p (wrote_on b x) m) h
writes_all c s past w fr more m h p b x kept conn some le =
    let fits = kept.conns p x conn in
    let l : LeftFits p b x h = subst (λ n. LeftFits p n x h) (wrote_here p b) fits.left in
    changes c s past w (Wrote p b) fr more m h p x (wrote_on b x) kept conn refl refl
    (wrote_fits c s p b past (fr p) (more p) x (wrote_on b x) h fits refl refl refl refl (λ e. e) (λ lt. omega arith)
    (record { some = λ g. absurd (omega arith); none = λ e. (let e = l.some some in omega arith); amid = λ g. absurd (omega arith); room = λ e g. l.amid some }))
    (λ q ne. wrote_other p q b ne) (λ q ne. refl) (λ q. refl)

pub writes_nothing : (c : Conf) → (s : ℕ) (past : History) (w : What) (fr more : ℕ → List Octets) (m : Multi) (h : History) (p b : ℕ) (x : Conn) → Kept c s past w (Wrote p b) fr more m h → m.conns p ≡ Some x → x.left ≡ 0 → Kept c s past w Tick fr more (set_conn p (heard_on x) m) h
writes_nothing c s past w fr more m h p b x kept conn none =
    let fits = kept.conns p x conn in
    let l : LeftFits p b x h = subst (λ n. LeftFits p n x h) (wrote_here p b) fits.left in
    changes c s past w (Wrote p b) fr more m h p x (heard_on x) kept conn refl refl
    (wrote_fits c s p b past (fr p) (more p) x (heard_on x) h fits refl refl refl refl (λ e. absurd (cc)) (λ lt. lt)
    (record { some = λ g. absurd (omega arith); none = λ e. (let e = l.none none in omega arith); amid = l.amid; room = λ e g. absurd (cc) }))
    (λ q ne. wrote_other p q b ne) (λ q ne. refl) (λ q. refl)

-- Octets come.

pub octets_come : (c : Conf) → (s : ℕ) (past : History) (w : What) (fr more : ℕ → List Octets) (m : Multi) (h : History) (p : ℕ) (o : Octets) (x : Conn) → Kept c s past w (Bytes p o) fr more m h → m.conns p ≡ Some x
    → Kept c s past w Tick fr more (set_conn p (fed_by o x) m) h × (more p ≡ (fed x.got o).frames)
octets_come c s past w fr more m h p o x kept conn =
    let f = kept.conns p x conn in
    let it : (p == p) ≡ true = grind (arith, nat_tests) in
    let octets : octets_at p (Bytes p o) ≡ o = rw it refl in
    let read : (fed x.got o).left ≡ reading p h = subst (λ o. (fed x.got o).left ≡ reading p h) octets f.read.left in
    let frames : more p ≡ (fed x.got o).frames = subst (λ o. more p ≡ (fed x.got o).frames) octets (f.read.frames it) in (
      changes c s past w (Bytes p o) fr more m h p x (fed_by o x) kept conn refl refl
          (record {
            alive = f.alive;
            at = f.at;
            ids = f.ids;
            early = f.early;
            asked = f.asked;
            begun = f.begun;
            carries = f.carries;
            idle = f.idle;
            mode = mode_change s p past (fr p) x (fed_by o x) h refl (λ lt. lt) x.mode f.mode;
            left = record { some = f.left.some; none = f.left.none; amid = f.left.amid; room = λ e g. absurd (cc) };
            read = record { left = read; frames = λ e. absurd (cc) };
            frames = f.frames;
            good = f.good;
            unheard = λ e. absurd (cc);
            unread = λ e. absurd (cc);
          })
          (λ q ne. refl) (λ q ne. grind (arith, nat_tests)) (λ q. refl),
      frames,
    )

-- A place opens, or does not.

phase_opened : (c : Conf) → (s k p : ℕ) (r : Request) (conns : ℕ → Option Conn) (opening : Option ℕ) (h : History) → conns p ≡ None → (ph : Phase) → PhaseFits c s k r conns opening h ph → PhaseFits c s k r (with_at p (Some (new_conn c)) conns) None h (expected Free ph)
phase_opened c s k p r conns opening h none Free f = tt
phase_opened c s k p r conns opening h none Expecting f = tt
phase_opened c s k p r conns opening h none (Lined q) f = (f.0, at_there p q (Some (new_conn c)) conns (λ e. (let z = f.1 in let y = ap conns e in cc)) ∙ f.1)
phase_opened c s k p r conns opening h none (Holding q id) f = record { conn = f.conn; is_conn = at_there p q (Some (new_conn c)) conns (λ e. (let z = f.is_conn in let y = ap conns e in cc)) ∙ f.is_conn; written = f.written; is_held = f.is_held; its = f.its }
phase_opened c s k p r conns opening h none Broken f = f
phase_opened c s k p r conns opening h none (BackingOff until) f = f

pub it_opens : (c : Conf) → (s : ℕ) (past : History) (m : Multi) (h : History) (p : ℕ) → Kept c s past (Opened p) (Opened p) (λ q. []) (λ q. []) m h → m.opening ≡ Some p → Kept c s past (Opened p) Tick (λ q. []) (λ q. []) (open_at c p m) h
it_opens c s past m h p kept opening =
    let f = kept.opening p opening in
    let b = f.blank in
    let none : m.conns p ≡ None = no_conn (m.conns p) refl in
    let it : (p == p) ≡ true = grind (arith, nat_tests) in
    let wanted = b.wanted in
    record {
      row = kept.row;
      asks = λ k a e.
          (let old = every_some (expected Free) (m.asks k) a e in
          let g = kept.asks k old.0 old.1 in
          subst (λ a. AskFits c s k a (with_at p (Some (new_conn c)) m.conns) None h) (sym old.2)
          (record { asked = g.asked; since = g.since; phase = phase_opened c s k p old.0.request m.conns m.opening h none old.0.phase g.phase }));
      conns = each_at (λ q z. ConnFits c s q past Tick [] [] z h) p (new_conn c) m.conns
          (record {
            alive = f.stand ∙ rw it refl;
            at = f.at;
            ids = λ id. b.waiting [] id;
            early = λ id y e. absurd (cc);
            asked = λ id y e. absurd (cc);
            begun = λ id y e. absurd (cc);
            carries = λ id y a e. absurd (cc);
            idle = b.idle;
            mode = tt;
            left = record { some = λ g. absurd (omega arith); none = λ e. omega arith; amid = λ g. absurd (omega arith); room = λ e g. b.takes };
            read = record { left = sym b.reading; frames = λ e. absurd (cc) };
            frames = sym b.came;
            good = refl;
            unheard = λ e. refl;
            unread = λ e g. refl;
          })
          (λ q z ne e. turn_conn c s q past (Opened p) [] [] z h refl refl (kept.conns q z e));
      owners = each_at (λ q z. (i : ℕ) (y : Written) → z.ids i ≡ Some y → (b : Asker) → every (expected Free) (m.asks y.request) ≡ Some b → b.phase ≡ Holding q i) p (new_conn c) m.conns (λ i y e. absurd (cc)) (λ q z ne e i y g b u. own Free q i y b u (kept.owners q z e i y g));
      opening = λ q e. absurd (cc);
      apart = λ q z e. absurd (cc);
      others = λ q e g n. kept.others q e (grind (arith, nat_tests)) (λ z. (let y = sym opening ∙ z in grind (arith, nat_tests)));
      to_come = λ q le. (let n = kept.to_come q le in let low = kept.below p opening in record { was = n.was; unheld = at_there p q (Some (new_conn c)) m.conns (λ e. omega arith) ∙ n.unheld; stand = n.stand; nowhere = n.nowhere; blank = n.blank });
      below = λ q e. absurd (cc);
      calm = kept.calm;
      late = each_at (λ q z. (since : ℕ) → z.mode ≡ Active since → since + response_timeout c < now h → ReadTimerIsDue c q (now h) past) p (new_conn c) m.conns (λ since e. absurd (cc)) (λ q z ne e. kept.late q z e);
    }
  where
    own : (to : Phase) (q i : ℕ) (y : Written) (b : Asker) → every (expected to) (m.asks y.request) ≡ Some b → ((a : Asker) → m.asks y.request ≡ Some a → a.phase ≡ Holding q i) → b.phase ≡ Holding q i
    own to q i y b u old = (let a = every_some (expected to) (m.asks y.request) b u in ap (λ a. a.phase) a.2 ∙ ap (expected to) (old a.0 a.1))

    no_conn : (z : Option Conn) → m.conns p ≡ z → m.conns p ≡ None
    no_conn None e = e
    no_conn (Some x) e = absurd (kept.apart p x opening e)

phase_failed : (c : Conf) → (s k p : ℕ) (r : Request) (conns : ℕ → Option Conn) (opening : Option ℕ) (h : History) → Broke c 1 s (now h) h → (ph : Phase) → PhaseFits c s k r conns opening h ph → PhaseFits c s k r conns None h (expected Broken ph)
phase_failed c s k p r conns opening h broke Free f = tt
phase_failed c s k p r conns opening h broke Expecting f = inr broke
phase_failed c s k p r conns opening h broke (Lined q) f = f
phase_failed c s k p r conns opening h broke (Holding q id) f = f
phase_failed c s k p r conns opening h broke Broken f = f
phase_failed c s k p r conns opening h broke (BackingOff until) f = f

pub it_does_not_open : (c : Conf) → (s : ℕ) (past : History) (fr more : ℕ → List Octets) (m : Multi) (h : History) (p : ℕ) (f : Fault) (calm : ℕ) → Kept c s past (OpenFailed p f) (OpenFailed p f) fr more m h → m.opening ≡ Some p → calm < now h + back_off → Kept c s past (OpenFailed p f) Tick fr more (not_opened calm m) h
it_does_not_open c s past fr more m h p f calm kept opening lt =
    let o = kept.opening p opening in
    let broke : Broke c 1 s (now h) h = o.fails f refl in
    let it : (p == p) ≡ true = grind (arith, nat_tests) in
    let gone : stand p h ≡ Gone = o.stand ∙ rw it refl in
    record {
      row = kept.row;
      asks = λ k a e.
          (let old = every_some (expected Broken) (m.asks k) a e in
          let g = kept.asks k old.0 old.1 in
          subst (λ a. AskFits c s k a m.conns None h) (sym old.2)
          (record { asked = g.asked; since = g.since; phase = phase_failed c s k p old.0.request m.conns m.opening h broke old.0.phase g.phase }));
      conns = λ q x e. turn_conn c s q past (OpenFailed p f) (fr q) (more q) x h refl refl (kept.conns q x e);
      owners = λ q z e i y g b u. own Broken q i y b u (kept.owners q z e i y g);
      opening = λ q e. absurd (cc);
      apart = λ q z e. absurd (cc);
      others = λ q e g n. others q e g (cases_eq p q) gone;
      to_come = λ q le. (let c = kept.to_come q le in record { was = c.was; unheld = c.unheld; stand = c.stand; nowhere = c.nowhere; blank = c.blank });
      below = λ q e. absurd (cc);
      calm = λ g. ever_more (HappenedWithin c 1 s (now h)) (HappenedWithin c back_off s calm) (λ e y. record { recent = (let z = y.recent in omega arith); broke = y.broke }) h broke;
      late = kept.late;
    }
  where
    own : (to : Phase) (q i : ℕ) (y : Written) (b : Asker) → every (expected to) (m.asks y.request) ≡ Some b → ((a : Asker) → m.asks y.request ≡ Some a → a.phase ≡ Holding q i) → b.phase ≡ Holding q i
    own to q i y b u old = (let a = every_some (expected to) (m.asks y.request) b u in ap (λ a. a.phase) a.2 ∙ ap (expected to) (old a.0 a.1))

    others : (q : ℕ) → is_at Stream s q h ≡ true → m.conns q ≡ None → (p ≡ q) ⊎ (p ≡ q → ⊥) → stand p h ≡ Gone → is_live (stand q h) ≡ false
    others q e g (inl is) gone = rw (ap (λ q. stand q h) (sym is) ∙ gone) refl
    others q e g (inr ne) gone = kept.others q e g (λ z. (let y = sym opening ∙ z in ne (some_same p q y)))
      where
        some_same : (p q : ℕ) → Some p ≡ Some q → p ≡ q
        some_same p q e = cc

-- Events that say nothing here.

pub told_done : (p : ℕ) (w : What) (m : Multi) → is_told p w ≡ true → IsDone w m
told_done p (Ask r) m e = absurd (cc)
told_done p (Opened q) m e = absurd (cc)
told_done p (OpenFailed q g) m e = absurd (cc)
told_done p (SendFailed q g) m e = record { taken = λ q x e. refl; brought = λ q x e. refl; opens = λ q e. refl }
told_done p (ShortSend q) m e = record { taken = λ q x e. refl; brought = λ q x e. refl; opens = λ q e. refl }
told_done p (Datagram q o) m e = absurd (cc)
told_done p (RecvFailed q g) m e = record { taken = λ q x e. refl; brought = λ q x e. refl; opens = λ q e. refl }
told_done p (Wrote q zero) m e = record { taken = λ z x e. grind (arith, nat_tests); brought = λ z x e. refl; opens = λ z e. refl }
told_done p (Wrote q (suc n)) m e = absurd (cc)
told_done p (WriteFailed q g) m e = record { taken = λ q x e. refl; brought = λ q x e. refl; opens = λ q e. refl }
told_done p (Bytes q o) m e = absurd (cc)
told_done p (ReadFailed q g) m e = record { taken = λ q x e. refl; brought = λ q x e. refl; opens = λ q e. refl }
told_done p (Ended q) m e = record { taken = λ q x e. refl; brought = λ q x e. refl; opens = λ q e. refl }
told_done p Tick m e = absurd (cc)

pub foreign_done : (w : What) (m : Multi) → IsForeign w m → IsDone w m
foreign_done (Ask r) m f = record { taken = λ q x e. refl; brought = λ q x e. refl; opens = λ q e. refl }
foreign_done (Opened p) m f = record { taken = λ q x e. refl; brought = λ q x e. refl; opens = λ q e. (let ne : p ≢ q = λ z. f (e ∙ ap Some (sym z)) in grind (arith, nat_tests)) }
foreign_done (OpenFailed p g) m f = record { taken = λ q x e. refl; brought = λ q x e. refl; opens = λ q e. (let ne : p ≢ q = λ z. f (e ∙ ap Some (sym z)) in grind (arith, nat_tests)) }
foreign_done (SendFailed p g) m f = record { taken = λ q x e. refl; brought = λ q x e. refl; opens = λ q e. refl }
foreign_done (ShortSend p) m f = record { taken = λ q x e. refl; brought = λ q x e. refl; opens = λ q e. refl }
foreign_done (Datagram p o) m f = record { taken = λ q x e. refl; brought = λ q x e. refl; opens = λ q e. refl }
foreign_done (RecvFailed p g) m f = record { taken = λ q x e. refl; brought = λ q x e. refl; opens = λ q e. refl }
foreign_done (Wrote p c) m f = record { taken = λ q x e. (let ne : p ≢ q = λ z. (let y = ap m.conns z in cc) in grind (arith, nat_tests)); brought = λ q x e. refl; opens = λ q e. refl }
foreign_done (WriteFailed p g) m f = record { taken = λ q x e. refl; brought = λ q x e. refl; opens = λ q e. refl }
foreign_done (Bytes p o) m f = record { taken = λ q x e. refl; brought = λ q x e. (let ne : p ≢ q = λ z. (let y = ap m.conns z in cc) in grind (arith, nat_tests)); opens = λ q e. refl }
foreign_done (ReadFailed p g) m f = record { taken = λ q x e. refl; brought = λ q x e. refl; opens = λ q e. refl }
foreign_done (Ended p) m f = record { taken = λ q x e. refl; brought = λ q x e. refl; opens = λ q e. refl }
foreign_done Tick m f = record { taken = λ q x e. refl; brought = λ q x e. refl; opens = λ q e. refl }

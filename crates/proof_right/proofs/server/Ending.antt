-- A connection ends: its place is closed, and who was there is to back off.
use Rattle.std.proofs.Common.{◌≡◌, ℕ, ◌+◌, ◌<◌, ◌≤◌, Bool, true, false, ◌⊎◌, inl, inr, Option, Some, None, List, ◌∷◌, ◌++◌, ◌≢◌, refl, arith, ◌∙◌, sym, subst, ap, ◌==◌}
use Rattle.std.specs.Prelude.{if◌then◌else◌}
use Rattle.std.proofs.lemmas.Bool.{cases_lt, cases_eq}
use Rattle.std.proofs.lemmas.Bool.Decides.{nat_tests}
use Rattle.client_request.specs.Request.{Request}
use Rattle.client_request.specs.declared.event.What.{What}
use Rattle.client_request.specs.declared.event.Out.TheVariants.{Close}
use Rattle.client_request.specs.declared.event.Via.TheVariants.{Stream}
use Rattle.right_trace.specs.Trace.{History, Conf, Put}
use Rattle.right_trace.specs.Time.{now, newest, response_timeout}
use Rattle.right_trace.specs.Messages.{Octets}
use Rattle.right_trace.specs.Places.{site, is_at, Alive, stand, is_live, is_told, reach}
use Rattle.right_trace.specs.Frames.{came_here, has_bad, is_bad}
use Rattle.right_trace.specs.Writes.{Written}
use Rattle.right_trace.specs.Timers.{ReadTimerIsDue, IdleTimerIsDue}
use Rattle.right_trace.specs.Busy.{ConnectionEnded, EndsBadly, ByFault, IdleAmidWriting}
use Rattle.right_trace.specs.Orderly.{MayClose, OfStream, MayCloseStream}
use Rattle.proof_right.specs.machine.Streams.{Phase, Free, Expecting, Lined, Holding, Broken, BackingOff, Asker, Active, Idle, Conn, Multi, moved, every, broken_at, end_at}
use Rattle.right_trace.specs.Updates.{with_at}
use Rattle.proof_right.proofs.server.Kept.{stream_site, Broke, HoldsId, PhaseFits, AskFits, listed, ModeFits, ConnFits, Kept}
use Rattle.proof_right.proofs.server.Views.{each_other, at_there, same_conn}
use Rattle.proof_right.proofs.server.FrameLaws.{bad_among}
use Rattle.proof_right.proofs.server.Puts.{touches, put_same, phase_put, opening_put, to_come_put, row_put}

-- it is queued or written at place p
abbrev pub IsThere : (p : ℕ) → Phase → Type 0
IsThere p (Lined q) = q ≡ p
IsThere p (Holding q id) = q ≡ p
IsThere p _ = ⊥

-- of a changed request: what it was
pub every_some : (f : Phase → Phase) (x : Option Asker) (b : Asker) → every f x ≡ Some b → (a : Asker) × (x ≡ Some a) × (b ≡ moved a (f a.phase))
every_some f None b e = absurd (cc)
every_some f (Some a) b e = (a, refl, (grind arith))

pub conn_below : (c : Conf) → (s : ℕ) (past : History) (w pend : What) (fr more : ℕ → List Octets) (m : Multi) (h : History) (p : ℕ) (x : Conn) → Kept c s past w pend fr more m h → m.conns p ≡ Some x → p < reach h
conn_below c s past w pend fr more m h p x kept conn = elim (cases_lt p (reach h)) [ inl lt ↦ lt | inr le ↦ absurd (let u = (kept.to_come p le).unheld in cc) ]

pub at_is : (s p : ℕ) (h : History) → site p h ≡ Some (stream_site s) → is_at Stream s p h ≡ true
at_is s p h e = (let z : (s == s) ≡ true = grind (arith, nat_tests) in rw (e, z) refl)

broke_now : (c : Conf) → (s p : ℕ) (h : History) → site p h ≡ Some (stream_site s) → stand p h ≡ Alive → EndsBadly c p h → Broke c 1 s (now (Put (Close p) ∷ h)) (Put (Close p) ∷ h)
broke_now c s p h at alive bad = inl (record { recent = omega arith; broke = ConnectionEnded p h refl (at_is s p h at) (rw alive refl) bad })

phase_ends : (c : Conf) → (s k p : ℕ) (r : Request) (conns : ℕ → Option Conn) (opening : Option ℕ) (h : History) → site p h ≡ Some (stream_site s) → stand p h ≡ Alive → (ph : Phase) → (IsThere p ph → EndsBadly c p h) → PhaseFits c s k r conns opening h ph
    → PhaseFits c s k r (with_at p None conns) opening (Put (Close p) ∷ h) (broken_at p ph)
phase_ends c s k p r conns opening h at alive Free why f = tt
phase_ends c s k p r conns opening h at alive Expecting why f = f
phase_ends c s k p r conns opening h at alive (Lined q) why f = go (q == p) refl
  where
    go : (b : Bool) → (q == p) ≡ b → PhaseFits c s k r (with_at p None conns) opening (Put (Close p) ∷ h) (if b then Broken else Lined q)
    go true e = inr (broke_now c s p h at alive (why (grind (arith, nat_tests))))
    go false e = (f.0, at_there p q None conns (grind (arith, nat_tests)) ∙ f.1)
phase_ends c s k p r conns opening h at alive (Holding q id) why f = go (q == p) refl
  where
    go : (b : Bool) → (q == p) ≡ b → PhaseFits c s k r (with_at p None conns) opening (Put (Close p) ∷ h) (if b then Broken else Holding q id)
    go true e = inr (broke_now c s p h at alive (why (grind (arith, nat_tests))))
    go false e = record { conn = f.conn; is_conn = at_there p q None conns (grind (arith, nat_tests)) ∙ f.is_conn; written = f.written; is_held = f.is_held; its = f.its }
phase_ends c s k p r conns opening h at alive Broken why f = phase_put c s k r conns opening (Close p) h Broken f
phase_ends c s k p r conns opening h at alive (BackingOff until) why f = phase_put c s k r conns opening (Close p) h (BackingOff until) f

untouched : (p q : ℕ) → p ≢ q → touches q (Close p) ≡ false
untouched p q ne = grind (arith, nat_tests)

pub ends : (c : Conf) → (s : ℕ) (past : History) (w pend : What) (fr more : ℕ → List Octets) (m : Multi) (h : History) (p : ℕ) (x : Conn) → Kept c s past w pend fr more m h → m.conns p ≡ Some x → ((k : ℕ) (a : Asker) → m.asks k ≡ Some a → IsThere p a.phase → EndsBadly c p h)
    → Kept c s past w pend fr more (end_at p m) (Put (Close p) ∷ h)
ends c s past w pend fr more m h p x kept conn why =
    let fits = kept.conns p x conn in
    let low = conn_below c s past w pend fr more m h p x kept conn in
    record {
      row = row_put past w (Close p) h kept.row;
      asks = λ k b e.
          (let old = every_some (broken_at p) (m.asks k) b e in
          let f = kept.asks k old.0 old.1 in
          subst (λ b. AskFits c s k b (with_at p None m.conns) m.opening (Put (Close p) ∷ h)) (sym old.2)
          (record { asked = f.asked; since = f.since; phase = phase_ends c s k p old.0.request m.conns m.opening h fits.at fits.alive old.0.phase (why k old.0 old.1) f.phase }));
      conns = each_other (λ q z. ConnFits c s q past pend (fr q) (more q) z (Put (Close p) ∷ h)) p m.conns
          (λ q z ne e. same_conn c s q past pend (fr q) (more q) z h (Put (Close p) ∷ h) (put_same c s q (Close p) h (untouched p q ne)) (kept.conns q z e));
      owners = each_other (λ q z. (i : ℕ) (y : Written) → z.ids i ≡ Some y → (b : Asker) → every (broken_at p) (m.asks y.request) ≡ Some b → b.phase ≡ Holding q i) p m.conns (λ q z ne e i y g b u. own q i y b ne u (kept.owners q z e i y g));
      opening = λ q e. opening_put c s q past w pend (Close p) h (untouched p q (λ g. kept.apart q x e (ap m.conns (sym g) ∙ conn))) (kept.opening q e);
      apart = λ q z e g. grind (arith, nat_tests, kept.apart q z);
      others = λ q e g n. others q e g n (cases_eq p q);
      to_come = λ q le. (let ne : p ≢ q = λ g. omega arith in to_come_put c s q past w m (end_at p m) (Close p) h (untouched p q ne) (at_there p q None m.conns ne) (kept.to_come q le));
      below = kept.below;
      calm = λ lt. inr (kept.calm lt);
      late = each_other (λ q z. (since : ℕ) → z.mode ≡ Active since → since + response_timeout c < now h → ReadTimerIsDue c q (now h) past) p m.conns (λ q z ne e. kept.late q z e);
    }
  where
    own : (q i : ℕ) (y : Written) (b : Asker) → p ≢ q → every (broken_at p) (m.asks y.request) ≡ Some b → ((a : Asker) → m.asks y.request ≡ Some a → a.phase ≡ Holding q i) → b.phase ≡ Holding q i
    own q i y b ne u old =
        let a = every_some (broken_at p) (m.asks y.request) b u in
        let same : (q == p) ≡ false = grind (arith, nat_tests) in
        let now : broken_at p (Holding q i) ≡ Holding q i = rw same refl in
        ap (λ a. a.phase) a.2 ∙ (ap (broken_at p) (old a.0 a.1) ∙ now)

    others : (q : ℕ) → is_at Stream s q (Put (Close p) ∷ h) ≡ true → (end_at p m).conns q ≡ None → m.opening ≢ Some q → (p ≡ q) ⊎ (p ≡ q → ⊥) → is_live (stand q (Put (Close p) ∷ h)) ≡ false
    others q e g n (inl is) =
        let alive : stand q h ≡ Alive = ap (λ q. stand q h) (sym is) ∙ (kept.conns p x conn).alive in
        let t : (p == q) ≡ true = grind (arith, nat_tests) in
        rw (t, alive) refl
    others q e g n (inr ne) =
        let t : (p == q) ≡ false = grind (arith, nat_tests) in
        rw t (kept.others q e (sym (at_there p q None m.conns ne) ∙ g) n)

-- The four causes

pub told_ends : (c : Conf) → (s p : ℕ) (w : What) (past h : History) → newest h ≡ w → is_told p w ≡ true → EndsBadly c p h
told_ends c s p w past h new told = ByFault (rw new told)

-- a bad frame came
pub bad_ends : (c : Conf) → (s : ℕ) (past : History) (w pend : What) (fr more : ℕ → List Octets) (m : Multi) (h : History) (p : ℕ) (x : Conn) (f : Octets) (rest : List Octets) → Kept c s past w pend fr more m h → m.conns p ≡ Some x → more p ≡ f ∷ rest → is_bad f ≡ true → has_bad (came_here p h) ≡ true
bad_ends c s past w pend fr more m h p x f rest kept conn comes bad =
    let fits = kept.conns p x conn in
    let here : fr p ++ f ∷ rest ≡ came_here p h = ap (λ l. fr p ++ l) (sym comes) ∙ fits.frames in
    ap has_bad (sym here) ∙ bad_among (fr p) f rest bad

-- its idle timer is due, the frames counted that were taken
pub idle_is_due : (c : Conf) → (s : ℕ) (past : History) (w pend : What) (fr more : ℕ → List Octets) (m : Multi) (h : History) (p : ℕ) (x : Conn) (since : ℕ) → Kept c s past w pend fr more m h → m.conns p ≡ Some x → x.mode ≡ Idle since → since + x.idle ≤ now h → IdleTimerIsDue c p h
idle_is_due c s past w pend fr more m h p x since kept conn mode le =
    let fits = kept.conns p x conn in
    let f : ModeFits s p past (fr p) x h (Idle since) = subst (λ m. ModeFits s p past (fr p) x h m) mode fits.mode in
    let q = f.quiet in
    let i = fits.idle in
    record { counted = fr p; later = more p; came = sym fits.frames; alive = fits.alive; unheld = λ id. fits.ids id ∙ ap listed (f.unheld id); passed = omega arith }

-- who is there while it rests is queued behind a write
pub idle_ends : (c : Conf) → (s : ℕ) (past : History) (w pend : What) (fr more : ℕ → List Octets) (m : Multi) (h : History) (p : ℕ) (x : Conn) (since : ℕ) → Kept c s past w pend fr more m h → m.conns p ≡ Some x → x.mode ≡ Idle since → since + x.idle ≤ now h
    → ((k : ℕ) (a : Asker) → m.asks k ≡ Some a → a.phase ≡ Lined p → 0 < x.left) → (k : ℕ) (a : Asker) → m.asks k ≡ Some a → IsThere p a.phase → EndsBadly c p h
idle_ends c s past w pend fr more m h p x since kept conn mode le pumped k a e there = go a.phase refl there
  where
    fits : ModeFits s p past (fr p) x h (Idle since)
    fits = subst (λ m. ModeFits s p past (fr p) x h m) mode (kept.conns p x conn).mode

    go : (ph : Phase) → a.phase ≡ ph → IsThere p ph → EndsBadly c p h
    go Free g t = absurd t
    go Expecting g t = absurd t
    go (Lined q) g t = IdleAmidWriting (idle_is_due c s past w pend fr more m h p x since kept conn mode le) (rw kept.row.before (fits.amid (pumped k a e (g ∙ ap Lined t))))
    go (Holding q id) g t =
        let f : HoldsId m.conns q id k = subst (λ ph. PhaseFits c s k a.request m.conns m.opening h ph) g (kept.asks k a e).phase in
        let same : f.conn ≡ x = (let c = f.is_conn in grind (arith, nat_tests)) in
        absurd (let z = sym (f.is_held) ∙ (ap (λ c. c.ids id) same ∙ fits.unheld id) in cc)
    go Broken g t = absurd t
    go (BackingOff until) g t = absurd t

-- why the place may be closed
pub may_close : (c : Conf) (s p : ℕ) (past : History) (w : What) (h end : History) → site p h ≡ Some (stream_site s) → MayCloseStream c p past w h → MayClose c p past w h end
may_close c s p past w h end at may = OfStream s (at_is s p h at) may

-- A request is written at a connection.
use Rattle.std.proofs.Common.{◌≡◌, ℕ, ◌+◌, ◌<◌, ◌≤◌, Bool, true, false, not, ◌&&◌, ◌⊎◌, inl, inr, Option, Some, None, List, [], ◌∷◌, length, ◌≢◌, refl, arith, ◌∙◌, sym, subst, ap, ◌==◌}
use Rattle.std.specs.Prelude.{if◌then◌else◌}
use Rattle.std.proofs.lemmas.Bool.{cases_eq}
use Rattle.std.proofs.lemmas.Bool.Decides.{nat_tests}
use Rattle.client_request.specs.Request.{Request}
use Rattle.client_request.specs.declared.event.What.{What}
use Rattle.client_request.specs.declared.event.Out.{Out}
use Rattle.client_request.specs.declared.event.Out.TheVariants.{Write}
use Rattle.client_request.specs.declared.event.Via.TheVariants.{Stream}
use Rattle.right_trace.specs.Trace.{History, Put, Conf}
use Rattle.right_trace.specs.Time.{now, response_timeout}
use Rattle.right_trace.specs.Messages.{Octets, CarriesInFrame}
use Rattle.right_trace.specs.Requests.{Asking, asking, started}
use Rattle.right_trace.specs.Writes.{Written, waiting_with, writing, taken_by, taken_first}
use Rattle.right_trace.specs.Timers.{ReadTimerIsDue}
use Rattle.proof_right.specs.machine.Streams.{Phase, Free, Expecting, Lined, Holding, Broken, BackingOff, Asker, Mode, New, Active, Idle, Conn, Multi, moved, move, set_conn, taking, written_on}
use Rattle.right_trace.specs.Updates.{with_at}
use Rattle.proof_right.proofs.server.Kept.{HoldsId, PhaseFits, AskFits, listed, Reason, HoldsSince, EndsSo, HasInvalid, ModeFits, LeftFits, ConnFits, Kept}
use Rattle.proof_right.proofs.server.Views.{each_at, at_here, at_there, same_conn, quiet_by_now}
use Rattle.proof_right.proofs.server.Puts.{touches, put_same, phase_put, ask_put, opening_put, to_come_put, row_put}
use Rattle.proof_right.proofs.server.Ending.{conn_below}

untouched : (p k id q : ℕ) (o : Octets) → p ≢ q → touches q (Write p k id o) ≡ false
untouched p k id q o ne = grind (arith, nat_tests)

mode_taken : (s p : ℕ) (past : History) (x : Conn) (id k : ℕ) (o : Octets) (h : History) → x.ids id ≡ None → (mode : Mode) → ModeFits s p past [] x h mode → ModeFits s p past [] (written_on id k (now h) o x) (Put (Write p k id o) ∷ h) (taking mode (now h))
mode_taken s p past x id k o h free New f = record { quiet = quiet_by_now [] p h; reason = HoldsSince id (record { request = k; octets = o; moment = now h }) (grind (arith, nat_tests)) (omega arith) }
mode_taken s p past x id k o h free (Idle since) f = record { quiet = quiet_by_now [] p h; reason = HoldsSince id (record { request = k; octets = o; moment = now h }) (grind (arith, nat_tests)) (omega arith) }
mode_taken s p past x id k o h free (Active since) f = record { quiet = f.quiet; reason = reason f.reason }
  where
    reason : Reason s p since [] x h → Reason s p since [] (written_on id k (now h) o x) (Put (Write p k id o) ∷ h)
    reason (HoldsSince i y e le) = HoldsSince i y (let ne : id ≢ i = λ g. (let z = sym (ap x.ids g) ∙ free in cc) in at_there id i (Some (record { request = k; octets = o; moment = now h })) x.ids ne ∙ e) le
    reason (EndsSo e) = EndsSo e
    reason (HasInvalid j a e i st) = HasInvalid j a e i st

-- what waits at the place
waits : (p id k i : ℕ) (o : Octets) (ids : ℕ → Option Written) (h : History) → ids id ≡ None → waiting_with [] p i h ≡ listed (ids i) → waiting_with [] p i (Put (Write p k id o) ∷ h) ≡ listed (with_at id (Some (record { request = k; octets = o; moment = now h })) ids i)
waits p id k i o ids h free e = go (cases_eq id i)
  where
    go : (id ≡ i) ⊎ (id ≡ i → ⊥) → waiting_with [] p i (Put (Write p k id o) ∷ h) ≡ listed (with_at id (Some (record { request = k; octets = o; moment = now h })) ids i)
    go (inl is) =
        let a : (id == i) ≡ true = grind (arith, nat_tests) in
        let b : (p == p) ≡ true = grind (arith, nat_tests) in
        let none : waiting_with [] p i h ≡ [] = e ∙ ap listed (ap ids (sym is) ∙ free) in
        rw (a, b, none) refl
    go (inr ne) =
        let a : (id == i) ≡ false = grind (arith, nat_tests) in
        let b : (p == p) ≡ true = grind (arith, nat_tests) in
        rw (a, b) e

left_written : (p n id k : ℕ) (o : Octets) (x : Conn) (h : History) → x.left ≡ 0 → x.heard ≡ false → 0 < length o → LeftFits p n x h → LeftFits p n (written_on id k (now h) o x) (Put (Write p k id o) ∷ h)
left_written p n id k o x h none quiet some f =
    let b : (p == p) ≡ true = grind (arith, nat_tests) in
    let room : taken_first (writing p h) ≡ n = f.room quiet none in
    let is : writing p (Put (Write p k id o) ∷ h) ≡ record { wanted = length o; taken = taken_first (writing p h); was_free = (writing p h).was_free; takes = (writing p h).takes; again = true } = rw b refl in
    record {
      some = λ lt. rw is (omega arith);
      none = λ e. absurd (omega arith);
      amid = λ lt. rw is (no_more (writing p h).was_free (writing p h).takes);
      room = λ e g. absurd (omega arith);
    }
  where
    no_more : (b : Bool) (t : ℕ) → (if b && not true then t else 0) ≡ 0
    no_more true t = refl
    no_more false t = refl

pub phase_same : (c : Conf) → (s k p : ℕ) (r : Request) (conns : ℕ → Option Conn) (opening : Option ℕ) (x x' : Conn) (h : History) → conns p ≡ Some x → x'.ids ≡ x.ids → (ph : Phase) → PhaseFits c s k r conns opening h ph → PhaseFits c s k r (with_at p (Some x') conns) opening h ph
phase_same c s k p r conns opening x x' h conn ids Free f = tt
phase_same c s k p r conns opening x x' h conn ids Expecting f = f
phase_same c s k p r conns opening x x' h conn ids (Lined q) f = go (cases_eq p q)
  where
    go : (p ≡ q) ⊎ (p ≡ q → ⊥) → (z : Conn) × (with_at p (Some x') conns q ≡ Some z)
    go (inl e) = (x', grind (arith, nat_tests))
    go (inr ne) = (f.0, at_there p q (Some x') conns ne ∙ f.1)
phase_same c s k p r conns opening x x' h conn ids (Holding q i) f = go (cases_eq p q)
  where
    go : (p ≡ q) ⊎ (p ≡ q → ⊥) → HoldsId (with_at p (Some x') conns) q i k
    go (inl e) =
        let same : x ≡ f.conn = (let c = f.is_conn in grind (arith, nat_tests)) in
        let there : x.ids i ≡ Some f.written = ap (λ c. c.ids i) same ∙ f.is_held in
        record { conn = x'; is_conn = grind (arith, nat_tests); written = f.written; is_held = (ap (λ l. l i) ids ∙ there); its = f.its }
    go (inr ne) = record { conn = f.conn; is_conn = at_there p q (Some x') conns ne ∙ f.is_conn; written = f.written; is_held = f.is_held; its = f.its }
phase_same c s k p r conns opening x x' h conn ids Broken f = f
phase_same c s k p r conns opening x x' h conn ids (BackingOff until) f = f

phase_writes : (c : Conf) → (s k p : ℕ) (r : Request) (conns : ℕ → Option Conn) (opening : Option ℕ) (x x' : Conn) (o : Out) (h : History) → conns p ≡ Some x → ((i : ℕ) (y : Written) → x.ids i ≡ Some y → x'.ids i ≡ Some y) → (ph : Phase) → PhaseFits c s k r conns opening h ph → PhaseFits c s k r (with_at p (Some x') conns) opening (Put o ∷ h) ph
phase_writes c s k p r conns opening x x' o h conn ids Free f = tt
phase_writes c s k p r conns opening x x' o h conn ids Expecting f = f
phase_writes c s k p r conns opening x x' o h conn ids (Lined q) f = go (cases_eq p q)
  where
    go : (p ≡ q) ⊎ (p ≡ q → ⊥) → (z : Conn) × (with_at p (Some x') conns q ≡ Some z)
    go (inl e) = (x', grind (arith, nat_tests))
    go (inr ne) = (f.0, at_there p q (Some x') conns ne ∙ f.1)
phase_writes c s k p r conns opening x x' o h conn ids (Holding q i) f = go (cases_eq p q)
  where
    go : (p ≡ q) ⊎ (p ≡ q → ⊥) → HoldsId (with_at p (Some x') conns) q i k
    go (inl e) =
        let same : x ≡ f.conn = (let c = f.is_conn in grind (arith, nat_tests)) in
        let there : x.ids i ≡ Some f.written = ap (λ c. c.ids i) same ∙ f.is_held in
        record { conn = x'; is_conn = grind (arith, nat_tests); written = f.written; is_held = ids i f.written there; its = f.its }
    go (inr ne) = record { conn = f.conn; is_conn = at_there p q (Some x') conns ne ∙ f.is_conn; written = f.written; is_held = f.is_held; its = f.its }
phase_writes c s k p r conns opening x x' o h conn ids Broken f = phase_put c s k r conns opening o h Broken f
phase_writes c s k p r conns opening x x' o h conn ids (BackingOff until) f = phase_put c s k r conns opening o h (BackingOff until) f

pub writes : (c : Conf) → (s : ℕ) (past : History) (w pend : What) (fr more : ℕ → List Octets) (m : Multi) (h : History) (k : ℕ) (a : Asker) (p : ℕ) (x : Conn) (id : ℕ) (o : Octets) → Kept c s past w pend fr more m h → m.asks k ≡ Some a → a.phase ≡ Lined p → m.conns p ≡ Some x → x.left ≡ 0 → x.heard ≡ false → x.ids id ≡ None → CarriesInFrame o a.request id → 0 < length o
    → Kept c s past w pend fr more (set_conn p (written_on id k (now h) o x) (move k a (Holding p id) m)) (Put (Write p k id o) ∷ h)
writes c s past w pend fr more m h k a p x id o kept ask lined conn none quiet free carries some =
    let fits = kept.conns p x conn in
    let x' = written_on id k (now h) o x in
    let low = conn_below c s past w pend fr more m h p x kept conn in
    let y' : Written = record { request = k; octets = o; moment = now h } in
    let keeps : (i : ℕ) (y : Written) → x.ids i ≡ Some y → x'.ids i ≡ Some y = λ i y e. (let ne : id ≢ i = λ g. (let z = sym (ap x.ids g) ∙ free in cc) in at_there id i (Some y') x.ids ne ∙ e) in
    let clear : fr p ≡ [] = fits.unheard quiet in
    let fits' : ConnFits c s p past pend [] (more p) x h = subst (λ l. ConnFits c s p past pend l (more p) x h) clear fits in
    let alike : (p == p) ≡ true = grind (arith, nat_tests) in
    let request = (kept.asks k a ask).asked in
    let here : ConnFits c s p past pend [] (more p) x' (Put (Write p k id o) ∷ h) = record {
      alive = fits'.alive;
      at = fits'.at;
      ids = λ i. waits p id k i o x.ids h free (fits'.ids i);
      early = each_at (λ i y. y.moment ≤ now h) id y' x.ids (omega arith) (λ i y ne e. fits'.early i y e);
      asked = each_at (λ i y. (b : Asking) × (asking y.request h ≡ Some b)) id y' x.ids (record { request = a.request; moment = request.0 }, request.1) (λ i y ne e. fits'.asked i y e);
      begun = each_at (λ i y. started y.request s Stream h ≡ true) id y' x.ids (let z = (kept.asks k a ask).since in rw z refl) (λ i y ne e. fits'.begun i y e);
      carries = λ i y b e. each_at (λ i y. (b : Asking) → asking y.request h ≡ Some b → CarriesInFrame y.octets b.request i) id y' x.ids
          (λ b e. (let same : a.request ≡ b.request = (let z = request.1 in grind arith) in rw (sym same) carries))
          (λ i y ne e b g. fits'.carries i y b e g) i y e b;
      idle = fits'.idle;
      mode = mode_taken s p past x id k o h free x.mode fits'.mode;
      left = left_written p (taken_by p pend) id k o x h none quiet some fits'.left;
      read = record { left = fits'.read.left; frames = fits'.read.frames };
      frames = fits'.frames;
      good = refl;
      unheard = λ e. refl;
      unread = fits'.unread;
    } in
    record {
      row = row_put past w (Write p k id o) h kept.row;
      asks = each_at (λ j b. AskFits c s j b (with_at p (Some x') m.conns) m.opening (Put (Write p k id o) ∷ h)) k (moved a (Holding p id)) m.asks
          (let f = kept.asks k a ask in record { asked = f.asked; since = f.since; phase = record { conn = x'; is_conn = grind (arith, nat_tests); written = y'; is_held = grind (arith, nat_tests); its = refl } })
          (λ j b ne e. (let f = kept.asks j b e in ask_put c s j b m.conns (with_at p (Some x') m.conns) m.opening m.opening (Write p k id o) h refl (phase_writes c s j p b.request m.conns m.opening x x' (Write p k id o) h conn keeps b.phase f.phase) f));
      conns = each_at (λ q z. ConnFits c s q past pend (fr q) (more q) z (Put (Write p k id o) ∷ h)) p x' m.conns
          (subst (λ l. ConnFits c s p past pend l (more p) x' (Put (Write p k id o) ∷ h)) (sym clear) here)
          (λ q z ne e. same_conn c s q past pend (fr q) (more q) z h (Put (Write p k id o) ∷ h) (put_same c s q (Write p k id o) h (untouched p k id q o ne)) (kept.conns q z e));
      owners = each_at (λ q z. (i : ℕ) (y : Written) → z.ids i ≡ Some y → (b : Asker) → with_at k (Some (moved a (Holding p id))) m.asks y.request ≡ Some b → b.phase ≡ Holding q i) p x' m.conns
          (each_at (λ i y. (b : Asker) → with_at k (Some (moved a (Holding p id))) m.asks y.request ≡ Some b → b.phase ≡ Holding p i) id y' x.ids (λ b e. own_new e) (λ i y ne e b g. own_old p i y b g (kept.owners p x conn i y e)))
          (λ q z ne e i y g b u. own_old q i y b u (kept.owners q z e i y g));
      opening = λ q e. opening_put c s q past w pend (Write p k id o) h (untouched p k id q o (λ g. kept.apart q x e (ap m.conns (sym g) ∙ conn))) (kept.opening q e);
      apart = λ q z e g. grind (arith, nat_tests, kept.apart q, kept.apart p x);
      others = λ q e g n. kept.others q e (grind (arith, nat_tests)) n;
      to_come = λ q le. (let ne : p ≢ q = λ g. omega arith in to_come_put c s q past w m (set_conn p x' (move k a (Holding p id) m)) (Write p k id o) h (untouched p k id q o ne) (at_there p q (Some x') m.conns ne) (kept.to_come q le));
      below = kept.below;
      calm = λ lt. inr (kept.calm lt);
      late = each_at (λ q z. (since : ℕ) → z.mode ≡ Active since → since + response_timeout c < now h → ReadTimerIsDue c q (now h) past) p x' m.conns (λ since e lt. taken_late (kept.late p x conn) x.mode refl since e lt) (λ q z ne e. kept.late q z e);
    }
  where
    own_new : {b : Asker} → with_at k (Some (moved a (Holding p id))) m.asks k ≡ Some b → b.phase ≡ Holding p id
    own_new {b} e = (let z = at_here k (Some (moved a (Holding p id))) m.asks in let y : moved a (Holding p id) ≡ b = (let u = sym z ∙ e in cc) in ap (λ a. a.phase) (sym y))

    own_old : (q i : ℕ) (y : Written) (b : Asker) → with_at k (Some (moved a (Holding p id))) m.asks y.request ≡ Some b → ((b : Asker) → m.asks y.request ≡ Some b → b.phase ≡ Holding q i) → b.phase ≡ Holding q i
    own_old q i y b g old = elim (cases_eq k y.request) [
      | inl e ↦ absurd (let z = old a (ap m.asks (sym e) ∙ ask) in let u = sym lined ∙ z in cc)
      | inr ne ↦ old b (sym (at_there k y.request (Some (moved a (Holding p id))) m.asks ne) ∙ g)
    ]

    taken_late : ((since : ℕ) → x.mode ≡ Active since → since + response_timeout c < now h → ReadTimerIsDue c p (now h) past) → (mode : Mode) → x.mode ≡ mode → (since : ℕ) → taking mode (now h) ≡ Active since → since + response_timeout c < now h → ReadTimerIsDue c p (now h) past
    taken_late f New e since g lt = absurd (let i : now h ≡ since = cc in omega arith)
    taken_late f (Idle t) e since g lt = absurd (let i : now h ≡ since = cc in omega arith)
    taken_late f (Active t) e since g lt = f since (e ∙ g) lt

-- A frame is taken: its id is freed, and the connection stays active or is idle.
use Rattle.std.proofs.Common.{◌≡◌, ℕ, ◌+◌, ◌<◌, true, false, ◌⊎◌, inl, inr, Option, Some, None, List, [], ◌∷◌, ◌++◌, ◌≢◌, refl, arith, ◌∙◌, sym, subst, ap, ◌==◌, append_assoc}
use Rattle.std.specs.Prelude.{if◌then◌else◌}
use Rattle.std.proofs.lemmas.Bool.{cases_eq}
use Rattle.std.proofs.lemmas.Bool.Decides.{nat_tests}
use Rattle.client_request.specs.Request.{Request}
use Rattle.client_request.specs.declared.event.What.{What}
use Rattle.client_request.specs.declared.event.What.TheVariants.{Tick}
use Rattle.right_trace.specs.Trace.{History, Conf}
use Rattle.right_trace.specs.Time.{now, response_timeout}
use Rattle.right_trace.specs.Messages.{Octets, id_in, keepalive_of}
use Rattle.right_trace.specs.Frames.{is_bad, has_id}
use Rattle.right_trace.specs.Writes.{Written, waiting_with, is_unwritten}
use Rattle.right_trace.specs.Timers.{told_idle}
use Rattle.proof_right.specs.machine.Streams.{Phase, Free, Expecting, Lined, Holding, Broken, BackingOff, Asker, Mode, Active, Conn, Multi, framed, SomeIdHeld, SomeoneLined, LeavesMode, Stays, Rests}
use Rattle.right_trace.specs.Updates.{with_at}
use Rattle.proof_right.proofs.server.Kept.{HoldsId, PhaseFits, listed, HoldsSince, EndsSo, ModeFits, LeftFits, ConnFits, Kept}
use Rattle.proof_right.proofs.server.Views.{each_at, at_there, quiet_by_now}
use Rattle.proof_right.proofs.server.FrameLaws.{bad_more, waits_more, waits_freed, idle_more, ends_unwritten, ends_unknown}

-- a list at one place changed
abbrev pub put_at : (p : ℕ) → List Octets → (ℕ → List Octets) → ℕ → List Octets
put_at p l f q = if p == q then l else f q

-- what is left of the ids
ids_after : (fr : List Octets) (f : Octets) (p id : ℕ) (ids : ℕ → Option Written) (h : History) → is_bad f ≡ false → waiting_with fr p id h ≡ listed (ids id) → waiting_with (fr ++ f ∷ []) p id h ≡ listed (with_at (id_in f) None ids id)
ids_after fr f p id ids h good e = go (cases_eq (id_in f) id)
  where
    go : (id_in f ≡ id) ⊎ (id_in f ≡ id → ⊥) → waiting_with (fr ++ f ∷ []) p id h ≡ listed (with_at (id_in f) None ids id)
    go (inl is) =
        let a : has_id id f ≡ true = grind (arith, nat_tests) in
        let b : with_at (id_in f) None ids id ≡ None = grind (arith, nat_tests) in
        waits_freed fr f p id h a ∙ ap listed (sym b)
    go (inr ne) =
        let a : has_id id f ≡ false = grind (arith, nat_tests) in
        let b : with_at (id_in f) None ids id ≡ ids id = at_there (id_in f) id None ids ne in
        waits_more fr f p id h a ∙ (e ∙ ap listed (sym b))

unwritten_now : (p : ℕ) (x : Conn) (h : History) → LeftFits p 0 x h → 0 < x.left → is_unwritten p h ≡ true
unwritten_now p x h l lt = (let e = l.some lt in grind (arith, nat_tests))

-- the mode that a frame leaves
pub mode_after : (c : Conf) → (s p : ℕ) (past : History) (fr more : List Octets) (m : Multi) (x : Conn) (f : Octets) (mode : Mode) (h : History) → ConnFits c s p past Tick fr more x h → LeavesMode m p (framed f mode x) (now h) mode → ModeFits s p past (fr ++ f ∷ []) (framed f mode x) h mode
mode_after c s p past fr more m x f _ h fits (Stays (SomeIdHeld id y e)) =
    let old : x.ids id ≡ Some y = grind (arith, nat_tests) in
    record { quiet = quiet_by_now (fr ++ f ∷ []) p h; reason = HoldsSince id y e (fits.early id y old) }
mode_after c s p past fr more m x f _ h fits (Stays (SomeoneLined k a e g lt)) =
    record { quiet = quiet_by_now (fr ++ f ∷ []) p h; reason = EndsSo (ends_unwritten fr f p h (unwritten_now p x h fits.left lt)) }
mode_after c s p past fr more m x f _ h fits (Rests none) =
    record { quiet = quiet_by_now (fr ++ f ∷ []) p h; unheld = none; amid = λ lt. inr (unwritten_now p x h fits.left lt) }

pub mode_unknown : (c : Conf) → (s p : ℕ) (past : History) (fr more : List Octets) (x : Conn) (f : Octets) (h : History) → ConnFits c s p past Tick fr more x h → x.ids (id_in f) ≡ None → ModeFits s p past (fr ++ f ∷ []) (framed f (Active (now h)) x) h (Active (now h))
mode_unknown c s p past fr more x f h fits none =
    record { quiet = quiet_by_now (fr ++ f ∷ []) p h; reason = EndsSo (ends_unknown fr f p h (fits.ids (id_in f) ∙ ap listed none)) }

-- the connection after a frame
pub framed_fits : (c : Conf) → (s p : ℕ) (past : History) (fr : List Octets) (f : Octets) (more : List Octets) (x : Conn) (mode : Mode) (h : History) → ConnFits c s p past Tick fr (f ∷ more) x h → is_bad f ≡ false → x.heard ≡ true → ModeFits s p past (fr ++ f ∷ []) (framed f mode x) h mode
    → ConnFits c s p past Tick (fr ++ f ∷ []) more (framed f mode x) h
framed_fits c s p past fr f more x mode h fits good heard mode' = record {
  alive = fits.alive;
  at = fits.at;
  ids = λ id. ids_after fr f p id x.ids h good (fits.ids id);
  early = λ id y e. fits.early id y (grind (arith, nat_tests));
  asked = λ id y e. fits.asked id y (grind (arith, nat_tests));
  begun = λ id y e. fits.begun id y (grind (arith, nat_tests));
  carries = λ id y a e ask. fits.carries id y a (grind (arith, nat_tests)) ask;
  idle = idle_more c fr f more p h fits.frames good ∙ ap (told_idle (keepalive_of f)) fits.idle;
  mode = mode';
  left = record { some = fits.left.some; none = fits.left.none; amid = fits.left.amid; room = fits.left.room };
  read = record { left = fits.read.left; frames = λ e. absurd (cc) };
  frames = append_assoc fr (f ∷ []) more ∙ fits.frames;
  good = bad_more fr f fits.good good;
  unheard = λ e. absurd (cc);
  unread = λ e. absurd (cc);
}

-- another connection
other_conn : (c : Conf) → (s p q : ℕ) (past : History) (fr more : ℕ → List Octets) (l r : List Octets) (x : Conn) (h : History) → p ≢ q → ConnFits c s q past Tick (fr q) (more q) x h → ConnFits c s q past Tick (put_at p l fr q) (put_at p r more q) x h
other_conn c s p q past fr more l r x h ne fits =
    let a : put_at p l fr q ≡ fr q = grind (arith, nat_tests) in
    let b : put_at p r more q ≡ more q = grind (arith, nat_tests) in
    rw (a, b) fits

this_conn : (c : Conf) → (s p : ℕ) (past : History) (fr more : ℕ → List Octets) (l r : List Octets) (x : Conn) (h : History) → ConnFits c s p past Tick l r x h → ConnFits c s p past Tick (put_at p l fr p) (put_at p r more p) x h
this_conn c s p past fr more l r x h fits =
    let a : put_at p l fr p ≡ l = grind (arith, nat_tests) in
    let b : put_at p r more p ≡ r = grind (arith, nat_tests) in
    rw (a, b) fits

-- a request that has no such id goes on as it was
phase_after : (c : Conf) → (s k p id : ℕ) (r : Request) (conns : ℕ → Option Conn) (opening : Option ℕ) (x x' : Conn) (h : History) → conns p ≡ Some x → x'.ids ≡ with_at id None x.ids → ((z : Written) → x.ids id ≡ Some z → z.request ≢ k) → (ph : Phase) → PhaseFits c s k r conns opening h ph → PhaseFits c s k r (with_at p (Some x') conns) opening h ph
phase_after c s k p id r conns opening x x' h conn ids other Free f = tt
phase_after c s k p id r conns opening x x' h conn ids other Expecting f = f
phase_after c s k p id r conns opening x x' h conn ids other (Lined q) f = go (cases_eq p q)
  where
    go : (p ≡ q) ⊎ (p ≡ q → ⊥) → (z : Conn) × (with_at p (Some x') conns q ≡ Some z)
    go (inl e) = (x', grind (arith, nat_tests))
    go (inr ne) = (f.0, at_there p q (Some x') conns ne ∙ f.1)
phase_after c s k p id r conns opening x x' h conn ids other (Holding q i) f = go (cases_eq p q)
  where
    go : (p ≡ q) ⊎ (p ≡ q → ⊥) → HoldsId (with_at p (Some x') conns) q i k
    go (inl e) =
        let same : x ≡ f.conn = (let c = f.is_conn in grind (arith, nat_tests)) in
        let there : x.ids i ≡ Some f.written = ap (λ c. c.ids i) same ∙ f.is_held in
        let ne : id ≢ i = λ g. other f.written (ap x.ids g ∙ there) f.its in
        let held : x'.ids i ≡ Some f.written = ap (λ l. l i) ids ∙ (at_there id i None x.ids ne ∙ there) in
        record { conn = x'; is_conn = grind (arith, nat_tests); written = f.written; is_held = held; its = f.its }
    go (inr ne) = record { conn = f.conn; is_conn = at_there p q (Some x') conns ne ∙ f.is_conn; written = f.written; is_held = f.is_held; its = f.its }
phase_after c s k p id r conns opening x x' h conn ids other Broken f = f
phase_after c s k p id r conns opening x x' h conn ids other (BackingOff until) f = f

-- everything after a frame, where the requests that are left hold no such id
pub after_frame : (c : Conf) → (s : ℕ) (past : History) (w : What) (fr more : ℕ → List Octets) (m : Multi) (asks : ℕ → Option Asker) (p : ℕ) (f : Octets) (rest : List Octets) (x : Conn) (mode : Mode) (h : History) → Kept c s past w Tick fr more m h → m.conns p ≡ Some x → more p ≡ f ∷ rest → is_bad f ≡ false → x.heard ≡ true
    → ((k : ℕ) (a : Asker) → asks k ≡ Some a → (m.asks k ≡ Some a) × ((z : Written) → x.ids (id_in f) ≡ Some z → z.request ≢ k))
    → ModeFits s p past (fr p ++ f ∷ []) (framed f mode x) h mode
    → ((since : ℕ) → mode ≡ Active since → since ≡ now h)
    → Kept c s past w Tick (put_at p (fr p ++ f ∷ []) fr) (put_at p rest more) (record m { conns = with_at p (Some (framed f mode x)) m.conns; asks = asks }) h
after_frame c s past w fr more m asks p f rest x mode h kept conn comes good heard left mode' new =
    let fits : ConnFits c s p past Tick (fr p) (f ∷ rest) x h = subst (λ l. ConnFits c s p past Tick (fr p) l x h) comes (kept.conns p x conn) in
    let x' = framed f mode x in
    record {
      row = kept.row;
      asks = λ k a e. (let old = left k a e in let g = kept.asks k a old.0 in record { asked = g.asked; since = g.since; phase = phase_after c s k p (id_in f) a.request m.conns m.opening x x' h conn refl old.1 a.phase g.phase });
      conns = each_at (λ q z. ConnFits c s q past Tick (put_at p (fr p ++ f ∷ []) fr q) (put_at p rest more q) z h) p x' m.conns
          (this_conn c s p past fr more (fr p ++ f ∷ []) rest x' h (framed_fits c s p past (fr p) f rest x mode h fits good heard mode'))
          (λ q z ne e. other_conn c s p q past fr more (fr p ++ f ∷ []) rest z h ne (kept.conns q z e));
      owners = each_at (λ q z. (i : ℕ) (y : Written) → z.ids i ≡ Some y → (a : Asker) → asks y.request ≡ Some a → a.phase ≡ Holding q i) p x' m.conns (λ i y e a g. kept.owners p x conn i y (grind (arith, nat_tests)) a (left y.request a g).0) (λ q z ne e i y g a u. kept.owners q z e i y g a (left y.request a u).0);
      opening = kept.opening;
      apart = λ q z e g. grind (arith, nat_tests, kept.apart q, kept.apart p x);
      others = λ q e g n. kept.others q e (grind (arith, nat_tests)) n;
      to_come = λ q le. (let c = kept.to_come q le in record { was = c.was; unheld = grind (arith, nat_tests); stand = c.stand; nowhere = c.nowhere; blank = c.blank });
      below = kept.below;
      calm = kept.calm;
      late = each_at (λ q z. (since : ℕ) → z.mode ≡ Active since → since + response_timeout c < now h → _) p x' m.conns (λ since e lt. absurd (let g = new since e in omega arith)) (λ q z ne e. kept.late q z e);
    }

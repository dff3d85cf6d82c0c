-- Moves that put nothing out: a request goes from one phase to another, or is no more.
use Rattle.std.proofs.Common.{◌≡◌, ℕ, ◌+◌, ◌<◌, ◌≤◌, Bool, true, false, ◌⊎◌, inl, inr, Option, Some, None, List, [], ◌∷◌, ◌≢◌, refl, arith, ◌∙◌, sym, subst, ap}
use Rattle.std.specs.Prelude.{is_some}
use Rattle.std.proofs.lemmas.Bool.{cases_eq}
use Rattle.std.proofs.lemmas.Bool.Decides.{nat_tests}
use Rattle.client_request.specs.Request.{Request}
use Rattle.client_request.specs.declared.event.What.{What}
use Rattle.client_request.specs.declared.event.Via.TheVariants.{Stream}
use Rattle.right_trace.specs.Trace.{History, Conf}
use Rattle.right_trace.specs.Time.{now, Ever, response_timeout, back_off, id_count, all_ids}
use Rattle.right_trace.specs.Messages.{Octets, is_valid}
use Rattle.right_trace.specs.Requests.{started}
use Rattle.right_trace.specs.Places.{site}
use Rattle.right_trace.specs.Writes.{Written, waiting_with, is_any, held_with}
use Rattle.right_trace.specs.Frames.{brings}
use Rattle.right_trace.specs.Timers.{ReadTimerIsDue}
use Rattle.right_trace.specs.Busy.{HappenedWithin, IdsAreUsed}
use Rattle.proof_right.specs.machine.Streams.{Phase, Holding, Broken, BackingOff, Asker, Mode, New, Active, Idle, Conn, Multi, moved, move, drop, set_conn, taking, taken_on, IsFull}
use Rattle.right_trace.specs.Updates.{with_at}
use Rattle.proof_right.proofs.server.Kept.{stream_site, Broke, PhaseFits, AskFits, listed, Reason, HoldsSince, EndsSo, HasInvalid, ModeFits, ConnFits, Kept}
use Rattle.proof_right.proofs.server.Counts.{count_same, count_more}
use Rattle.proof_right.proofs.server.FrameLaws.{waits_none, waits_same}
use Rattle.proof_right.proofs.server.Ending.{at_is}
use Rattle.proof_right.proofs.server.Writing.{phase_same}
use Rattle.proof_right.proofs.server.Views.{each_at, each_other, at_there, quiet_by_now, broke_later, ever_more}

-- the requests may change, where each still fits
pub with_asks : (c : Conf) → (s : ℕ) (past : History) (w pend : What) (fr more : ℕ → List Octets) (m : Multi) (asks : ℕ → Option Asker) (h : History) → Kept c s past w pend fr more m h → ((j : ℕ) (b : Asker) → asks j ≡ Some b → AskFits c s j b m.conns m.opening h)
    → ((j : ℕ) (b : Asker) → asks j ≡ Some b → (m.asks j ≡ Some b) ⊎ ((a : Asker) × (m.asks j ≡ Some a) × ((q i : ℕ) → a.phase ≢ Holding q i)))
    → Kept c s past w pend fr more (record m { asks = asks }) h
with_asks c s past w pend fr more m asks h kept fits were = record {
  row = kept.row;
  asks = fits;
  conns = kept.conns;
  owners = λ q z e i y g b u. elim (were y.request b u) [ inl v ↦ kept.owners q z e i y g b v | inr v ↦ absurd (v.2 q i (kept.owners q z e i y g v.0 v.1)) ];
  opening = kept.opening;
  apart = kept.apart;
  others = kept.others;
  to_come = λ q le. (let c = kept.to_come q le in record { was = c.was; unheld = c.unheld; stand = c.stand; nowhere = c.nowhere; blank = c.blank });
  below = kept.below;
  calm = kept.calm;
  late = kept.late;
}

pub moves : (c : Conf) → (s : ℕ) (past : History) (w pend : What) (fr more : ℕ → List Octets) (m : Multi) (h : History) (k : ℕ) (a : Asker) (ph : Phase) → Kept c s past w pend fr more m h → m.asks k ≡ Some a → ((q i : ℕ) → a.phase ≢ Holding q i) → PhaseFits c s k a.request m.conns m.opening h ph → Kept c s past w pend fr more (move k a ph m) h
moves c s past w pend fr more m h k a ph kept ask free fits =
    let f = kept.asks k a ask in
    with_asks c s past w pend fr more m (with_at k (Some (moved a ph)) m.asks) h kept
    (each_at (λ j b. AskFits c s j b m.conns m.opening h) k (moved a ph) m.asks (record { asked = f.asked; since = f.since; phase = fits }) (λ j b ne e. kept.asks j b e))
    (each_at (λ j b. (m.asks j ≡ Some b) ⊎ ((a : Asker) × (m.asks j ≡ Some a) × ((q i : ℕ) → a.phase ≢ Holding q i))) k (moved a ph) m.asks (inr (a, ask, free)) (λ j b ne e. inl e))

pub drops : (c : Conf) → (s : ℕ) (past : History) (w pend : What) (fr more : ℕ → List Octets) (m : Multi) (h : History) (k : ℕ) → Kept c s past w pend fr more m h → Kept c s past w pend fr more (drop k m) h
drops c s past w pend fr more m h k kept = with_asks c s past w pend fr more m (with_at k None m.asks) h kept (each_other (λ j b. AskFits c s j b m.conns m.opening h) k m.asks (λ j b ne e. kept.asks j b e)) (each_other (λ j b. (m.asks j ≡ Some b) ⊎ ((a : Asker) × (m.asks j ≡ Some a) × ((q i : ℕ) → a.phase ≢ Holding q i))) k m.asks (λ j b ne e. inl e))

-- A back-off

backs_off : (c : Conf) → (s until : ℕ) (r : Request) (h : History) → until < now h + back_off → (is_valid r ≡ false) ⊎ Broke c 1 s (now h) h → (is_valid r ≡ false) ⊎ Broke c (back_off + back_off) s until h
backs_off c s until r h lt (inl e) = inl e
backs_off c s until r h lt (inr e) = inr (ever_more (HappenedWithin c 1 s (now h)) (HappenedWithin c (back_off + back_off) s until) (λ e y. record { recent = (let z = y.recent in omega arith); broke = y.broke }) h e)

pub breaks_off : (c : Conf) → (s : ℕ) (past : History) (w pend : What) (fr more : ℕ → List Octets) (m : Multi) (h : History) (k : ℕ) (a : Asker) (until : ℕ) → Kept c s past w pend fr more m h → m.asks k ≡ Some a → a.phase ≡ Broken → until < now h + back_off → Kept c s past w pend fr more (move k a (BackingOff until) m) h
breaks_off c s past w pend fr more m h k a until kept ask phase lt =
    let f : PhaseFits c s k a.request m.conns m.opening h Broken = subst (λ ph. PhaseFits c s k a.request m.conns m.opening h ph) phase (kept.asks k a ask).phase in
    moves c s past w pend fr more m h k a (BackingOff until) kept ask (λ q i e. (let z = sym phase ∙ e in cc)) (backs_off c s until a.request h lt f)

-- the connections back off, and so does the request
pub meets : (c : Conf) → (s : ℕ) (past : History) (w pend : What) (fr more : ℕ → List Octets) (m : Multi) (h : History) (k : ℕ) (a : Asker) (until : ℕ) → Kept c s past w pend fr more m h → m.asks k ≡ Some a → ((q i : ℕ) → a.phase ≢ Holding q i) → now h < m.calm → until < now h + back_off → Kept c s past w pend fr more (move k a (BackingOff until) m) h
meets c s past w pend fr more m h k a until kept ask free calm lt = moves c s past w pend fr more m h k a (BackingOff until) kept ask free (inr (broke_later c back_off back_off s m.calm until h (omega arith) (kept.calm calm)))

-- All ids are held, by what the machine knows and by the rows.

any_listed : (x : Option Written) → is_any (listed x) ≡ is_some x
any_listed None = refl
any_listed (Some y) = refl

pub full_with : (c : Conf) → (s p : ℕ) (past : History) (pend : What) (fr more : List Octets) (x : Conn) (h : History) → ConnFits c s p past pend fr more x h → IsFull x → id_count ≤ held_with fr p h
full_with c s p past pend fr more x h fits full =
    let same = count_same (λ id. is_some (x.ids id)) (λ id. is_any (waiting_with fr p id h)) all_ids (λ id lt. sym (ap is_any (fits.ids id) ∙ any_listed (x.ids id))) in
    subst (λ n. id_count ≤ n) same full

any_before : (ms : List Octets) (p id : ℕ) (h : History) → is_any (waiting_with ms p id h) ≡ true → is_any (waiting_with [] p id h) ≡ true
any_before ms p id h e = go (brings id ms) refl
  where
    go : (b : Bool) → brings id ms ≡ b → is_any (waiting_with [] p id h) ≡ true
    go true g = absurd (let z : is_any [] ≡ true = subst (λ l. is_any l ≡ true) (waits_none ms p id h g) e in cc)
    go false g = subst (λ l. is_any l ≡ true) (sym (waits_same ms [] p id h (sym g))) e

-- without the row's frames as many are held, or more
pub full_before : (c : Conf) → (s p : ℕ) (past : History) (pend : What) (fr more : List Octets) (x : Conn) (h : History) → ConnFits c s p past pend fr more x h → IsFull x → id_count ≤ held_with [] p h
full_before c s p past pend fr more x h fits full =
    let a = full_with c s p past pend fr more x h fits full in
    let b = count_more (λ id. is_any (waiting_with fr p id h)) (λ id. is_any (waiting_with [] p id h)) all_ids (λ id e. any_before fr p id h e) in
    omega arith

pub finds_no_id : (c : Conf) → (s : ℕ) (past : History) (w pend : What) (fr more : ℕ → List Octets) (m : Multi) (h : History) (k : ℕ) (a : Asker) (p : ℕ) (x : Conn) → Kept c s past w pend fr more m h → m.asks k ≡ Some a → ((q i : ℕ) → a.phase ≢ Holding q i) → m.conns p ≡ Some x → IsFull x → Kept c s past w pend fr more (move k a Broken m) h
finds_no_id c s past w pend fr more m h k a p x kept ask free conn full =
    let fits = kept.conns p x conn in
    let held' = full_before c s p past pend (fr p) (more p) x h fits full in
    moves c s past w pend fr more m h k a Broken kept ask free (inr (ever_here (HappenedWithin c 1 s (now h)) h (record { recent = omega arith; broke = IdsAreUsed p (at_is s p h fits.at) fits.alive held' }) (not_none fits.at)))
  where
    not_none : site p h ≡ Some (stream_site s) → h ≢ []
    not_none e g = (let z : site p [] ≡ Some (stream_site s) = subst (λ h. site p h ≡ Some (stream_site s)) g e in cc)

    ever_here : (P : History → Type 0) (h : History) → P h → h ≢ [] → Ever P h
    ever_here P [] x ne = absurd (ne refl)
    ever_here P (i ∷ h) x ne = inl x

-- A request that can't be written: the connection is active all the same.

taken_mode : (s p : ℕ) (past : History) (fr : List Octets) (x : Conn) (h : History) → ((since : ℕ) → Reason s p since fr x h) → (mode : Mode) → ModeFits s p past fr x h mode → ModeFits s p past fr (taken_on (now h) x) h (taking mode (now h))
taken_mode s p past fr x h why New f = record { quiet = quiet_by_now fr p h; reason = again (now h) (why (now h)) }
  where
    again : (since : ℕ) → Reason s p since fr x h → Reason s p since fr (taken_on (now h) x) h
    again since (HoldsSince i y e le) = HoldsSince i y e le
    again since (EndsSo e) = EndsSo e
    again since (HasInvalid j a e i st) = HasInvalid j a e i st
taken_mode s p past fr x h why (Idle t) f = record { quiet = quiet_by_now fr p h; reason = again (now h) (why (now h)) }
  where
    again : (since : ℕ) → Reason s p since fr x h → Reason s p since fr (taken_on (now h) x) h
    again since (HoldsSince i y e le) = HoldsSince i y e le
    again since (EndsSo e) = EndsSo e
    again since (HasInvalid j a e i st) = HasInvalid j a e i st
taken_mode s p past fr x h why (Active t) f = record { quiet = f.quiet; reason = again t f.reason }
  where
    again : (since : ℕ) → Reason s p since fr x h → Reason s p since fr (taken_on (now h) x) h
    again since (HoldsSince i y e le) = HoldsSince i y e le
    again since (EndsSo e) = EndsSo e
    again since (HasInvalid j a e i st) = HasInvalid j a e i st

pub cannot_write : (c : Conf) → (s : ℕ) (past : History) (w pend : What) (fr more : ℕ → List Octets) (m : Multi) (h : History) (k : ℕ) (a : Asker) (p : ℕ) (x : Conn) → Kept c s past w pend fr more m h → m.asks k ≡ Some a → ((q i : ℕ) → a.phase ≢ Holding q i) → m.conns p ≡ Some x → is_valid a.request ≡ false → Kept c s past w pend fr more (set_conn p (taken_on (now h) x) (move k a Broken m)) h
cannot_write c s past w pend fr more m h k a p x kept ask free conn bad =
    let f = kept.asks k a ask in
    let fits = kept.conns p x conn in
    let x' = taken_on (now h) x in
    let started' : started k s Stream h ≡ true = rw f.since refl in
    let why : (since : ℕ) → Reason s p since (fr p) x h = λ since. HasInvalid k (record { request = a.request; moment = f.asked.0 }) f.asked.1 bad started' in
    record {
      row = kept.row;
      asks = each_at (λ j b. AskFits c s j b (with_at p (Some x') m.conns) m.opening h) k (moved a Broken) m.asks
          (record { asked = f.asked; since = f.since; phase = inl bad })
          (λ j b ne e. (let g = kept.asks j b e in record { asked = g.asked; since = g.since; phase = phase_same c s j p b.request m.conns m.opening x x' h conn refl b.phase g.phase }));
      conns = each_at (λ q z. ConnFits c s q past pend (fr q) (more q) z h) p x' m.conns
          (record { alive = fits.alive; at = fits.at; ids = fits.ids; early = fits.early; asked = fits.asked; begun = fits.begun; carries = fits.carries; idle = fits.idle; mode = taken_mode s p past (fr p) x h why x.mode fits.mode; left = record { some = fits.left.some; none = fits.left.none; amid = fits.left.amid; room = fits.left.room }; read = record { left = fits.read.left; frames = fits.read.frames }; frames = fits.frames; good = fits.good; unheard = fits.unheard; unread = fits.unread })
          (λ q z ne e. kept.conns q z e);
      owners = each_at (λ q z. (i : ℕ) (y : Written) → z.ids i ≡ Some y → (b : Asker) → with_at k (Some (moved a Broken)) m.asks y.request ≡ Some b → b.phase ≡ Holding q i) p x' m.conns (λ i y e b g. own p i y b g (kept.owners p x conn i y e)) (λ q z ne e i y g b u. own q i y b u (kept.owners q z e i y g));
      opening = kept.opening;
      apart = λ q z e g. grind (arith, nat_tests, kept.apart q, kept.apart p x);
      others = λ q e g n. kept.others q e (grind (arith, nat_tests)) n;
      to_come = λ q le. (let c = kept.to_come q le in record { was = c.was; unheld = grind (arith, nat_tests); stand = c.stand; nowhere = c.nowhere; blank = c.blank });
      below = kept.below;
      calm = kept.calm;
      late = each_at (λ q z. (since : ℕ) → z.mode ≡ Active since → since + response_timeout c < now h → ReadTimerIsDue c q (now h) past) p x' m.conns (λ since e lt. taken_late (kept.late p x conn) x.mode refl since e lt) (λ q z ne e. kept.late q z e);
    }
  where
    own : (q i : ℕ) (y : Written) (b : Asker) → with_at k (Some (moved a Broken)) m.asks y.request ≡ Some b → ((b : Asker) → m.asks y.request ≡ Some b → b.phase ≡ Holding q i) → b.phase ≡ Holding q i
    own q i y b g old = elim (cases_eq k y.request) [
      | inl e ↦ absurd (free q i (old a (ap m.asks (sym e) ∙ ask)))
      | inr ne ↦ old b (sym (at_there k y.request (Some (moved a Broken)) m.asks ne) ∙ g)
    ]

    taken_late : ((since : ℕ) → x.mode ≡ Active since → since + response_timeout c < now h → ReadTimerIsDue c p (now h) past) → (mode : Mode) → x.mode ≡ mode → (since : ℕ) → taking mode (now h) ≡ Active since → since + response_timeout c < now h → ReadTimerIsDue c p (now h) past
    taken_late f New e since g lt = absurd (let i : now h ≡ since = cc in omega arith)
    taken_late f (Idle t) e since g lt = absurd (let i : now h ≡ since = cc in omega arith)
    taken_late f (Active t) e since g lt = f since (e ∙ g) lt

-- What leaves a connection as it is, and general laws.
use Rattle.std.proofs.Common.{◌≡◌, ℕ, ◌+◌, ◌<◌, ◌≤◌, true, ◌⊎◌, inl, inr, Option, Some, None, List, [], ◌∷◌, ◌≢◌, refl, arith, ◌∙◌, sym, subst₂, ap}
use Rattle.std.specs.Prelude.{nat_lt}
use Rattle.std.proofs.lemmas.Bool.Decides.{nat_tests}
use Rattle.client_request.specs.declared.event.What.{What}
use Rattle.client_request.specs.declared.event.Via.TheVariants.{Stream}
use Rattle.right_trace.specs.Trace.{History, Came, Put, Conf}
use Rattle.right_trace.specs.Time.{now, Ever}
use Rattle.right_trace.specs.Messages.{Octets}
use Rattle.right_trace.specs.Requests.{asking, started}
use Rattle.right_trace.specs.Places.{site, stand}
use Rattle.right_trace.specs.Frames.{reading, came_here}
use Rattle.right_trace.specs.Writes.{waiting_with, writing, is_unwritten}
use Rattle.right_trace.specs.Timers.{quiet_with, idle_with, ended_loose, ends_loose_with}
use Rattle.right_trace.specs.Busy.{HappenedWithin}
use Rattle.proof_right.specs.machine.Streams.{Mode, New, Active, Idle, Conn}
use Rattle.right_trace.specs.Updates.{with_at}
use Rattle.proof_right.proofs.server.Kept.{Broke, Reason, HoldsSince, EndsSo, HasInvalid, ModeFits, ConnFits}

-- Maps with one entry changed

at_cases : {V : Type 0} (k : ℕ) (v : V) (f : ℕ → Option V) (j : ℕ) (b : V) → with_at k (Some v) f j ≡ Some b → ((k ≡ j) × (v ≡ b)) ⊎ ((k ≢ j) × (f j ≡ Some b))
at_cases k v f j b e = grind (arith, nat_tests)

at_other : {V : Type 0} (k : ℕ) (f : ℕ → Option V) (j : ℕ) (b : V) → with_at k None f j ≡ Some b → (k ≢ j) × (f j ≡ Some b)
at_other k f j b e = grind (arith, nat_tests)

pub each_at : {V : Type 0} (P : ℕ → V → Type 0) (k : ℕ) (v : V) (f : ℕ → Option V) → P k v → ((j : ℕ) (b : V) → k ≢ j → f j ≡ Some b → P j b) → (j : ℕ) (b : V) → with_at k (Some v) f j ≡ Some b → P j b
each_at {V} P k v f here others j b e = elim (at_cases k v f j b e) [ inl c ↦ subst₂ (λ j b. P j b) c.0 c.1 here | inr c ↦ others j b c.0 c.1 ]

pub each_other : {V : Type 0} (P : ℕ → V → Type 0) (k : ℕ) (f : ℕ → Option V) → ((j : ℕ) (b : V) → k ≢ j → f j ≡ Some b → P j b) → (j : ℕ) (b : V) → with_at k None f j ≡ Some b → P j b
each_other P k f others j b e = let c = at_other k f j b e in others j b c.0 c.1

pub at_here : {V : Type 0} (k : ℕ) (v : Option V) (f : ℕ → Option V) → with_at k v f k ≡ v
at_here k v f = grind (arith, nat_tests)

pub at_there : {V : Type 0} (k j : ℕ) (v : Option V) (f : ℕ → Option V) → k ≢ j → with_at k v f j ≡ f j
at_there k j v f ne = grind (arith, nat_tests)

-- Histories

pub ever_more : (P Q : History → Type 0) → ((e : History) → P e → Q e) → (h : History) → Ever P h → Ever Q h
ever_more P Q f [] x = x
ever_more P Q f (i ∷ h) (inl x) = inl (f (i ∷ h) x)
ever_more P Q f (i ∷ h) (inr x) = inr (ever_more P Q f h x)

pub broke_longer : (c : Conf) → (time more s n : ℕ) (h : History) → time ≤ more → Broke c time s n h → Broke c more s n h
broke_longer c time more s n h le x = ever_more (HappenedWithin c time s n) (HappenedWithin c more s n) (λ e y. record { recent = (let z = y.recent in omega arith); broke = y.broke }) h x

-- a moment that is later by less than t more
pub broke_later : (c : Conf) → (time t s n m : ℕ) (h : History) → m < n + t → Broke c time s n h → Broke c (time + t) s m h
broke_later c time t s n m h lt x = ever_more (HappenedWithin c time s n) (HappenedWithin c (time + t) s m) (λ e y. record { recent = (let z = y.recent in omega arith); broke = y.broke }) h x

pub quiet_by_now : (ms : List Octets) (p : ℕ) (h : History) → quiet_with ms p h ≤ now h
quiet_by_now ms p [] = omega arith
quiet_by_now ms p (Came e ∷ h) = (let i = quiet_by_now (came_here p h) p h in grind arith)
quiet_by_now ms p (Put o ∷ h) = (let i = quiet_by_now ms p h in grind arith)

-- two histories tell the same of a connection to server s at p
pub record SameConn (c : Conf) (s p : ℕ) (h h' : History) : Type 0 where
  pub stand : stand p h' ≡ stand p h
  pub at : site p h' ≡ site p h
  pub waiting : (ms : List Octets) (id : ℕ) → waiting_with ms p id h' ≡ waiting_with ms p id h
  pub idle : (ms : List Octets) → idle_with c ms p h' ≡ idle_with c ms p h
  pub quiet : (ms : List Octets) → quiet_with ms p h' ≡ quiet_with ms p h
  pub writing : writing p h' ≡ writing p h
  pub reading : reading p h' ≡ reading p h
  pub came : came_here p h' ≡ came_here p h
  pub ended : ended_loose p h' ≡ ended_loose p h
  pub clock : now h' ≡ now h
  pub asking : (k : ℕ) → asking k h' ≡ asking k h
  pub starts : (k : ℕ) → started k s Stream h ≡ true → started k s Stream h' ≡ true

unwritten_same : (c : Conf) → (s p : ℕ) (h h' : History) → SameConn c s p h h' → is_unwritten p h' ≡ is_unwritten p h
unwritten_same c s p h h' same = ap (λ x. nat_lt x.taken x.wanted) same.writing

loose_same : (c : Conf) → (s p : ℕ) (ms : List Octets) (h h' : History) → SameConn c s p h h' → ends_loose_with ms p h' ≡ ends_loose_with ms p h
loose_same c s p [] h h' same = same.ended
loose_same c s p (m ∷ ms) h h' same = rw (unwritten_same c s p h h' same, same.waiting) refl

reason_same : (c : Conf) → (s p since : ℕ) (ms : List Octets) (x : Conn) (h h' : History) → SameConn c s p h h' → Reason s p since ms x h → Reason s p since ms x h'
reason_same c s p since ms x h h' same (HoldsSince id y e le) = HoldsSince id y e le
reason_same c s p since ms x h h' same (EndsSo e) = EndsSo (loose_same c s p ms h h' same ∙ e)
reason_same c s p since ms x h h' same (HasInvalid k a e i st) = HasInvalid k a (same.asking k ∙ e) i (same.starts k st)

mode_same : (c : Conf) → (s p : ℕ) (past : History) (ms : List Octets) (x : Conn) (h h' : History) → SameConn c s p h h' → (mode : Mode) → ModeFits s p past ms x h mode → ModeFits s p past ms x h' mode
mode_same c s p past ms x h h' same New f = tt
mode_same c s p past ms x h h' same (Active since) f = record { quiet = (let q = same.quiet ms in let r = f.quiet in omega arith); reason = reason_same c s p since ms x h h' same f.reason }
mode_same c s p past ms x h h' same (Idle since) f = record { quiet = (let q = same.quiet ms in let r = f.quiet in omega arith); unheld = f.unheld; amid = λ lt. elim (f.amid lt) [ inl e ↦ inl e | inr e ↦ inr (unwritten_same c s p h h' same ∙ e) ] }

pub same_conn : (c : Conf) → (s p : ℕ) (past : History) (pend : What) (fr more : List Octets) (x : Conn) (h h' : History) → SameConn c s p h h' → ConnFits c s p past pend fr more x h → ConnFits c s p past pend fr more x h'
same_conn c s p past pend fr more x h h' same f = record {
  alive = same.stand ∙ f.alive;
  at = same.at ∙ f.at;
  ids = λ id. same.waiting fr id ∙ f.ids id;
  early = λ id y e. (let i = f.early id y e in let c = same.clock in omega arith);
  asked = λ id y e. (let a = f.asked id y e in (a.0, same.asking y.request ∙ a.1));
  begun = λ id y e. same.starts y.request (f.begun id y e);
  carries = λ id y a e ask. f.carries id y a e (sym (same.asking y.request) ∙ ask);
  idle = same.idle fr ∙ f.idle;
  mode = mode_same c s p past fr x h h' same x.mode f.mode;
  left = record { some = rw same.writing f.left.some; none = rw same.writing f.left.none; amid = rw same.writing f.left.amid; room = rw same.writing f.left.room };
  read = record { left = f.read.left ∙ sym same.reading; frames = f.read.frames };
  frames = f.frames ∙ sym same.came;
  good = f.good;
  unheard = f.unheard;
  unread = f.unread;
}

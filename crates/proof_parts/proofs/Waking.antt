-- A connection that takes a request is active.
use Rattle.std.proofs.Common.{◌≡◌, ℕ, ◌+◌, ◌<◌, ◌≤◌, inr, Bool, true, false, Some, refl, sym, ap, subst, ◌∙◌, arith}
use Rattle.std.specs.Prelude.{if◌then◌else◌, ◌==◌}
use Rattle.std.proofs.lemmas.Bool.Decides.{nat_tests}
use Rattle.client_request.specs.View.{View}
use Rattle.client_stream.specs.Plain.{awaits_frame_since, becomes_active_for}
use Rattle.client_stream.specs.declared.line.LineStage.{LineStage}
use Rattle.client_stream.specs.declared.line.LineStage.TheVariants as at
use Rattle.right_trace.specs.Time.{response_timeout}
use Rattle.proof_right.specs.machine.Streams.{Active, Conn, taking, taken_on}
use Rattle.proof_parts.specs.Sights.{IsFair}
use Rattle.proof_parts.specs.PartTie.{Leads}
use Rattle.proof_parts.specs.Connections.{dues, IsTimed}
use Rattle.proof_parts.specs.Lines.{SingleLine, Sorted, StageFits, IsNew, IsActive, IsIdle, LineFits}
use Rattle.proof_parts.proofs.Retiming.{IsAlike, timed_same, IsRetimed, becomes_so}
use Rattle.right_trace.specs.Trace.{Conf}

-- It works since a moment, and is as it was otherwise.
pub record IsWoken (c : Conf) (s : SingleLine) (x : Conn) (v : View) (t : SingleLine) (w : View) : Type 0 where
  pub held : t.held ≡ s.held
  pub ids : t.ids ≡ s.ids
  pub queue : t.queue ≡ s.queue
  pub writing : t.writing ≡ s.writing
  pub since : ℕ
  pub mode : taking x.mode v.now ≡ Active since
  pub fits : LineFits c t (taken_on v.now x) (dues w) w.ticket
  pub timed : IsTimed s.stage t.stage v w
  pub alike : IsAlike v w

module _ (c : Conf) (wait : ℕ) (is_wait : wait ≡ response_timeout c) (s : SingleLine) (x : Conn) (v : View) (fair : IsFair v) (fits : LineFits c s x (dues v) v.ticket) where
  works : taking x.mode v.now ≡ Active v.now → (w : View) → IsRetimed s.stage (v.now + wait + 1) v w → IsWoken c s x v (record s { timeout = wait; stage = at.Active v.timers.next v.now }) w
  works mode w r = record {
    held = refl;
    ids = refl;
    queue = refl;
    writing = refl;
    since = v.now;
    mode = mode;
    fits = record {
      stage = IsActive v.timers.next v.now refl mode (r.here ∙ ap (λ n. Some (v.now + n + 1)) is_wait);
      writing = fits.writing;
      idle = fits.idle;
      timeout = is_wait;
      resting = λ ne. absurd (ne v.now mode);
      order = fits.order;
      few = fits.few;
      ids = subst (λ n. Sorted 0 n s.ids) (sym r.alike.ticket) fits.ids;
      queue = subst (λ n. Sorted 0 n s.queue) (sym r.alike.ticket) fits.queue;
    };
    timed = record { on = r.on; owned = λ i e. inr (own i e); others = r.others };
    alike = r.alike;
  }
    where
      own : (i : ℕ) → Some v.timers.next ≡ Some i → v.timers.next ≤ i
      own i e = let f : v.timers.next ≡ i = cc in omega arith

  lt : v.now < v.now + wait + 1
  lt = omega arith

  fresh : taking x.mode v.now ≡ Active v.now → Leads (IsWoken c s x v) (awaits_frame_since v.now (record s { timeout = wait }) v)
  fresh mode = becomes_so (IsWoken c s x v) (λ timer. at.Active timer v.now) (v.now + wait + 1) (record s { timeout = wait }) v fair lt (works mode)

  same : (timer since : ℕ) → s.stage ≡ at.Active timer since → x.mode ≡ Active since → (b : Bool) → b ≡ true → Leads (IsWoken c s x v) (if b then Some (s, v) else awaits_frame_since since (record s { timeout = wait }) v)
  same timer since is mode false e = absurd (cc)
  same timer since is mode true e = record {
    held = refl;
    ids = refl;
    queue = refl;
    writing = refl;
    since = since;
    mode = still;
    fits = record {
      stage = subst (StageFits c (dues v) s.idle_time s.stage) (sym (still ∙ sym mode)) fits.stage;
      writing = fits.writing;
      idle = fits.idle;
      timeout = fits.timeout;
      resting = λ ne. absurd (ne since still);
      order = fits.order;
      few = fits.few;
      ids = fits.ids;
      queue = fits.queue;
    };
    timed = timed_same s.stage v fair;
    alike = record { outs = refl; board = refl; ticket = refl; place = refl; more = refl };
  }
    where
      still : taking x.mode v.now ≡ Active since
      still = ap (λ m. taking m v.now) mode

  same_wait : (wait == s.timeout) ≡ true
  same_wait = test wait s.timeout (is_wait ∙ sym fits.timeout)
    where
      test : (a b : ℕ) → a ≡ b → (a == b) ≡ true
      test a b e = grind (arith, nat_tests)

  by_stage : (own : LineStage) → s.stage ≡ own → StageFits c (dues v) s.idle_time s.stage x.mode → Leads (IsWoken c s x v) (becomes_active_for wait s v own)
  by_stage at.New is (IsNew e m) = fresh (ap (λ m. taking m v.now) m)
  by_stage at.New is (IsActive timer since e m d) = absurd (let z : at.New ≡ at.Active timer since = sym is ∙ e in cc)
  by_stage at.New is (IsIdle timer since e m d) = absurd (let z : at.New ≡ at.Idle timer = sym is ∙ e in cc)
  by_stage (at.Active timer since) is (IsNew e m) = absurd (let z : at.Active timer since ≡ at.New = sym is ∙ e in cc)
  by_stage (at.Active timer since) is (IsActive t u e m d) = (let z : at.Active timer since ≡ at.Active t u = sym is ∙ e in let y : since ≡ u = cc in same timer since is (m ∙ ap Active (sym y)) (wait == s.timeout) same_wait)
  by_stage (at.Active timer since) is (IsIdle t u e m d) = absurd (let z : at.Active timer since ≡ at.Idle t = sym is ∙ e in cc)
  by_stage (at.Idle timer) is (IsNew e m) = absurd (let z : at.Idle timer ≡ at.New = sym is ∙ e in cc)
  by_stage (at.Idle timer) is (IsActive t u e m d) = absurd (let z : at.Idle timer ≡ at.Active t u = sym is ∙ e in cc)
  by_stage (at.Idle timer) is (IsIdle t u e m d) = fresh (ap (λ m. taking m v.now) m)
  by_stage at.Ended is (IsNew e m) = absurd (let z : at.Ended ≡ at.New = sym is ∙ e in cc)
  by_stage at.Ended is (IsActive t u e m d) = absurd (let z : at.Ended ≡ at.Active t u = sym is ∙ e in cc)
  by_stage at.Ended is (IsIdle t u e m d) = absurd (let z : at.Ended ≡ at.Idle t = sym is ∙ e in cc)

  pub woken : Leads (IsWoken c s x v) (becomes_active_for wait s v s.stage)
  woken = by_stage s.stage refl fits.stage

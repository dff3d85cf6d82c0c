-- A timer fires: it is that of a connection, which ends, or another's.
use Rattle.std.proofs.Common.{◌≡◌, ◌≢◌, ℕ, ◌+◌, ◌<◌, ◌≤◌, Bool, true, false, [], Option, Some, None, refl, sym, ap, subst, ◌∙◌, arith}
use Rattle.std.specs.Prelude.{if◌then◌else◌, ◌==◌}
use Rattle.std.proofs.lemmas.Bool.Decides.{nat_tests}
use Rattle.client_request.specs.Numbered.{entry_at}
use Rattle.client_request.specs.Timers.{cancelled}
use Rattle.client_request.specs.View.{View}
use Rattle.client_request.specs.declared.error.Error.{Error}
use Rattle.client_request.specs.declared.error.Error.TheVariants as errors
use Rattle.client_request.specs.declared.event.Out.TheVariants.{Close}
use Rattle.client_stream.specs.Plain.{fires, ends_with}
use Rattle.client_stream.specs.declared.line.LineStage.{LineStage}
use Rattle.right_trace.specs.Time.{response_timeout}
use Rattle.proof_right.specs.machine.Streams as multi
use Rattle.proof_right.specs.machine.Streams.{Mode, Active, Idle, Lined, Asker, Conn, Multi, end_at, Puts, Moves}
use Rattle.right_trace.specs.Updates.{with_at}
use Rattle.proof_parts.specs.PartTie.{Leads}
use Rattle.proof_parts.specs.Connections.{dues, HasFired, IsOthers, EndsByTimer}
use Rattle.proof_parts.specs.Lines.{SingleLine, StageFits, IsNew, IsActive, IsIdle, WritingFits, LineFits, IsLineAt}
use Rattle.proof_parts.specs.Lines as lines
use Rattle.proof_parts.specs.Sights.{IsFair}
use Rattle.proof_parts.proofs.Ending.{ends_so}
use Rattle.proof_parts.proofs.GoingOn.{fair_without, dues_without}
use Rattle.proof_parts.proofs.Keys.{with_there}
use Rattle.right_trace.specs.Trace.{Conf}

module _ (c : Conf) (server p : ℕ) (names : ℕ → Option ℕ) (m : Multi) (x : Conn) (s : SingleLine) (u : View) (line : IsLineAt c p names s m x (dues u) u.ticket) (fair : IsFair u) (settled : s.writing ≡ None → s.queue ≡ []) (timer due : ℕ) (set : dues u timer ≡ Some due) (late : due ≤ u.now) where
  abbrev v : View
  v = record u { timers = cancelled timer u.timers }

  abbrev P : SingleLine → View → Type 0
  P t w = HasFired c server p names m x s v t w

  ends_there : (error : Error) → error ≢ errors.WrongReplyForQuery → ((next : ℕ) → Moves c server v.now next m (Puts (Close p)) (end_at p m)) → P (ends_with p error s v).0 (ends_with p error s v).1
  ends_there error right moves = EndsByTimer moves (ends_so p names m x.ids s v line.seated line.fits.order.sorted line.fits.queue (fair_without u timer fair) error right) refl

  -- who is queued waits for octets to be taken
  lined_waits : (k : ℕ) (a : Asker) → m.asks k ≡ Some a → a.phase ≡ Lined p → 0 < x.left
  lined_waits k a e f = by line.fits.writing
    where
      by : WritingFits s.writing x.left → 0 < x.left
      by (lines.IsWriting octets g h lt) = lt
      by (lines.IsFree g h) = absurd (let l = line.seated.lined k a e f in let z = sym (ap (entry_at l.0) (settled g)) ∙ l.3 in cc)

  others : StageFits c (dues v) s.idle_time s.stage x.mode → P s v
  others stage = IsOthers (record {
    conn = line.conn;
    seated = line.seated;
    fits = record {
      stage = stage;
      writing = line.fits.writing;
      idle = line.fits.idle;
      timeout = line.fits.timeout;
      resting = line.fits.resting;
      order = line.fits.order;
      few = line.fits.few;
      ids = line.fits.ids;
      queue = line.fits.queue;
    };
  }) refl refl

  due_still : (own : ℕ) (o : Option ℕ) → (timer == own) ≡ false → dues u own ≡ o → dues v own ≡ o
  due_still own o e d = dues_without u timer own fair ∙ (with_there timer None (dues u) own (other timer own e) ∙ d)
    where
      other : (a b : ℕ) → (a == b) ≡ false → a ≡ b → ⊥
      other a b e f = grind (arith, nat_tests)

  its_due : (own at : ℕ) → (timer == own) ≡ true → dues u own ≡ Some at → at ≤ u.now
  its_due own at e d = let f : Some due ≡ Some at = sym set ∙ (ap (dues u) (same timer own e) ∙ d) in let g : due ≡ at = cc in subst (λ n. n ≤ u.now) g late
    where
      same : (a b : ℕ) → (a == b) ≡ true → a ≡ b
      same a b e = grind (arith, nat_tests)

  is_late : (since n : ℕ) → since + response_timeout c + 1 ≤ n → since + response_timeout c < n
  is_late since n le = omega arith

  by_stage : StageFits c (dues u) s.idle_time s.stage x.mode → (own : LineStage) → s.stage ≡ own → Leads P (fires p timer s v own)
  by_stage (IsNew e md) own is = subst (λ own. Leads P (fires p timer s v own)) (sym e ∙ is) (others (IsNew e md))
  by_stage (IsActive t since e md d) own is = subst (λ own. Leads P (fires p timer s v own)) (sym e ∙ is) (by (timer == t) refl)
    where
      by : (b : Bool) → (timer == t) ≡ b → Leads P (if b then Some (ends_with p errors.StreamReadTimeout s v) else Some (s, v))
      by true f = ends_there errors.StreamReadTimeout (λ e. cc) (λ next. multi.ReadsNothing p x since line.conn md (is_late since u.now (its_due t (since + response_timeout c + 1) f d)))
      by false f = others (IsActive t since e md (due_still t (Some (since + response_timeout c + 1)) f d))
  by_stage (IsIdle t since e md d) own is = subst (λ own. Leads P (fires p timer s v own)) (sym e ∙ is) (by (timer == t) refl)
    where
      by : (b : Bool) → (timer == t) ≡ b → Leads P (if b then Some (ends_with p errors.StreamReceiveError s v) else Some (s, v))
      by true f = ends_there errors.StreamReceiveError (λ e. cc) (λ next. multi.RestsTooLong p x since line.conn md (subst (λ i. since + i ≤ u.now) line.fits.idle (its_due t (since + s.idle_time) f d)) lined_waits)
      by false f = others (IsIdle t since e md (due_still t (Some (since + s.idle_time)) f d))

  pub fires_so : Leads P (fires p timer s v s.stage)
  fires_so = by_stage line.fits.stage s.stage refl

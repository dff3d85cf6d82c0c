-- A connection that becomes active or idle has a timer anew.
use Rattle.std.proofs.Common.{◌≡◌, ℕ, ◌^◌, ◌<◌, ◌≤◌, inl, inr, Bool, true, false, Some, None, refl, sym, ap, subst, ◌∙◌, le_refl, le_trans}
use Rattle.std.specs.Prelude.{if◌then◌else◌, option_and_then}
use Rattle.client_request.specs.Timers.{can_draw, cancelled, with_timer}
use Rattle.client_request.specs.View.{View, sets_timer}
use Rattle.client_stream.specs.Plain.{drops_own_timer, becomes}
use Rattle.client_stream.specs.declared.line.LineStage.{LineStage}
use Rattle.client_stream.specs.declared.line.LineStage.TheVariants as at
use Rattle.client_request.specs.Timers.{TimerList}
use Rattle.client_request.specs.declared.timers.Timer.{Timer}
use Rattle.proof_parts.specs.Sights.{due_of, Rising, IsFair}
use Rattle.proof_parts.specs.PartTie.{GoesOn, Leads}
use Rattle.proof_parts.specs.Connections.{timer_of, dues, IsTimed}
use Rattle.proof_parts.specs.Lines.{SingleLine}
use Rattle.proof_parts.proofs.GoingOn.{goes_nowhere, goes_then, goes_without, goes_set, fair_without, dues_without, dues_set, none_next}
use Rattle.proof_parts.proofs.Keys.{with_here, with_there}

-- what two views have alike
pub record IsAlike (v w : View) : Type 0 where
  pub outs : w.outs ≡ v.outs
  pub board : w.board ≡ v.board
  pub ticket : w.ticket ≡ v.ticket
  pub place : w.place ≡ v.place
  pub more : w.more ≡ v.more

pub alike_then : (v w x : View) → IsAlike v w → IsAlike w x → IsAlike v x
alike_then v w x a b = record { outs = b.outs ∙ a.outs; board = b.board ∙ a.board; ticket = b.ticket ∙ a.ticket; place = b.place ∙ a.place; more = b.more ∙ a.more }

pub timed_same : (own : LineStage) (v : View) → IsFair v → IsTimed own own v v
timed_same own v fair = record { on = goes_nowhere v fair; owned = λ i e. inl e; others = λ i due n e. e }

pub timed_then : (a b d : LineStage) (v w x : View) → IsFair v → IsTimed a b v w → IsTimed b d w x → IsTimed a d v x
timed_then a b d v w x fair f g = record {
  on = goes_then v w x f.on g.on;
  owned = λ i e. elim (g.owned i e) [ inl o ↦ f.owned i o | inr le ↦ inr (le_trans f.on.timer le) ];
  others = λ i due n e. g.others i due (λ o. elim (f.owned i o) [ inl q ↦ n q | inr le ↦ (let none = none_next v i fair le in let z : None ≡ Some due = sym none ∙ e in cc) ]) (f.others i due n e);
}

-- something is put out, or on the board, at the end
pub timed_by : (own to : LineStage) (v w x : View) → x.timers ≡ w.timers → x.now ≡ w.now → x.ticket ≡ w.ticket → x.place ≡ w.place → x.words ≡ w.words → IsTimed own to v w → IsTimed own to v x
timed_by own to v w x timers now ticket place words t = record {
  on = record {
    fair = record { order = subst (λ (ts : TimerList). Rising (λ (t : Timer). t.id) 0 ts.next ts.set) (sym timers) t.on.fair.order; words = subst (λ (f : ℕ → ℕ). (i : ℕ) → f i < 2 ^ 64) (sym words) t.on.fair.words };
    now = now ∙ t.on.now;
    timer = subst (λ (ts : TimerList). v.timers.next ≤ ts.next) (sym timers) t.on.timer;
    ticket = subst (λ n. v.ticket ≤ n) (sym ticket) t.on.ticket;
    place = subst (λ n. v.place ≤ n) (sym place) t.on.place;
    later = λ i due e. t.on.later i due (ap (λ (ts : TimerList). due_of i ts.set) (sym timers) ∙ e);
  };
  owned = t.owned;
  others = λ i due n e. ap (λ (ts : TimerList). due_of i ts.set) timers ∙ t.others i due n e;
}

-- a timer is set, and that of the stage was dropped
pub record IsRetimed (own : LineStage) (due : ℕ) (v w : View) : Type 0 where
  pub on : GoesOn v w
  pub alike : IsAlike v w
  pub here : dues w v.timers.next ≡ Some due
  pub others : (i d : ℕ) → (timer_of own ≡ Some i → ⊥) → dues v i ≡ Some d → dues w i ≡ Some d

module _ (P : SingleLine → View → Type 0) (to : ℕ → LineStage) (due : ℕ) (s : SingleLine) (v : View) (fair : IsFair v) (lt : v.now < due) (goes : (w : View) → IsRetimed s.stage due v w → P (record s { stage = to v.timers.next }) w) where
  -- once the old timer is dropped
  sets : (own : LineStage) → s.stage ≡ own → (u : View) → IsFair u → GoesOn v u → IsAlike v u → u.timers.next ≡ v.timers.next → u.now ≡ v.now → ((i d : ℕ) → (timer_of own ≡ Some i → ⊥) → dues v i ≡ Some d → dues u i ≡ Some d)
      → (b : Bool) → Leads P (option_and_then (λ w. Some (record s { stage = to v.timers.next }, w)) (if b then Some (record u { timers = with_timer due u.timers }) else None))
  sets own is u fu on alike next now others false = tt
  sets own is u fu on alike next now others true = goes (record u { timers = with_timer due u.timers }) (record {
    on = goes_then v u (record u { timers = with_timer due u.timers }) on (goes_set u due (subst (λ n. n < due) (sym now) lt) fu);
    alike = record { outs = alike.outs; board = alike.board; ticket = alike.ticket; place = alike.place; more = alike.more };
    here = ap (dues (record u { timers = with_timer due u.timers })) (sym next) ∙ (dues_set u due u.timers.next fu ∙ with_here u.timers.next (Some due) (dues u));
    others = λ i d n e. (let f = others i d (λ o. n (ap timer_of is ∙ o)) e in dues_set u due i fu ∙ (with_there u.timers.next (Some due) (dues u) i (apart i d f) ∙ f));
  })
    where
      apart : (i d : ℕ) → dues u i ≡ Some d → u.timers.next ≡ i → ⊥
      apart i d e same = let none = none_next u i fu (subst (λ i. u.timers.next ≤ i) same (le_refl u.timers.next)) in let z : None ≡ Some d = sym none ∙ e in cc

  dropped : (timer : ℕ) (own : LineStage) → s.stage ≡ own → timer_of own ≡ Some timer → Leads P (option_and_then (λ w. Some (record s { stage = to v.timers.next }, w)) (sets_timer due (record v { timers = cancelled timer v.timers })))
  dropped timer own is t = sets own is (record v { timers = cancelled timer v.timers }) (fair_without v timer fair) (goes_without v timer fair) (record { outs = refl; board = refl; ticket = refl; place = refl; more = refl }) refl refl
      (λ i d n e. dues_without v timer i fair ∙ (with_there timer None (dues v) i (λ same. n (t ∙ ap Some same)) ∙ e)) (can_draw v.timers.next)

  kept : (own : LineStage) → s.stage ≡ own → Leads P (option_and_then (λ w. Some (record s { stage = to v.timers.next }, w)) (sets_timer due v))
  kept own is = sets own is v fair (goes_nowhere v fair) (record { outs = refl; board = refl; ticket = refl; place = refl; more = refl }) refl refl (λ i d n e. e) (can_draw v.timers.next)

  by_stage : (own : LineStage) → s.stage ≡ own → Leads P (option_and_then (λ w. Some (record s { stage = to v.timers.next }, w)) (sets_timer due (drops_own_timer own v)))
  by_stage at.New is = kept at.New is
  by_stage (at.Active timer since) is = dropped timer (at.Active timer since) is refl
  by_stage (at.Idle timer) is = dropped timer (at.Idle timer) is refl
  by_stage at.Ended is = kept at.Ended is

  pub becomes_so : Leads P (becomes to due s v)
  becomes_so = by_stage s.stage refl

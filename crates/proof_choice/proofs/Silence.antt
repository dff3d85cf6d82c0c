-- Silent servers are tied, and leave alone what is not theirs.
use Rattle.std.proofs.Common.{◌≡◌, ℕ, ◌+◌, ◌≤◌, inl, inr, refl, arith, le_refl, Bool, true, false, [], ◌∷◌, Some, None, Err, sym, ap, subst}
use Rattle.std.specs.Prelude.{if◌then◌else◌, option_map, length}
use Rattle.client_request.specs.Timers.{can_draw}
use Rattle.client_request.specs.View.{View, answers, asks}
use Rattle.client_request.specs.declared.error.Error.TheVariants.{ConnectionClosed}
use Rattle.client_request.specs.declared.event.Out.TheVariants.{Start}
use Rattle.client_request.specs.declared.event.Via.TheVariants.{Dgram}
use Rattle.client_request.specs.declared.event.What.{What}
use Rattle.client_request.specs.declared.event.What.TheVariants.{Ask, Opened, OpenFailed, SendFailed, ShortSend, Datagram, RecvFailed, Wrote, WriteFailed, Bytes, ReadFailed, Ended, Tick}
use Rattle.right_trace.specs.Trace.{Conf}
use Rattle.proof_right.specs.machine.Part.{Act}
use Rattle.proof_parts.specs.Chains.{Chain, Stays, Begins, Calls}
use Rattle.proof_parts.specs.Sights.{IsFair}
use Rattle.proof_parts.specs.PartTie.{Phase, Untold, Told, Leads, Leaves, MayLeave}
use Rattle.proof_parts.specs.Sharing.{OpensNext, IsShared, HasOneMore}
use Rattle.proof_parts.specs.Silent.{silent_part, closed_at_once}
use Rattle.right_trace.specs.Updates.{with_at}
use Rattle.std.proofs.lemmas.Bool.Decides.{nat_tests}
use Rattle.proof_parts.proofs.GoingOn.{nothing_done, goes_without}
use Rattle.proof_choice.specs.Choosing.{Choosing, IsStarting}
use Rattle.proof_choice.specs.Silent.{unstarted, numbered, NumbersAreTied, NumbersChoose, SilentChoicesMove, silent_choice}
use Rattle.proof_choice.specs.Doing.{CallsAreMoves}
use Rattle.proof_choice.proofs.Runs.{runs_are_moves}
use Rattle.proof_choice.proofs.Taking.{results_are_moves}
use Rattle.proof_choice.proofs.Cancelling.{cancelling_is_moves}
use Rattle.proof_choice.proofs.Coming.{taking_on_is_moves}
use Rattle.proof_choice.proofs.Lining.{each_has}
use Rattle.proof_choice.proofs.Firing.{firing_is_moves}
use Rattle.proof_choice.proofs.Hearing.{telling_is_moves, taking_is_moves, waking_is_moves}
use Rattle.proof_choice.proofs.Passing.{ignoring_is_nothing}
use Rattle.proof_choice.proofs.Turning.{turning_away, turning_to}

-- no frame is left
none_left : (w : What) → (p : ℕ) × MayLeave w p 0
none_left (Ask r) = (0, refl)
none_left (Opened p) = (0, refl)
none_left (OpenFailed p f) = (0, refl)
none_left (SendFailed p f) = (0, refl)
none_left (ShortSend p) = (0, refl)
none_left (Datagram p o) = (0, refl)
none_left (RecvFailed p f) = (0, refl)
none_left (Wrote p n) = (0, refl)
none_left (WriteFailed p f) = (0, refl)
none_left (Bytes p o) = (p, (refl, few (length o)))
  where
    few : (n : ℕ) → 0 ≤ n
    few n = omega arith
none_left (ReadFailed p f) = (0, refl)
none_left (Ended p) = (0, refl)
none_left Tick = (0, refl)

back_again : (t k i : ℕ) → None ≡ with_at t None (with_at t (Some k) (λ i. None)) i
back_again t k i = grind (arith, nat_tests)

here : (t k : ℕ) → with_at t (Some k) (λ i. None) t ≡ Some k
here t k = grind (arith, nat_tests)

pub numbers_are_tied : NumbersAreTied
numbers_are_tied c s = record {
  fresh = λ x e. refl;
  same = λ phase u x y a tied now dues timer ticket place. tied;
  set = λ phase u x a i tied owns. absurd owns;
  named = λ phase u x a i k tied e. absurd (cc);
  held = λ phase u x a k tied e. absurd (cc);
  response = λ r u v. refl;
  quiet = λ phase u x a told tied i due owns. absurd owns;
  begins = λ phase u x a e end tied. tied;
  rests = λ phase u v a end early tied. tt;
  fires = λ u v a w i due tied fair set late. (let g = goes_without v i fair in nothing_done (silent_part c) s (λ phase u x a. u ≡ s) (λ u t. None) (λ u i. ⊥) u _ a (Untold w) g.fair tied);
  sends = λ phase u v a r may_call tied fair octets free. send u tied v fair phase (can_draw v.ticket);
  cancels = λ phase u v a r k may_call tied fair e. absurd (cc);
  tells = λ u v a w tied fair early calm. (let l = none_left w in record { at = l.0; left = 0; may_be = l.1; more = calm; leaves = nothing_done (silent_part c) s (λ phase u x a. u ≡ s) (λ u t. None) (λ u i. ⊥) u v a (Told l.0 0) fair tied });
  takes = λ u v a p n tied fair early calm. record { at = p; left = 0; may_be = (refl, few n); more = calm; leaves = nothing_done (silent_part c) s (λ phase u x a. u ≡ s) (λ u t. None) (λ u i. ⊥) u v a (Told p 0) fair tied };
}
  where
    few : (n : ℕ) → 0 ≤ n
    few n = omega arith

    more : (n : ℕ) → n ≤ n + 1
    more n = omega arith

    send : (u : ℕ) → u ≡ s → (v : View) → IsFair v → (phase : Phase) → (b : Bool)
        → Leads (Leaves (silent_part c) (λ phase u x a. u ≡ s) (λ u t. None) (λ u i. ⊥) (Begins (λ d. d ≡ closed_at_once s v.place v.request) (Chain (silent_part c) s)) (with_at v.ticket (Some v.request) (λ t. None)) u v phase)
        (option_map (λ w. (u, answers v.ticket (Err ConnectionClosed) w)) (if b then Some (record (asks (Start v.request s Dgram) v) { ticket = v.ticket + 1 }) else None))
    send u is v fair phase false = tt
    send u is v fair phase true = record {
      made = _;
      may = Calls (closed_at_once s v.place v.request) _ refl (Stays v.place tt);
      outs = refl;
      place = refl;
      board = record { ticket = v.ticket; part = Err ConnectionClosed; is_stale = false } ∷ [];
      put = refl;
      gives = (here v.ticket v.request, refl, back_again v.ticket v.request);
      tied = is;
      goes_on = record { fair = record { order = fair.order; words = fair.words }; now = refl; timer = le_refl v.timers.next; ticket = more v.ticket; place = le_refl v.place; later = λ i due e. inl e };
      owned = λ i o. absurd o;
      others = λ i due n e. e;
    }

starts_with : (s : ℕ) → IsStarting s Dgram unstarted numbered (λ u. u ≡ s) (λ r. Unit {0})
starts_with s = record {
  send = λ r u v is. ap (λ n. unstarted.send r u (asks (Start v.request n Dgram) v)) is;
  step = λ h u v. refl;
  cancel = λ r u v is fits. refl;
  response = λ r u v. refl;
  fits = λ r u v is. tt;
}

opens_none : (c : Conf) → OpensNext (silent_part c) (λ a p. false)
opens_none c = record {
  fresh = λ p. refl;
  begins = λ e a p. refl;
  acts = λ s place a d acts. absurd acts;
  starts = λ s place k r a d is. (subst (λ (d : Act (Unit {0})). place ≤ d.place) (sym is) (le_refl place), λ p e. absurd (cc));
  cancels = λ s place k a d acts. absurd acts;
}

shares : (c : Conf) (s : ℕ) → IsShared (silent_part c) (λ a p. false) unstarted (λ phase u x a. u ≡ s) (λ u i. ⊥)
shares c s = record {
  knows = λ u i. inr (λ o. o);
  timers = λ phase u v a i tied none. refl;
  ignores = λ u v a w p tied place none. refl;
  passes = λ u x a w p tied place none early. tied;
  frames = λ u v a w p tied place. refl;
  alone = λ phase u v a r w x may_call tied fair octets free is. one u v w x (can_draw v.ticket) is;
  says_none = λ phase u v a r w x may_call tied fair octets free is. same u v w x (can_draw v.ticket) is;
  keeps_more = λ phase u v a r w x may_call tied is. ap (λ (y : ℕ × View). (y.1).more) (sym (some_is (u, v) (w, x) is));
}
  where
    some_is : {A : Type 0} → (a b : A) → Some a ≡ Some b → a ≡ b
    some_is a b e = cc

    one : (u : ℕ) (v : View) (w : ℕ) (x : View) (b : Bool) → option_map {U = ℕ × View} (λ (y : View). (u, answers v.ticket (Err ConnectionClosed) y)) (if b then Some (record v { ticket = v.ticket + 1 }) else None) ≡ Some (w, x) → HasOneMore v.ticket v.board x.board
    one u v w x false is = absurd (cc)
    one u v w x true is = inr (Err ConnectionClosed, ap (λ (y : View). y.board) (ap (λ (y : ℕ × View). y.1) (sym (some_is _ (w, x) is))))

    same : (u : ℕ) (v : View) (w : ℕ) (x : View) (b : Bool) → option_map {U = ℕ × View} (λ (y : View). (u, answers v.ticket (Err ConnectionClosed) y)) (if b then Some (record v { ticket = v.ticket + 1 }) else None) ≡ Some (w, x) → x.more ≡ v.more
    same u v w x false is = absurd (cc)
    same u v w x true is = ap (λ (y : View). y.more) (ap (λ (y : ℕ × View). y.1) (sym (some_is _ (w, x) is)))

pub choose_numbers : (c : Conf) → NumbersChoose c
choose_numbers c = record { tied = numbers_are_tied c; starts = starts_with; opens = opens_none c; shared = shares c }

pub calls_are_moves : (g : Choosing) → CallsAreMoves g
calls_are_moves g = record {
  turning_away = turning_away g;
  turning_to = turning_to g;
  telling = telling_is_moves g;
  taking = taking_is_moves g;
  waking = waking_is_moves g;
  ignoring = ignoring_is_nothing g;
  results = results_are_moves g;
  runs = runs_are_moves g;
  cancelling = cancelling_is_moves g;
  firing = firing_is_moves g;
  taking_on = taking_on_is_moves g;
  lists = λ servers probed first. each_has servers probed first;
}

pub silent_choices_move : SilentChoicesMove
silent_choices_move c = (choose_numbers c, λ st settings same. calls_are_moves (silent_choice c st settings same (choose_numbers c)))

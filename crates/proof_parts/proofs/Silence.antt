-- The least transport is tied to its part, and leaves alone what is not its own.
use Rattle.std.proofs.Common.{◌≡◌, ℕ, ◌+◌, ◌≤◌, inl, inr, refl, sym, ap, subst, arith, le_refl, Bool, true, false, List, [], ◌∷◌, Option, Some, None, Err}
use Rattle.std.specs.Prelude.{if◌then◌else◌, option_map, length}
use Rattle.client_request.specs.Timers.{can_draw}
use Rattle.client_request.specs.View.{View, answers, asks}
use Rattle.client_request.specs.declared.board.Posted.{Posted}
use Rattle.client_request.specs.declared.error.Error.TheVariants.{ConnectionClosed}
use Rattle.client_request.specs.declared.event.Out.TheVariants.{Start}
use Rattle.client_request.specs.declared.event.Via.TheVariants.{Dgram}
use Rattle.client_request.specs.declared.event.What.{What}
use Rattle.client_request.specs.declared.event.What.TheVariants.{Ask, Opened, OpenFailed, SendFailed, ShortSend, Datagram, RecvFailed, Wrote, WriteFailed, Bytes, ReadFailed, Ended, Tick}
use Rattle.proof_parts.specs.Chains.{Chain, Stays, Begins, Calls}
use Rattle.proof_parts.specs.Sights.{IsFair}
use Rattle.proof_parts.specs.PartTie.{Phase, Untold, Told, Leads, Leaves, MayLeave}
use Rattle.proof_parts.specs.Sharing.{HasOneMore}
use Rattle.proof_parts.specs.Silent.{silent_part, closed_at_once, SilenceIsTied, SilenceOpensNext, SilenceIsShared}
use Rattle.proof_right.specs.machine.Part.{Act}
use Rattle.right_trace.specs.Updates.{with_at}
use Rattle.std.proofs.lemmas.Bool.Decides.{nat_tests}
use Rattle.proof_parts.proofs.GoingOn.{nothing_done, goes_without}

-- there is but one state
abbrev alone : Unit {0}
alone = tt

-- no frame is left
none_left : (w : What) → (p : ℕ) × MayLeave w p 0
none_left (Ask r) = (0, refl)
none_left (Opened p) = (0, refl)
none_left (OpenFailed p f) = (0, refl)
none_left (SendFailed p f) = (0, refl)
none_left (ShortSend p) = (0, refl)
none_left (Datagram p o) = (0, refl)
none_left (RecvFailed p f) = (0, refl)
none_left (Wrote p n) = (0, refl)
none_left (WriteFailed p f) = (0, refl)
none_left (Bytes p o) = (p, (refl, few (length o)))
  where
    few : (n : ℕ) → 0 ≤ n
    few n = omega arith
none_left (ReadFailed p f) = (0, refl)
none_left (Ended p) = (0, refl)
none_left Tick = (0, refl)

back_again : (t k i : ℕ) → None ≡ with_at t None (with_at t (Some k) (λ i. None)) i
back_again t k i = grind (arith, nat_tests)

here : (t k : ℕ) → with_at t (Some k) (λ i. None) t ≡ Some k
here t k = grind (arith, nat_tests)

pub silence_is_tied : SilenceIsTied
silence_is_tied c s = record {
  fresh = λ x e. tt;
  same = λ phase u x y a tied now dues timer ticket place. tt;
  set = λ phase u x a i tied owns. absurd owns;
  named = λ phase u x a i k tied e. absurd (cc);
  held = λ phase u x a k tied e. absurd (cc);
  response = λ r u v. refl;
  quiet = λ phase u x a told tied i due owns. absurd owns;
  begins = λ phase u x a e end tied. tt;
  rests = λ phase u v a end early tied. tt;
  fires = λ u v a w i due tied fair set late. (let g = goes_without v i fair in nothing_done (silent_part c) s (λ phase u x a. Unit {0}) (λ u t. None) (λ u i. ⊥) u _ a (Untold w) g.fair tt);
  sends = λ phase u v a r calm tied fair octets free. send v fair phase (can_draw v.ticket);
  cancels = λ phase u v a r k calm tied fair e. absurd (cc);
  tells = λ u v a w tied fair early calm. (let l = none_left w in record { at = l.0; left = 0; may_be = l.1; more = calm; leaves = nothing_done (silent_part c) s (λ phase u x a. Unit {0}) (λ u t. None) (λ u i. ⊥) u v a (Told l.0 0) fair tt });
  takes = λ u v a p n tied fair early calm. record { at = p; left = 0; may_be = (refl, few n); more = calm; leaves = nothing_done (silent_part c) s (λ phase u x a. Unit {0}) (λ u t. None) (λ u i. ⊥) u v a (Told p 0) fair tt };
}
  where
    few : (n : ℕ) → 0 ≤ n
    few n = omega arith

    more : (n : ℕ) → n ≤ n + 1
    more n = omega arith

    send : (v : View) → IsFair v → (phase : Phase) → (b : Bool)
        → Leads (Leaves (silent_part c) (λ phase u x a. Unit {0}) (λ u t. None) (λ u i. ⊥) (Begins (λ d. d ≡ closed_at_once s v.place v.request) (Chain (silent_part c) s)) (with_at v.ticket (Some v.request) (λ t. None)) alone v phase)
        (option_map (λ w. (alone, answers v.ticket (Err ConnectionClosed) w)) (if b then Some (record (asks (Start v.request s Dgram) v) { ticket = v.ticket + 1 }) else None))
    send v fair phase false = tt
    send v fair phase true = record {
      made = _;
      may = Calls (closed_at_once s v.place v.request) _ refl (Stays v.place tt);
      outs = refl;
      place = refl;
      board = record { ticket = v.ticket; part = Err ConnectionClosed; is_stale = false } ∷ [];
      put = refl;
      gives = (here v.ticket v.request, refl, back_again v.ticket v.request);
      tied = tt;
      goes_on = record { fair = record { order = fair.order; words = fair.words }; now = refl; timer = le_refl v.timers.next; ticket = more v.ticket; place = le_refl v.place; later = λ i due e. inl e };
      owned = λ i o. absurd o;
      others = λ i due n e. e;
    }

pub silence_opens_next : SilenceOpensNext
silence_opens_next c = record {
  fresh = λ p. refl;
  begins = λ e a p. refl;
  acts = λ s place a d acts. absurd acts;
  starts = λ s place k r a d starts. (subst (λ n. place ≤ n) (sym (ap (λ (d : Act (Unit {0})). d.place) starts)) (le_refl place), λ p h. absurd (never h));
  cancels = λ s place k a d cancels. absurd cancels;
}
  where
    never : false ≡ true → ⊥
    never e = cc

-- what a send leaves of a view, where it leaves one
abbrev board_of : Option (Unit {0} × View) → List Posted
board_of None = []
board_of (Some y) = (y.1).board

abbrev more_of : Option (Unit {0} × View) → Bool
more_of None = false
more_of (Some y) = (y.1).more

abbrev sent : View → Bool → Option (Unit {0} × View)
sent v b = option_map (λ w. (alone, answers v.ticket (Err ConnectionClosed) w)) (if b then Some (record v { ticket = v.ticket + 1 }) else None)

pub silence_is_shared : SilenceIsShared
silence_is_shared c = record {
  knows = λ u i. inr (λ owns. owns);
  timers = λ phase u v a i tied others. refl;
  ignores = λ u v a w p tied at none. refl;
  passes = λ u x a w p tied at none early. tt;
  frames = λ u v a w p tied at. refl;
  alone = λ phase u v a r w x calm tied fair octets free sent. one v x w (can_draw v.ticket) sent;
  says_none = λ phase u v a r w x calm tied fair octets free sent. same v x w (can_draw v.ticket) sent;
  keeps_more = λ phase u v a r w x calm tied left. sym (ap more_of left);
}
  where
    one : (v x : View) (w : Unit {0}) (b : Bool) → sent v b ≡ Some (w, x) → HasOneMore v.ticket v.board x.board
    one v x w false e = absurd (let z : None ≡ Some (w, x) = e in cc)
    one v x w true e = inr (Err ConnectionClosed, sym (ap board_of e))

    same : (v x : View) (w : Unit {0}) (b : Bool) → sent v b ≡ Some (w, x) → x.more ≡ v.more
    same v x w false e = absurd (let z : None ≡ Some (w, x) = e in cc)
    same v x w true e = sym (ap more_of e)

-- Once an event was taken in no timer is due.
use Rattle.std.proofs.Common.{◌≡◌, ℕ, zero, suc, Option, Some, None, refl, ap, subst}
use Rattle.std.specs.Option.{unwrap_or}
use Rattle.std.specs.Prelude.{option_and_then}
use Rattle.client_request.specs.Timers.{due_now}
use Rattle.client_request.specs.declared.event.Event.{Event}
use Rattle.client_request.specs.declared.timers.Timer.{Timer}
use Rattle.client_steps.specs.Client.{Client, Machine, at_moment, client_step, fires, fires_all, fires_first, happens, most_timers}

module _ {U P : Type 0} where
  -- no timer of a client is due
  abbrev pub NoneDue : Client U P → Type 0
  NoneDue c = due_now c.view.now c.view.timers.set ≡ None

  same_client : (c d : Client U P) → Some c ≡ Some d → c ≡ d
  same_client c d e = ap (λ o. unwrap_or o c) e

  -- so it is behind calls of which the last one leaves none
  last_of : (k : Client U P → Option (Client U P)) (d : Client U P) → ((x : Client U P) → k x ≡ Some d → NoneDue d) → (o : Option (Client U P)) → option_and_then k o ≡ Some d → NoneDue d
  last_of k d leaves None e = absurd cc
  last_of k d leaves (Some x) e = leaves x e

  module _ (m : Machine U P) where
    first_of : (k : Client U P → Option (Client U P)) (c d : Client U P) → ((x : Client U P) → k x ≡ Some d → NoneDue d)
        → (t : Option Timer) → due_now c.view.now c.view.timers.set ≡ t → fires_first m k c t ≡ Some d → NoneDue d
    first_of k c d leaves None is e = subst NoneDue (same_client c d e) is
    first_of k c d leaves (Some t) is e = last_of k d leaves _ e

    none_is_left : (n : ℕ) (c d : Client U P) → fires m n c ≡ Some d → NoneDue d
    none_is_left zero c d e = absurd cc
    none_is_left (suc n) c d e = first_of (fires m n) c d (λ x left. none_is_left n x d left) (due_now c.view.now c.view.timers.set) refl e

    pub rests : (timeout : ℕ) (e : Event) (c d : Client U P) → client_step m timeout e c ≡ Some d → NoneDue d
    rests timeout e c d is =
        last_of (fires_all m) d (λ x left. none_is_left most_timers x d left) (option_and_then (happens m timeout e.what) (fires_all m (at_moment e.moment.0 c))) is

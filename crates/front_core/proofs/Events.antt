-- A step of the client within.
use Rattle.std.proofs.Common.{◌≡◌, ℕ, sym, subst}
use Rattle.std.specs.Prelude.{IfOk, OnOk, Some, Result, Ok, Err}
use Rattle.client_request.specs.declared.error.Error.{Error}
use Rattle.client_request.specs.declared.event.Event.{Event}
use Rattle.client_request.specs.declared.event.Row.{Row}
use Rattle.client_steps.specs.Whole.{Client, Whole, machine, client_with, plain_step}
use Rattle.client_core.proofs.Replaying.{row_event}
use Rattle.front_core.specs.Core.{IsCoreStep}
use Rattle.right_trace.specs.InOctets.{IsInOctets}
use Rattle.right_trace.specs.Timely.{IsAskedInOctets}

-- a row has its event
pub event_of_row : (words : ℕ → ℕ) (event : Event) (s : Whole) (row : Row) (after : Client) → plain_step words event s ≡ Some (row, after) → row.event ≡ event
event_of_row words event s row after is = row_event machine s.timeout row event (client_with words s) after is

-- a step of the client on an event that is made of octets
pub core_step : (old new : Whole) (words left : ℕ → ℕ) (event : Event) (r : Result Row Error) → IsAskedInOctets event.what → IsInOctets event.what
    → IfOk r (λ row. plain_step words event old ≡ Some (row, client_with left new)) → OnOk r (new.timeout ≡ old.timeout)
    → IfOk r (λ row. IsCoreStep old words event row new left)
core_step old new words left event (Ok row) asked comes step timeout =
    let same : event ≡ row.event = sym (event_of_row words event old row (client_with left new) step) in
    record {
      row_is = step;
      timeout = timeout;
      asked = subst (λ (e : Event). IsAskedInOctets e.what) same asked;
      comes = subst (λ (e : Event). IsInOctets e.what) same comes;
    }
core_step old new words left event (Err error) asked comes step timeout = step

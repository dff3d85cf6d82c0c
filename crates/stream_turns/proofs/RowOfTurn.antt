-- The row of a turn.
use Rattle.std.proofs.Common.{◌≡◌, ℕ, List, [], ◌∷◌, ap, sym, subst, ◌∙◌, Option, Some, Result, Ok, Err}
use Rattle.std.specs.Prelude.{IfOk}
use Rattle.client_request.specs.declared.error.Error.{Error}
use Rattle.client_request.specs.declared.event.Event.{Event}
use Rattle.client_request.specs.declared.event.Row.{Row}
use Rattle.client_request.specs.declared.event.What.{What}
use Rattle.client_core.proofs.Replaying.{row_event}
use Rattle.client_core.specs.declared.edge.Deed.{Deed}
use Rattle.client_core.specs.declared.edge.Deed.TheVariants.{Polled}
use Rattle.client_loop.proofs.Deeds.{more_deeds}
use Rattle.client_loop.specs.Turns.{IsTurn, acts_on, after_deeds, happened}
use Rattle.right_trace.specs.InOctets.{IsInOctets}
use Rattle.stream_turns.specs.Turns.{Client, Held, client_with, machine, steps}

-- the event of a row that a step makes
pub of_event : (words : ℕ → ℕ) (held : Held) (event : Event) (row : Row) (after : Client) → steps words event held ≡ Some (row, after) → row.event ≡ event
of_event words held event row after step = row_event machine 0 row event (client_with words held) after step

pub turned : (words : ℕ → ℕ) (held : Held) (after : Client) (event : Event) (polled : Option What) (old mid new : Option (List Deed)) (r : Result Row Error) → IsInOctets event.what → event.what ≡ happened polled
    → mid ≡ after_deeds (Polled polled ∷ []) old → IfOk r (λ row. steps words event held ≡ Some (row, after)) → IfOk r (λ row. new ≡ after_deeds (acts_on row.outs) mid)
    → IfOk r (λ row. IsTurn row old new)
turned words held after event polled old mid new (Ok row) octets is poll step acts =
    let same : row.event ≡ event = of_event words held event row after step in
    record {
      polled = polled;
      octets = subst (λ (e : Event). IsInOctets e.what) (sym same) octets;
      of_poll = ap (λ (e : Event). e.what) same ∙ is;
      deeds = more_deeds (Polled polled ∷ []) (acts_on row.outs) old mid new poll acts;
    }
turned words held after event polled old mid new (Err error) octets is poll step acts = step

pub row_of_own : (words : ℕ → ℕ) (held : Held) (after : Client) (event : Event) (r : Result Row Error) → IfOk r (λ row. steps words event held ≡ Some (row, after)) → IfOk r (λ row. steps words row.event held ≡ Some (row, after))
row_of_own words held after event (Ok row) step = ap (λ (e : Event). steps words e held) (of_event words held event row after step) ∙ step
row_of_own words held after event (Err error) step = step

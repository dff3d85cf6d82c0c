-- Steps of a client within that is recorded.
use Rattle.std.proofs.Common.{◌≡◌, ℕ, List, [], ◌∷◌, ◌++◌, Option, Result, Ok, Err, ap, sym, subst, ◌∙◌, append_assoc, append-nil}
use Rattle.std.specs.Prelude.{IfOk, OnOk}
use Rattle.client_request.specs.declared.error.Error.{Error}
use Rattle.client_request.specs.declared.event.Event.{Event}
use Rattle.client_request.specs.declared.event.Row.{Row}
use Rattle.client_steps.specs.Whole.{Whole}
use Rattle.dns_record.specs.Recording.{Keeps, Opening, Recorded, Recording, Takes}
use Rattle.front_steps.specs.Steps.{Runs, rests, steps_on}
use Rattle.right_trace.specs.InOctets.{IsInOctets}
use Rattle.right_trace.specs.Timely.{IsAskedInOctets}
use Rattle.forward_record.specs.Core.{IsRecordedStep, RecordedClient}

module _ {K : Type 0} (held : K → Option (List ℕ)) where
  -- a step on an event that is made of octets
  pub recorded_step : (old new : RecordedClient K) (words left : ℕ → ℕ) (event : Event) (r : Result Row Error) → IsAskedInOctets event.what → IsInOctets event.what
      → IfOk r (λ row. Takes old.recorder.ended old.recorder.words new.recorder.words words left event old.client row new.client)
      → IfOk r (λ row. Keeps (row ∷ []) (held old.sink) old.recorder old.client (held new.sink) new.recorder new.client) → OnOk r (new.client.timeout ≡ old.client.timeout) → IfOk r (λ row. row.event ≡ event)
      → IfOk r (λ row. IsRecordedStep held old words event row new left)
  recorded_step old new words left event (Ok row) asked comes takes keeps timeout same = record {
    takes = takes;
    keeps = keeps;
    timeout = timeout;
    asked = subst (λ (e : Event). IsAskedInOctets e.what) (sym same) asked;
    comes = subst (λ (e : Event). IsInOctets e.what) (sym same) comes;
  }
  recorded_step old new words left event (Err error) asked comes takes keeps timeout same = takes

  pub keeps_none : (a : RecordedClient K) → Keeps [] (held a.sink) a.recorder a.client (held a.sink) a.recorder a.client
  keeps_none a o rows h = subst (λ (rs : List Row). Recorded o rs (held a.sink) a.recorder a.client) (sym (append-nil rows)) h

  pub keeps_joined : (first later : List Row) (a b c : RecordedClient K) → Keeps first (held a.sink) a.recorder a.client (held b.sink) b.recorder b.client
      → Keeps later (held b.sink) b.recorder b.client (held c.sink) c.recorder c.client → Keeps (first ++ later) (held a.sink) a.recorder a.client (held c.sink) c.recorder c.client
  keeps_joined first later a b c h k o rows is = subst (λ (rs : List Row). Recorded o rs (held c.sink) c.recorder c.client) (append_assoc rows first later) (k o (rows ++ first) (h o rows is))

  -- rows that come one behind another are recorded
  pub keeps_all : (a : RecordedClient K) (f : ℕ → ℕ) (rows : List Row) (b : RecordedClient K) (g : ℕ → ℕ) → Runs (IsRecordedStep held) a f rows b g
      → Keeps rows (held a.sink) a.recorder a.client (held b.sink) b.recorder b.client
  keeps_all a f rows b g rests = keeps_none a
  keeps_all a f rows b g (steps_on before all row c d h k runs step is) =
      subst (λ (rs : List Row). Keeps rs (held a.sink) a.recorder a.client (held d.sink) d.recorder d.client) (sym is)
      (keeps_joined before (row ∷ []) a c d (keeps_all a f before c h runs) step.keeps)

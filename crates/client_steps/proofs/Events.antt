-- A plain trace has a row for each event, over any transport.
use Rattle.std.proofs.Common.{◌≡◌, ℕ, List, [], ◌∷◌, map, Option, Some, None, refl, sym, ap, ◌∙◌}
use Rattle.std.specs.Prelude.{option_and_then, option_map}
use Rattle.client_request.specs.declared.event.Event.{Event}
use Rattle.client_request.specs.declared.event.Row.{Row}
use Rattle.client_steps.specs.Client.{Machine, Client, rested, row_of, row_and_rest, then_rows, client_step, plain_rows}

events_of : Option (List Row) → List Event
events_of None = []
events_of (Some rows) = map (λ row. row.event) rows

module _ {U P : Type 0} (m : Machine U P) (timeout : ℕ) where
  pub rows_of_events : (es : List Event) (c : Client U P) (rows : List Row) → plain_rows m timeout es c ≡ Some rows → map (λ row. row.event) rows ≡ es
  unfolding events_of
  rows_of_events [] c rows e = sym (ap events_of e)
  rows_of_events (e ∷ es) c rows is = by (client_step m timeout e c) is (rows_of_events es)
    where
      by : (o : Option (Client U P)) → option_and_then (then_rows (plain_rows m timeout es)) (option_map (row_and_rest e) o) ≡ Some rows
          → ((c : Client U P) (rows : List Row) → plain_rows m timeout es c ≡ Some rows → map (λ row. row.event) rows ≡ es) → map (λ row. row.event) rows ≡ e ∷ es
      by None f ih = absurd (cc)
      by (Some d) f ih = rest (plain_rows m timeout es (rested d)) refl f
        where
          rest : (o : Option (List Row)) → plain_rows m timeout es (rested d) ≡ o → option_map (λ rows. row_of e d ∷ rows) o ≡ Some rows → map (λ row. row.event) rows ≡ e ∷ es
          rest None g f = absurd (cc)
          rest (Some more) g f = sym (ap events_of f) ∙ ap (λ (xs : List Event). e ∷ xs) (ih (rested d) more g)

-- What a plain trace puts out is what is told of its events.
use Rattle.std.proofs.Common.{◌≡◌, ℕ, List, [], ◌∷◌, ◌++◌, Option, Some, None, refl, ap, ◌∙◌}
use Rattle.std.specs.Option.{unwrap_or}
use Rattle.std.specs.Prelude.{option_and_then, option_map}
use Rattle.client_request.specs.declared.event.Event.{Event}
use Rattle.client_request.specs.declared.event.Row.{Row}
use Rattle.client_steps.specs.Client.{Client, Machine, plain_rows, row_step, then_rows}
use Rattle.proof_cutting.specs.Cuts.{outs_of}
use Rattle.proof_cutting.specs.Told.{then_told, told_all}

module _ {U P : Type 0} (m : Machine U P) (timeout : ℕ) where
  -- rows are made, and these outs are told with a client that is left
  abbrev pub IsTold : List Event → Client U P → List Row → Type 0
  IsTold es c rows = (d : Client U P) × (told_all m timeout es c ≡ Some (outs_of rows, d))

  -- the row of an event, and then those of the others
  behind : (e : Event) (es : List Event) (c : Client U P) (rows : List Row) (x : Row × Client U P) → ((rest : List Row) → plain_rows m timeout es x.1 ≡ Some rest → IsTold es x.1 rest)
      → (o : Option (List Row)) → plain_rows m timeout es x.1 ≡ o → option_map (λ rest. x.0 ∷ rest) o ≡ Some rows → row_step m timeout e c ≡ Some x → IsTold (e ∷ es) c rows
  behind e es c rows x are_told None is i r = absurd cc
  behind e es c rows x are_told (Some rest) is i r =
      let told = are_told rest is in
      let all : x.0 ∷ rest ≡ rows = ap (λ o. unwrap_or o []) i in (
        told.0,
        ap (option_and_then (then_told m timeout (told_all m timeout es))) r
            ∙ ap (option_map (λ y. (x.0.outs ++ y.0, y.1))) told.1
            ∙ ap (λ (r : List Row). Some (outs_of r, told.0)) all,
      )

  by_row : (e : Event) (es : List Event) (c : Client U P) (rows : List Row) → ((d : Client U P) (rest : List Row) → plain_rows m timeout es d ≡ Some rest → IsTold es d rest)
      → (o : Option (Row × Client U P)) → row_step m timeout e c ≡ o → option_and_then (then_rows (plain_rows m timeout es)) o ≡ Some rows → IsTold (e ∷ es) c rows
  by_row e es c rows are_told None is i = absurd cc
  by_row e es c rows are_told (Some x) is i = behind e es c rows x (are_told x.1) (plain_rows m timeout es x.1) refl i is

  pub rows_are_told : (es : List Event) (c : Client U P) (rows : List Row) → plain_rows m timeout es c ≡ Some rows → IsTold es c rows
  rows_are_told [] c rows e = (c, ap (λ (r : List Row). Some (outs_of r, c)) (ap (λ o. unwrap_or o []) e))
  rows_are_told (e ∷ es) c rows h = by_row e es c rows (λ d rest is. rows_are_told es d rest is) (row_step m timeout e c) refl h

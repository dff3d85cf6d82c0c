-- The rows of a replay, one after another.
use Rattle.std.proofs.Common.{◌≡◌, ℕ, suc, ◌+◌, ◌<◌, List, [], ◌∷◌, ◌++◌, length, map, take, drop, get_or, Option, Some, None, refl, ap, sym, ◌∙◌, append_assoc, add-one}
use Rattle.std.proofs.Math.Seq.{drop-cons}
use Rattle.std.proofs.lemmas.List.{map-append, take_more}
use Rattle.std.specs.Option.{option_map_or}
use Rattle.std.specs.Prelude.{option_map, option_and_then}
use Rattle.client_request.specs.declared.event.Event.{Event}
use Rattle.client_request.specs.declared.event.Row.{Row}
use Rattle.client_steps.specs.Client.{Client, Machine, client_step, plain_rows, row_step, row_and_rest, then_rows}

pub behind : (rows : List Row) (row : Row) (rest : Option (List Row))
    → option_map (λ xs. rows ++ xs) (option_map (λ xs. row ∷ xs) rest) ≡ option_map (λ xs. (rows ++ row ∷ []) ++ xs) rest
behind rows row None = refl
behind rows row (Some xs) = ap Some (sym (append_assoc rows (row ∷ []) xs))

pub drop_next : (es : List Event) (i : ℕ) (e : Event) → i < length es → e ≡ get_or es i e → drop i es ≡ e ∷ drop (i + 1) es
drop_next es i e h is = let a : i + 1 ≡ suc i = add-one i in let b = drop-cons es i e h in cc

pub events_more : (rows : List Row) (row : Row) (es : List Event) (i : ℕ) (e : Event) → i < length es → e ≡ get_or es i e → row.event ≡ e
    → map (λ r. r.event) rows ≡ take i es → map (λ r. r.event) (rows ++ row ∷ []) ≡ take (i + 1) es
events_more rows row es i e h is of so_far =
    let a = map-append (λ (r : Row). r.event) rows (row ∷ []) in let b = take_more es i e h in cc

module _ {U P : Type 0} (m : Machine U P) (timeout : ℕ) where
  -- a row has the event that it is of
  pub row_event : (row : Row) (e : Event) (c d : Client U P) → row_step m timeout e c ≡ Some (row, d) → row.event ≡ e
  row_event row e c d h = sym (of_some (client_step m timeout e c) h)
    where
      of_some : (o : Option (Client U P)) → option_map (row_and_rest e) o ≡ Some (row, d) → e ≡ row.event
      of_some None h = absurd cc
      of_some (Some x) h = ap (λ (p : Option (Row × Client U P)). option_map_or (λ q. q.0.event) p e) h

  -- one more event gives one more row
  pub next_row : (rows : List Row) (row : Row) (e : Event) (es : List Event) (c d : Client U P) → row_step m timeout e c ≡ Some (row, d)
      → option_map (λ xs. rows ++ xs) (plain_rows m timeout (e ∷ es) c) ≡ option_map (λ xs. (rows ++ row ∷ []) ++ xs) (plain_rows m timeout es d)
  next_row rows row e es c d h =
      ap (λ o. option_map (λ xs. rows ++ xs) (option_and_then (then_rows (plain_rows m timeout es)) o)) h
      ∙ behind rows row (plain_rows m timeout es d)

  -- where a number would pass 64 bits there are no rows
  pub no_row : (rows : List Row) (e : Event) (es : List Event) (c : Client U P) → row_step m timeout e c ≡ None
      → option_map (λ xs. rows ++ xs) (plain_rows m timeout (e ∷ es) c) ≡ None
  no_row rows e es c h = ap (λ o. option_map (λ xs. rows ++ xs) (option_and_then (then_rows (plain_rows m timeout es)) o)) h

use Rattle.std.proofs.Common.{◌≡◌, ◌∙◌, ap, sym, subst, ◌∷◌, Option, List, ℕ, []}
use Rattle.std.specs.Prelude.{IfNone, option_map, slice_get}
use Rattle.number_table.specs.Entries.{entry_at, frees}
use Rattle.number_table.proofs.Written.{none_first, first_there, first_leaves}
use Rattle.number_table.proofs.table.NumberTable.pop_first.Goals as goal

pub returns-in_err-key-clause-empty : goal.returns-in_err-key-clause-empty
returns-in_err-key-clause-empty g c =
    subst (λ (o : Option (ℕ × g.row.V.Denot)). IfNone o (c.args.self.now ≡ [])) (sym c.from_residual.ensures) (none_first _ (ap (λ (l : List (ℕ × g.row.V.Denot)). option_map (λ e. e.0) (slice_get l 0)) (sym c.self.view_is) ∙ sym c.first.ensures ∙ c.in_err-key.was))

pub returns-in_err-value-clause-empty : goal.returns-in_err-value-clause-empty
returns-in_err-value-clause-empty g c =
    absurd (first_there _ _ (ap (λ (l : List (ℕ × g.row.V.Denot)). option_map (λ e. e.0) (slice_get l 0)) (sym c.self.view_is) ∙ sym c.first.ensures ∙ c.in_ok-key.was) (ap (entry_at c.in_ok-key.key) (sym c.self.view_is) ∙ sym c.remove.ensures.value ∙ c.in_err-value.was))

pub returns-in_err-value-clause-none : goal.returns-in_err-value-clause-none
returns-in_err-value-clause-none g c =
    absurd (first_there _ _ (ap (λ (l : List (ℕ × g.row.V.Denot)). option_map (λ e. e.0) (slice_get l 0)) (sym c.self.view_is) ∙ sym c.first.ensures ∙ c.in_ok-key.was) (ap (entry_at c.in_ok-key.key) (sym c.self.view_is) ∙ sym c.remove.ensures.value ∙ c.in_err-value.was))

pub returns-clause-removal : goal.returns-clause-removal
returns-clause-removal g c =
    first_leaves _ _ _ (ap (λ (l : List (ℕ × g.row.V.Denot)). option_map (λ e. e.0) (slice_get l 0)) (sym c.self.view_is) ∙ sym c.first.ensures ∙ c.in_ok-key.was) (ap (entry_at c.in_ok-key.key) (sym c.self.view_is) ∙ sym c.remove.ensures.value ∙ c.in_ok-value.was)
    ∙ ap (λ (l : List (ℕ × g.row.V.Denot)). (c.in_ok-key.key, c.in_ok-value.value) ∷ l) (ap (frees c.in_ok-key.key) (sym c.self.view_is) ∙ sym c.remove.ensures.entries)

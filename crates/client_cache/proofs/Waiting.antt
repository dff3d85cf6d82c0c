-- A table of requests that wait, where no such request does.
use Rattle.std.proofs.Common.{◌≡◌, ℕ, Bool, true, false, cond, List, [], ◌∷◌, Some, None, nat_cmp, refl, sym, ap, ◌∙◌}
use Rattle.std.specs.BTreeMap.{is_at}
use Rattle.client_request.specs.Numbered.{frees, entry_at}

module _ {A : Type 0} where
  -- a key that is not there is freed in vain
  pub frees_nothing : (k : ℕ) (es : List (ℕ × A)) → entry_at k es ≡ None → frees k es ≡ es
  frees_nothing k [] none = refl
  frees_nothing k (e ∷ es) none = by (is_at (nat_cmp k) e.0) refl (frees_nothing k es)
    where
      by : (b : Bool) → is_at (nat_cmp k) e.0 ≡ b → (entry_at k es ≡ None → frees k es ≡ es) → cond b es (e ∷ frees k es) ≡ e ∷ es
      by true h ih = absurd (some (sym (ap (λ b. cond b (Some e.1) (entry_at k es)) h) ∙ none))
        where
          some : Some e.1 ≡ None → ⊥
          some e = cc
      by false h ih = ap (λ (xs : List (ℕ × A)). e ∷ xs) (ih (sym (ap (λ b. cond b (Some e.1) (entry_at k es)) h) ∙ none))

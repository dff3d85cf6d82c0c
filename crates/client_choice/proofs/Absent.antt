-- A table by number, without an entry that it does not have.
use Rattle.std.proofs.Common.{◌≡◌, ℕ, ◌∙◌, ap, sym, refl, List, [], ◌∷◌, Option, Some, None, IfNone, Bool, true, false, cond, nat_cmp}
use Rattle.std.specs.BTreeMap.{is_at}
use Rattle.client_request.specs.Numbered.{entry_at, frees}

module _ {A : Type 0} where
  not_here : (b : Bool) (e : ℕ × A) (es : List (ℕ × A)) (o : Option A) (rest : List (ℕ × A)) → (o ≡ None → rest ≡ es) → cond b (Some e.1) o ≡ None → cond b es (e ∷ rest) ≡ e ∷ es
  not_here true e es o rest later none = absurd (cc)
  not_here false e es o rest later none = ap (λ (l : List (ℕ × A)). e ∷ l) (later none)

  frees_absent : (key : ℕ) (table : List (ℕ × A)) → entry_at key table ≡ None → frees key table ≡ table
  frees_absent key [] none = refl
  frees_absent key (e ∷ es) none = not_here (is_at (nat_cmp key) e.0) e es (entry_at key es) (frees key es) (frees_absent key es) none

  -- where nothing was taken out, the table is as it was
  pub stays_where_none : (key : ℕ) (old new : List (ℕ × A)) (taken : Option A) → taken ≡ entry_at key old → new ≡ frees key old → IfNone taken (new ≡ old)
  stays_where_none key old new None is after = after ∙ frees_absent key old (sym is)
  stays_where_none key old new (Some value) is after = tt

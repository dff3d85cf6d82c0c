-- A table by number, without an entry that it does not have.
use Rattle.std.proofs.Common.{◌≡◌, ℕ, ap, refl, List, [], ◌∷◌, Option, Some, None, Bool, true, false, cond, nat_cmp}
use Rattle.std.specs.BTreeMap.{is_at}
use Rattle.std.specs.Prelude.{IfNone}
use Rattle.number_table.specs.Entries.{entry_at, frees}

module _ {A : Type 0} where
  not_here : (b : Bool) (e : ℕ × A) (es : List (ℕ × A)) (o : Option A) (rest : List (ℕ × A)) → (o ≡ None → rest ≡ es) → cond b (Some e.1) o ≡ None → cond b es (e ∷ rest) ≡ e ∷ es
  not_here true e es o rest later none = absurd (cc)
  not_here false e es o rest later none = ap (λ (l : List (ℕ × A)). e ∷ l) (later none)

  pub frees_absent : (key : ℕ) (table : List (ℕ × A)) → entry_at key table ≡ None → frees key table ≡ table
  frees_absent key [] none = refl
  frees_absent key (e ∷ es) none = not_here (is_at (nat_cmp key) e.0) e es (entry_at key es) (frees key es) (frees_absent key es) none

  -- what holds anyway holds where there is none
  pub if_none : {P : Type 0} (o : Option A) → P → IfNone o P
  if_none None p = p
  if_none (Some x) p = tt

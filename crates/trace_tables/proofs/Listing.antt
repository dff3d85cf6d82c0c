-- Lists whose newest item stands first, and what tables of them have under each key.
use Rattle.std.proofs.Common.{◌≡◌, ℕ, zero, suc, ◌+◌, ◌<◌, cond, if◌then◌else◌, ◌==◌, Bool, true, false, List, [], ◌∷◌, ◌++◌, reverse, take, length, get_or, Option, Some, None, nat_cmp, is_eq, refl, sym, ap, ◌∙◌, arith}
use Rattle.std.proofs.lemmas.Bool.Decides.{nat_tests}
use Rattle.std.proofs.lemmas.List.{reverse-append, length-reverse}
use Rattle.number_table.specs.Entries.{puts, frees, entry_at}
use Rattle.trace_tables.specs.Lists.{list_or_none, listed, adds}
use Rattle.trace_tables.proofs.Tables.{at_puts}

-- an item at the end of what is kept is the first
pub pushed : {A : Type 0} (xs : List A) (x : A) → reverse (xs ++ x ∷ []) ≡ x ∷ reverse xs
pushed xs x = reverse-append xs (x ∷ [])

pub as_long : {A : Type 0} (xs : List A) → length (reverse xs) ≡ length xs
as_long xs = length-reverse xs

module _ {A : Type 0} where
  -- the entry at another key stays
  pub stays : (q k : ℕ) (t : List (ℕ × A)) → (k == q) ≡ false → entry_at q (frees k t) ≡ entry_at q t
  stays q k [] e = refl
  stays q k (d ∷ t) e = go (is_eq (nat_cmp k d.0)) refl (stays q k t e)
    where
      other : (x : ℕ) → is_eq (nat_cmp k x) ≡ true → is_eq (nat_cmp q x) ≡ false
      other x i = grind (arith, nat_tests)

      go : (b : Bool) → is_eq (nat_cmp k d.0) ≡ b → entry_at q (frees k t) ≡ entry_at q t → entry_at q (cond b t (d ∷ frees k t)) ≡ cond (is_eq (nat_cmp q d.0)) (Some d.1) (entry_at q t)
      go true i rest = sym (ap (λ b. cond b (Some d.1) (entry_at q t)) (other d.0 i))
      go false i rest = ap (cond (is_eq (nat_cmp q d.0)) (Some d.1)) rest

module _ {A : Type 0} where
  -- the list of the key has one item more, and those of others stay
  pub listed_adds : (q k : ℕ) (x : A) (t : List (ℕ × List A)) → listed q (adds k x t) ≡ (if k == q then x ∷ listed q t else listed q t)
  listed_adds q k x t = ap list_or_none (at_puts k (x ∷ listed k t) q (frees k t)) ∙ go (k == q) refl
    where
      same : (a b : ℕ) → (a == b) ≡ true → a ≡ b
      same a b e = grind (arith, nat_tests)

      go : (b : Bool) → (k == q) ≡ b → list_or_none (if b then Some (x ∷ listed k t) else entry_at q (frees k t)) ≡ (if b then x ∷ listed q t else listed q t)
      go true e = ap (λ n. x ∷ listed n t) (same k q e)
      go false e = ap list_or_none (stays q k t e)

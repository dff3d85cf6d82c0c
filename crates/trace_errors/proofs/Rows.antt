-- What was so in rows that are done, and small laws of lists and truth values.
use Rattle.std.proofs.Common.{◌≡◌, ℕ, ◌==◌, ◌||◌, ◌⊎◌, inl, inr, Bool, true, false, if◌then◌else◌, List, [], ◌∷◌, refl, arith}
use Rattle.std.proofs.lemmas.Bool.Decides.{nat_tests}
use Rattle.client_request.specs.declared.event.Row.{Row}
use Rattle.right_trace.specs.Trace.{History, Came, Put, after}
use Rattle.right_trace.specs.Time.{row_before, EarlierRow}
use Rattle.right_trace.specs.Parts.{IsIn}
use Rattle.trace_errors.proofs.lemmas.promptness.Hearing.{rows_before, before_rows}
use Rattle.trace_errors.specs.Rows.{ByRow}

pub same_number : (a b : ℕ) → (a == b) ≡ true → a ≡ b
same_number a b e = grind (arith, nat_tests)

pub own : (a : ℕ) → (a == a) ≡ true
own a = grind (arith, nat_tests)

pub either : (a b : Bool) → (a || b) ≡ true → (a ≡ true) ⊎ (b ≡ true)
either true b e = inl refl
either false b e = inr e

-- an item of a list that grows where keys are the same
module _ {A : Type 0} where
  pub more_so : (b : Bool) (x y : A) (xs : List A) → IsIn x (if b then y ∷ xs else xs) → ((b ≡ true) × (y ≡ x)) ⊎ IsIn x xs
  more_so true x y xs (inl e) = inl (refl, e)
  more_so true x y xs (inr i) = inr i
  more_so false x y xs i = inr i

  pub more_kept : (b : Bool) (x y : A) (xs : List A) → IsIn x xs → IsIn x (if b then y ∷ xs else xs)
  more_kept true x y xs i = inr i
  more_kept false x y xs i = i

  pub more_new : (b : Bool) (y : A) (xs : List A) → b ≡ true → IsIn y (if b then y ∷ xs else xs)
  more_new true y xs e = inl refl
  more_new false y xs e = absurd (cc)

module _ {P Q : History → Type 0} (f : (g : History) → P g → Q g) where
  earlier_map : (h : History) → EarlierRow P h → EarlierRow Q h
  earlier_map [] n = absurd n
  earlier_map (Came e ∷ h) (inl p) = inl (f h p)
  earlier_map (Came e ∷ h) (inr r) = inr (earlier_map h r)
  earlier_map (Put o ∷ h) r = earlier_map h r

  pub by_row : (h : History) → ByRow P h → ByRow Q h
  by_row h (inl p) = inl (f h p)
  by_row h (inr r) = inr (earlier_map h r)

module _ (P : History → Type 0) where
  -- before the newest row
  pub earlier_so : (h : History) → EarlierRow P h → ByRow P (row_before h)
  earlier_so [] n = absurd n
  earlier_so (Came e ∷ h) r = r
  earlier_so (Put o ∷ h) r = earlier_so h r

  pub so_earlier : (P [] → ⊥) → (h : History) → ByRow P (row_before h) → EarlierRow P h
  so_earlier none [] (inl p) = absurd (none p)
  so_earlier none [] (inr n) = absurd n
  so_earlier none (Came e ∷ h) r = r
  so_earlier none (Put o ∷ h) r = so_earlier none h r

  -- a row more
  pub row_later : (row : Row) (past : History) → ByRow P past → ByRow P (after row past)
  row_later row past r = inr (before_rows P row past r)

  pub row_was : (row : Row) (past : History) → ByRow P (after row past) → P (after row past) ⊎ ByRow P past
  row_was row past (inl p) = inl p
  row_was row past (inr r) = inr (rows_before P row past r)

-- The first separator, as a search finds it.
use Rattle.std.proofs.Common.{◌≡◌, ◌+◌, ◌<◌, ◌≤◌, ℕ, eqb, true, false, List, length, get_or, Some, None, sym, subst, arith, inl, inr}
use Rattle.std.specs.List.{position, position_or_len}
use Rattle.dns_script.specs.Scan.{IsRunAt}
use Rattle.std.proofs.lemmas.Bool.{cases_lt, lt-ltb, le-ltb, cond-true, cond-false}
use Rattle.std.proofs.lemmas.List.Sums.{position_or_len_is}

pub found_at : (s : ℕ) (xs : List ℕ) (i : ℕ) → i < length xs → ((k : ℕ) → k < i → eqb (get_or xs k 0) s ≡ false) → eqb (get_or xs i 0) s ≡ true → Some i ≡ position (λ o. eqb o s) xs
found_at s xs i inside before here =
    let is : position_or_len (λ o. eqb o s) xs ≡ i = position_or_len_is (λ o. eqb o s) xs i 0 (omega arith) before (λ _. here) in
    sym (subst (λ k. position (λ o. eqb o s) xs ≡ Some k) is (cond-true _ (Some (position_or_len (λ o. eqb o s) xs)) None (lt-ltb _ _ (omega arith))))

pub found_nowhere : (s : ℕ) (xs : List ℕ) (i : ℕ) → length xs ≤ i → ((k : ℕ) → k < i → eqb (get_or xs k 0) s ≡ false) → None ≡ position (λ o. eqb o s) xs
found_nowhere s xs i past before =
    let is : position_or_len (λ o. eqb o s) xs ≡ length xs = position_or_len_is (λ o. eqb o s) xs (length xs) 0 (omega arith) (λ k l. before k (omega arith)) (λ l. absurd (omega arith)) in
    sym (cond-false _ (Some (position_or_len (λ o. eqb o s) xs)) None (le-ltb _ _ (omega arith)))

pub found_run : (s : ℕ) (xs : List ℕ) (i run : ℕ) → i + 16 ≤ length xs → ((k : ℕ) → k < i → eqb (get_or xs k 0) s ≡ false) → IsRunAt (λ o. eqb o s) xs i 16 run → run < 16 → Some (i + run) ≡ position (λ o. eqb o s) xs
found_run s xs i run room before at short =
    found_at s xs (i + run) (omega arith) (λ k l. elim (cases_lt k i) [ inl early ↦ before k early | inr late ↦ at.before k late l ]) (at.stops short)

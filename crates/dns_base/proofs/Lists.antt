-- Lists of questions or records, one by one.
use Rattle.std.proofs.Common.{◌≡◌, ℕ, zero, suc, ◌+◌, List, [], ◌∷◌, ◌++◌, refl, ap, sym, ◌∙◌, subst, length, arith, ◌≤◌}
use Rattle.std.specs.Prelude.{Option, Some, None, option_map}
use Rattle.std.proofs.lemmas.Option.{some_pair_parts}
use Rattle.dns_base.specs.Message.{list_at, items_at, item_then, all_read}
use Rattle.dns_base.specs.Numbers.{◌>>=◌}
use Rattle.dns_names.proofs.Heads.{then_ok}

module _ {A : Type 0} where
  pub list_none : (one : ℕ → Option (A × ℕ)) (n m at : ℕ) → one at ≡ None → n ≡ suc m → list_at one n at ≡ None
  unfolding list_at
  list_none one n m at e s = rw (s, e) refl

  pub list_end_one : (one : ℕ → Option (A × ℕ)) (n m at end : ℕ) (x : A) → one at ≡ Some (x, end) → n ≡ suc m
      → option_map (λ (y : List A × ℕ). y.1) (list_at one n at) ≡ option_map (λ (y : List A × ℕ). y.1) (list_at one m end)
  unfolding list_at
  list_end_one one n m at end x e s = rw (s, e) (go (list_at one m end))
    where
      go : (o : Option (List A × ℕ)) → option_map (λ (y : List A × ℕ). y.1) (o >>= λ others. Some (x ∷ others.0, others.1)) ≡ option_map (λ (y : List A × ℕ). y.1) o
      go None = refl
      go (Some y) = refl

  pub list_end_zero : (one : ℕ → Option (A × ℕ)) (n at : ℕ) → n ≡ 0 → option_map (λ (y : List A × ℕ). y.1) (list_at one n at) ≡ Some at
  unfolding list_at
  list_end_zero one n at s = rw s refl

module _ {A : Type 0} where
  pub list_step : (one : ℕ → Option (A × ℕ)) (n at mid end : ℕ) (x : A) (xs : List A) → one at ≡ Some (x, mid) → list_at one n mid ≡ Some (xs, end)
      → list_at one (suc n) at ≡ Some (x ∷ xs, end)
  unfolding list_at
  list_step one n at mid end x xs e f = rw (e, f) refl

  pub list_snoc : (one : ℕ → Option (A × ℕ)) (n at mid end : ℕ) (xs : List A) (x : A) → list_at one n at ≡ Some (xs, mid) → one mid ≡ Some (x, end)
      → list_at one (suc n) at ≡ Some (xs ++ x ∷ [], end)
  unfolding list_at
  list_snoc one zero at mid end xs x e f =
      let parts = some_pair_parts [] xs at mid e in
      let P : List A → ℕ → Type 0 = λ xs at. list_at one (suc zero) at ≡ Some (xs ++ x ∷ [], end) in
      let alone : list_at one (suc zero) mid ≡ Some (x ∷ [], end) = rw f refl in
      subst (λ at. P xs at) (sym parts.1) (subst (λ xs. P xs mid) parts.0 alone)
  list_snoc one (suc n) at mid end xs x e f =
      let first = then_ok (one at) _ (xs, mid) e in
      let others = then_ok (list_at one n first.0.1) _ (xs, mid) first.2 in
      let parts = some_pair_parts (first.0.0 ∷ others.0.0) xs others.0.1 mid others.2 in
      let P : List A → Type 0 = λ xs. list_at one (suc (suc n)) at ≡ Some (xs ++ x ∷ [], end) in
      let rest = list_snoc one n first.0.1 others.0.1 end others.0.0 x others.1 (ap one parts.1 ∙ f) in
      subst P parts.0 (list_step one (suc n) at first.0.1 end first.0.0 (others.0.0 ++ x ∷ []) first.1 rest)

  pub list_length : (one : ℕ → Option (A × ℕ)) (n at : ℕ) (y : List A × ℕ) → list_at one n at ≡ Some y → length y.0 ≡ n
  unfolding list_at
  list_length one zero at y e = let P : List A × ℕ → Type 0 = λ y. length y.0 ≡ 0 in let start : List A × ℕ = ([], at) in let is : start ≡ y = cc in subst P is refl
  list_length one (suc n) at y e =
      let first = then_ok (one at) _ y e in
      let others = then_ok (list_at one n first.0.1) _ y first.2 in
      let P : List A × ℕ → Type 0 = λ y. length y.0 ≡ suc n in
      let all : List A × ℕ = (first.0.0 ∷ others.0.0, others.0.1) in
      let last = others.2 in
      let is : all ≡ y = cc in
      subst P is (ap suc (list_length one n first.0.1 others.0 others.1))

  few_more : (one : ℕ → Option (A × ℕ)) (n : ℕ) → ((end : ℕ) → length (items_at one n end) ≤ n) → (o : Option (A × ℕ)) → length (item_then (λ end. items_at one n end) o) ≤ suc n
  few_more one n h None = omega arith
  few_more one n h (Some x) = omega (arith, h x.1)

  -- no more items than were counted
  pub items_few : (one : ℕ → Option (A × ℕ)) (n at : ℕ) → length (items_at one n at) ≤ n
  unfolding items_at
  items_few one zero at = omega arith
  items_few one (suc n) at = few_more one n (λ end. items_few one n end) (one at)

  item_is_entry : (one : ℕ → Option (A × ℕ)) (n : ℕ) → ((end : ℕ) → all_read (items_at one n end) ≡ option_map (λ (y : List A × ℕ). y.0) (list_at one n end)) → (o : Option (A × ℕ))
      → all_read (item_then (λ end. items_at one n end) o)
      ≡ option_map (λ (y : List A × ℕ). y.0) (o >>= λ first. list_at one n first.1 >>= λ others. Some (first.0 ∷ others.0, others.1))
  item_is_entry one n h None = refl
  item_is_entry one n h (Some x) = rw (h x.1) (last (list_at one n x.1))
    where
      last : (o : Option (List A × ℕ)) → option_map (λ xs. x.0 ∷ xs) (option_map (λ (y : List A × ℕ). y.0) o) ≡ option_map (λ (y : List A × ℕ). y.0) (o >>= λ others. Some (x.0 ∷ others.0, others.1))
      last None = refl
      last (Some y) = refl

  -- The items are all read exactly where the list is, and then they are the list.
  pub items_are_list : (one : ℕ → Option (A × ℕ)) (n at : ℕ) → all_read (items_at one n at) ≡ option_map (λ (y : List A × ℕ). y.0) (list_at one n at)
  unfolding items_at list_at
  items_are_list one zero at = refl
  items_are_list one (suc n) at = item_is_entry one n (λ end. items_are_list one n end) (one at)

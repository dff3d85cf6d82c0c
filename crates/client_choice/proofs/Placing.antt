-- A stable sort of the servers gives what putting each in its place gives.
use Rattle.std.proofs.Common.{◌≡◌, ℕ, suc, ◌+◌, ◌==◌, Bool, true, false, not, List, [], ◌∷◌, ◌++◌, length, cond, refl, sym, ap, subst, ◌∙◌, arith, append-nil, Some, None}
use mathlib.Core.Path.{fun_ext}
use Rattle.std.proofs.lemmas.Bool.Decides.{nat_tests}
use Rattle.std.proofs.lemmas.List.Sorted.{IsStrictWeakOrder-by_number}
use Rattle.std.specs.Prelude.{insert, nat_lt, unwrap_or}
use Rattle.std.specs.Cmp.{IsStrictWeakOrder}
use Rattle.std.specs.List.{filter, position_or_len}
use Rattle.std.specs.List.Sorted.{IsSortedBy, IsStableBy, ties}
use Rattle.client_choice.specs.Candidates.{by_speed, comes_before, is_earlier, is_slow, placed, placed_all}
use Rattle.client_choice.specs.declared.candidates.Candidate.{Candidate}
use Rattle.client_choice.proofs.Ordered.{AreLined, Rises, alike, lexical, lexical_order, one_more, put, put_rises, rises_from}

module _ (bound : ℕ) where
  -- 1 of a slow one
  abbrev slowness : Candidate → ℕ
  slowness c = cond (is_slow bound c) 1 0

  abbrev by_number : Candidate → Candidate → Bool
  by_number = lexical slowness (lexical (λ c. c.queue) (lexical (λ c. c.estimate) (λ c d. nat_lt c.server d.server)))

  speed_is : (s t e : Bool) → cond (cond s 1 0 == cond t 1 0) e (nat_lt (cond s 1 0) (cond t 1 0)) ≡ by_speed s t e
  speed_is true true e = refl
  speed_is true false e = refl
  speed_is false true e = refl
  speed_is false false e = refl

  by_number_is : by_number ≡ comes_before bound
  by_number_is = fun_ext (λ c. fun_ext (λ d. speed_is (is_slow bound c) (is_slow bound d) (is_earlier c d)))

  pub start_order : IsStrictWeakOrder (comes_before bound)
  start_order = subst IsStrictWeakOrder by_number_is
      (lexical_order slowness _ (lexical_order (λ c. c.queue) _ (lexical_order (λ c. c.estimate) _ (IsStrictWeakOrder-by_number (λ c. c.server)))))

  put_is : (c : Candidate) (es : List Candidate) → placed bound c es ≡ put (comes_before bound) c es
  put_is c [] = refl
  put_is c (x ∷ xs) = go (put_is c xs) (comes_before bound c x)
    where
      n : ℕ
      n = position_or_len (λ d. comes_before bound c d) xs

      behind : (a b : Bool) → a ≡ b → insert (x ∷ xs) (unwrap_or (cond a (Some (suc n)) None) (suc (length xs))) c ≡ x ∷ insert xs (unwrap_or (cond b (Some n) None) (length xs)) c
      behind true true p = refl
      behind false false p = refl
      behind true false p = absurd cc
      behind false true p = absurd cc

      go : placed bound c xs ≡ put (comes_before bound) c xs → (b : Bool)
          → insert (x ∷ xs) (unwrap_or (cond (nat_lt (cond (not b) (1 + n) 0) (suc (length xs))) (Some (cond (not b) (1 + n) 0)) None) (suc (length xs))) c ≡ cond b (c ∷ x ∷ xs) (x ∷ put (comes_before bound) c xs)
      go next true = (let a : nat_lt 0 (suc (length xs)) ≡ true = grind (arith, nat_tests) in rw a refl)
      go next false =
          let a : nat_lt (suc n) (suc (length xs)) ≡ nat_lt n (length xs) = grind (arith, nat_tests) in
          let one : 1 + n ≡ suc n = omega arith in
          rw one (behind _ _ a ∙ ap (λ l. x ∷ l) next)

  lined : (cs es : List Candidate) → Rises (comes_before bound) es → AreLined (comes_before bound) (es ++ cs) (placed_all bound cs es)
  lined [] es r = record { rises = r; same = λ k. ap (filter (ties (comes_before bound) k)) (sym (append-nil es)) }
  lined (c ∷ cs) es r =
      let is = put_is c es in
      let next = lined cs (placed bound c es) (subst (Rises (comes_before bound)) (sym is) (put_rises (comes_before bound) start_order c es r)) in
      record {
        rises = next.rises;
        same = λ k. next.same k ∙ (ap (λ l. filter (ties (comes_before bound) k) (l ++ cs)) is ∙ one_more (comes_before bound) start_order c es cs r k);
      }

  pub sorted_is_placed : (all es : List Candidate) → IsSortedBy (comes_before bound) es → IsStableBy (comes_before bound) all es → es ≡ placed_all bound all []
  sorted_is_placed all es up stable =
      let done = lined all [] tt in
      alike (comes_before bound) start_order es (placed_all bound all []) (rises_from (comes_before bound) start_order es up) done.rises (λ k. stable k ∙ sym (done.same k))

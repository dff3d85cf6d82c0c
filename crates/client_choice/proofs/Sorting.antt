-- A stable sort by estimate gives what lining up the entries one after another gives.
use Rattle.std.proofs.Common.{◌≡◌, ℕ, suc, ◌+◌, ◌==◌, Bool, true, false, not, List, [], ◌∷◌, ◌++◌, length, cond, refl, sym, ap, subst, ◌∙◌, arith, append-nil, Some, None, Less, Equal, Greater}
use Rattle.std.proofs.lemmas.Bool.Decides.{nat_tests}
use Rattle.std.proofs.lemmas.List.Sorted.{ranks_by}
use Rattle.std.specs.Prelude.{nat_lt}
use Rattle.std.specs.Cmp.{IsStrictWeakOrder, nat_cmp_total}
use Rattle.std.specs.List.{filter, position_or_len}
use Rattle.std.specs.List.Sorted.{IsSortedBy, IsStableBy, ties}
use Rattle.std.specs.Ordering.{nat_cmp, is_lt}
use Rattle.client_choice.specs.Redundant.{entry_of, lined_up, lined_up_at, all_lined_up, by_estimate, in_order_added}
use Rattle.client_choice.specs.Servers.{Server}
use Rattle.client_choice.specs.declared.job.ListedServer.{ListedServer}
use Rattle.client_choice.proofs.Ordered.{AreLined, Rises, alike, one_more, put, put_rises, rises_from}

-- less is expected of the first
abbrev pub less : ListedServer → ListedServer → Bool
less e x = is_lt (nat_cmp e.estimate x.estimate)

order : IsStrictWeakOrder less
order = ranks_by nat_cmp_total (λ e. e.estimate)

less_is : (a b : ℕ) → is_lt (nat_cmp a b) ≡ nat_lt a b
less_is a b = go (nat_lt a b) (a == b)
  where
    go : (c d : Bool) → is_lt (cond c Less (cond d Equal Greater)) ≡ c
    go true d = refl
    go false true = refl
    go false false = refl

lined_is : (e : ListedServer) (es : List ListedServer) → lined_up e es ≡ put less e es
lined_is e [] = refl
lined_is e (x ∷ xs) = go (lined_is e xs) (nat_lt e.estimate x.estimate) (less e x) (less_is e.estimate x.estimate)
  where
    n : ℕ
    n = position_or_len (λ y. nat_lt e.estimate y.estimate) xs

    behind : (b c : Bool) → b ≡ c → lined_up_at e (x ∷ xs) (cond b (Some (suc n)) None) ≡ x ∷ lined_up_at e xs (cond c (Some n) None)
    behind true true p = refl
    behind false false p = refl
    behind true false p = absurd cc
    behind false true p = absurd cc

    go : lined_up e xs ≡ put less e xs → (b c : Bool) → c ≡ b
        → lined_up_at e (x ∷ xs) (cond (nat_lt (cond (not b) (1 + n) 0) (suc (length xs))) (Some (cond (not b) (1 + n) 0)) None) ≡ cond c (e ∷ x ∷ xs) (x ∷ put less e xs)
    go next true true p = (let a : nat_lt 0 (suc (length xs)) ≡ true = grind (arith, nat_tests) in rw a refl)
    go next false false p =
        let a : nat_lt (suc n) (suc (length xs)) ≡ nat_lt n (length xs) = grind (arith, nat_tests) in
        let one : 1 + n ≡ suc n = omega arith in
        rw one (behind _ _ a ∙ ap (λ l. x ∷ l) next)
    go next true false p = absurd cc
    go next false true p = absurd cc

lined : {U : Type 0} (index : ℕ) (servers : List (Server U)) (es : List ListedServer) → Rises less es → AreLined less (es ++ in_order_added index servers) (all_lined_up index servers es)
lined index [] es r = record { rises = r; same = λ k. ap (filter (ties less k)) (sym (append-nil es)) }
lined index (s ∷ more) es r =
    let e = entry_of index s in
    let rest = in_order_added (index + 1) more in
    let is = lined_is e es in
    let next = lined (index + 1) more (lined_up e es) (subst (Rises less) (sym is) (put_rises less order e es r)) in
    record {
      rises = next.rises;
      same = λ k. next.same k ∙ (ap (λ l. filter (ties less k) (l ++ rest)) is ∙ one_more less order e es rest r k);
    }

pub sorted_is : {U : Type 0} (servers : List (Server U)) (all es : List ListedServer) → all ≡ in_order_added 0 servers → IsSortedBy less es → IsStableBy less all es → es ≡ by_estimate servers
sorted_is servers all es are up stable =
    let done = lined 0 servers [] tt in
    alike less order es (by_estimate servers) (rises_from less order es up) done.rises (λ k. stable k ∙ (ap (filter (ties less k)) are ∙ sym (done.same k)))

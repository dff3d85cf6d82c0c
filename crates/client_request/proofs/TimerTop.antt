-- The timer that goes first of a list, and the top of the heap.
use Rattle.std.proofs.Common.{◌≡◌, ℕ, zero, suc, sym, subst, refl, arith, List, [], ◌∷◌, Bool, true, false}
use Rattle.std.specs.Prelude.{◌==◌, ◌||◌, ◌&&◌, nat_lt, if◌then◌else◌, fold, Some}
use Rattle.std.specs.List.{Contains, AllByRecursion}
use Rattle.std.proofs.lemmas.Bool.Decides.{nat_tests}
use Rattle.client_request.specs.declared.timers.Timer.{Timer}
use Rattle.client_request.specs.Timers.{is_before, earlier, next_due}

-- two of which neither goes before the other are one
pub tied : (a b c d : ℕ) → (nat_lt a c || (a == c && nat_lt b d)) ≡ false → (nat_lt c a || (c == a && nat_lt d b)) ≡ false → (a ≡ c) × (b ≡ d)
tied a b c d p q = (grind (arith, nat_tests), grind (arith, nat_tests))

one : (t u : Timer) → is_before t u ≡ false → is_before u t ≡ false → t ≡ u
one t u p q = let same = tied t.due t.id u.due u.id p q in λ i. record { due = same.0 i; id = same.1 i }

stays : (t : Timer) (us : List Timer) → AllByRecursion (λ u. is_before u t ≡ false) us → fold earlier (Some t) us ≡ Some t
stays t [] none = refl
stays t (u ∷ us) none = rw none.0 (stays t us none.1)

either : (r : Bool) (u b : Timer) (us : List Timer) (t : Timer) → fold earlier (Some u) us ≡ Some t → fold earlier (Some b) us ≡ Some t → fold earlier (if r then Some u else Some b) us ≡ Some t
either true u b us t p q = p
either false u b us t p q = q

comes : (t b : Timer) (us : List Timer) → is_before b t ≡ false → AllByRecursion (λ u. is_before u t ≡ false) us → Contains us t → fold earlier (Some b) us ≡ Some t
comes t b [] after none (k, within, is) = absurd (omega arith)
comes t b (u ∷ us) after none (zero, within, is) = by (is_before u b) refl
  where
    by : (r : Bool) → is_before u b ≡ r → fold earlier (if r then Some u else Some b) us ≡ Some t
    by true e = subst (λ (v : Timer). fold earlier (Some v) us ≡ Some t) (sym is) (stays t us none.1)
    by false e = subst (λ (v : Timer). fold earlier (Some v) us ≡ Some t) (one t b (subst (λ (v : Timer). is_before v b ≡ false) is e) after) (stays t us none.1)
comes t b (u ∷ us) after none (suc k, within, is) =
    either (is_before u b) u b us t (comes t u us none.0 none.1 (k, omega arith, is)) (comes t b us after none.1 (k, omega arith, is))

-- one of a list that none goes before is the first
pub next_due-first : (t : Timer) (us : List Timer) → AllByRecursion (λ u. is_before u t ≡ false) us → Contains us t → next_due us ≡ Some t
next_due-first t [] none (k, within, is) = absurd (omega arith)
next_due-first t (u ∷ us) none (zero, within, is) = subst (λ (v : Timer). fold earlier (Some v) us ≡ Some t) (sym is) (stays t us none.1)
next_due-first t (u ∷ us) none (suc k, within, is) = comes t u us none.0 none.1 (k, omega arith, is)

-- The order of the heap of timers.
use Rattle.std.proofs.Common.{◌≡◌, ℕ, ◌∙◌, refl, Bool, true, false, cond, ◌||◌, ◌&&◌, nat_lt}
use Rattle.std.specs.declared.cmp.Ordering.TheVariants.{Less, Equal, Greater}
use Rattle.std.specs.Prelude.{◌==◌, List, slice_index_or}
use Rattle.std.specs.Cmp.{IsTotalOrder}
use Rattle.std.specs.Ordering.{is_lt, ordering_then}
use Rattle.std.specs.BinaryHeap.{lt_by_cmp}
use Rattle.std.specs.BinaryHeap.Sift.{ComparesAt}
use Rattle.std.proofs.lemmas.Cmp.{nat_cmp_total, on_total, then_total, back_total}
use Rattle.client_request.specs.Timers.{Entry, goes_before}
use Rattle.client_request.specs.TimerHeap.{urgency_cmp}

pub urgency_total : IsTotalOrder urgency_cmp
urgency_total =
    then_total {K = Entry} (back_total (on_total (λ (e : Entry). e.0) nat_cmp_total)) (back_total (on_total (λ (e : Entry). e.1.0) nat_cmp_total))

tests : (p q r s : Bool) → is_lt (ordering_then (cond p Less (cond q Equal Greater)) (cond r Less (cond s Equal Greater))) ≡ (p || (q && r))
tests true q r s = refl
tests false true true s = refl
tests false true false true = refl
tests false true false false = refl
tests false false r s = refl

-- what goes before is the greater
pub less-goes_before : (a b : Entry) → lt_by_cmp urgency_cmp b a ≡ goes_before a b
less-goes_before a b = tests (nat_lt a.0 b.0) (a.0 == b.0) (nat_lt a.1.0 b.1.0) (a.1.0 == b.1.0)

-- what a comparison at two places tells
pub compares : (heap : List Entry) (place other : ℕ) (r : Bool) → ((d : Entry) → goes_before (slice_index_or heap place d) (slice_index_or heap other d) ≡ r) → ComparesAt urgency_cmp heap other place r
compares heap place other r told = λ d. less-goes_before (slice_index_or heap place d) (slice_index_or heap other d) ∙ told d

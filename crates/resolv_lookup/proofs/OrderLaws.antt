-- What holds of every order of servers: it is a permutation, and the priorities never fall.
use Rattle.std.proofs.Common.{◌≡◌, ℕ, zero, suc, ◌+◌, ◌-◌, ◌<◌, ◌≤◌, Bool, true, false, List, [], ◌∷◌, ◌++◌, length, take, drop, map, get_or, set, refl, sym, ◌∙◌, ap, subst, arith}
use Rattle.std.specs.Prelude.{if◌then◌else◌, nat_le, ◌==◌}
use Rattle.std.specs.Ordering.{ordering_then, nat_cmp, is_lt}
use Rattle.std.specs.declared.cmp.Ordering.{Ordering}
use Rattle.std.specs.declared.cmp.Ordering.TheVariants.{Less, Equal, Greater}
use Rattle.std.specs.List.Sorted.{IsPermutation, IsSorted, IsNonDecreasingBy}
use Rattle.std.proofs.Math.Seq.{map-set_same}
use Rattle.std.proofs.Math.ListN.{get_or-map}
use Rattle.std.proofs.lemmas.List.{map-append, take-append-drop, length-map}
use Rattle.std.proofs.lemmas.Map.Keys.{ge_from_not_lt}
use Rattle.std.proofs.lemmas.List.Sorted.{IsPermutation-refl, IsPermutation-swap, IsPermutation-append_right, IsPermutation-trans, IsNonDecreasingBy-from_all_adjacent}
use Rattle.std.proofs.lemmas.Bool.Decides.{nat_tests}
use Rattle.client_request.specs.Words.{rest_of}
use Rattle.resolv_lookup.specs.Items.{Item}
use Rattle.resolv_lookup.specs.Order.{ranks, weight_with, pick, place_reaching, place_picked, picked_first, drawn}
use Rattle.resolv_lookup.specs.OrderLaws.{OrderLaws, priority_of}
use Rattle.resolv_lookup.proofs.Drawing.{reached_within}

-- Where the sum is reached behind the first item, the item there has the priority of those whose weights are summed.
later_step : (p number : ℕ) (item : Item) (others : List Item) (d : Item) (low same : Bool)
    → nat_le number item.srv.weight ≡ low → (item.srv.priority == p) ≡ same → 0 < number
    → number ≤ (if same then item.srv.weight + weight_with p others else 0)
    → (0 < number - item.srv.weight → number - item.srv.weight ≤ weight_with p others
    → priority_of (get_or others (place_reaching (number - item.srv.weight) others) d) ≡ p)
    → priority_of (get_or (item ∷ others) (if low then 0 else suc (place_reaching (number - item.srv.weight) others)) d) ≡ p
later_step p number item others d true true is_low is_same pos le rest = grind (arith, nat_tests)
later_step p number item others d false true is_low is_same pos le rest =
    let above : item.srv.weight < number = grind (arith, nat_tests) in
    rest (omega arith) (omega arith)
later_step p number item others d true false is_low is_same pos le rest = absurd (omega arith)
later_step p number item others d false false is_low is_same pos le rest = absurd (omega arith)

reached_later : (p number : ℕ) (items : List Item) (d : Item) → 0 < number → number ≤ weight_with p items
    → priority_of (get_or items (place_reaching number items) d) ≡ p
reached_later p number [] d pos le = absurd (omega arith)
reached_later p number (item ∷ others) d pos le =
    later_step p number item others d (nat_le number item.srv.weight) (item.srv.priority == p) refl refl pos le
    (reached_later p (number - item.srv.weight) others d)

first_step : (p number : ℕ) (item : Item) (others : List Item) (d : Item) (low : Bool) → nat_le number item.srv.weight ≡ low
    → item.srv.priority ≡ p → number ≤ weight_with p (item ∷ others)
    → priority_of (get_or (item ∷ others) (place_reaching number (item ∷ others)) d) ≡ p
first_step p number item others d true is_low same le =
    subst (λ (b : Bool). priority_of (get_or (item ∷ others) (if b then 0 else suc (place_reaching (number - item.srv.weight) others)) d) ≡ p) (sym is_low) same
first_step p number item others d false is_low same le =
    let above : item.srv.weight < number = grind (arith, nat_tests) in
    reached_later p number (item ∷ others) d (omega arith) le

-- The picked item has the priority of the first.
picked_priority : (word : ℕ) (item : Item) (others : List Item)
    → priority_of (get_or (item ∷ others) (place_picked word (item ∷ others)) item) ≡ priority_of item
picked_priority word item others =
    let weight = weight_with item.srv.priority (item ∷ others) in
    let number = pick word weight in
    let le : number ≤ weight = omega arith in
    first_step item.srv.priority number item others item (nat_le number item.srv.weight) refl refl le

-- To pick one changes no priority along the list.
picked_keeps : (word : ℕ) (items : List Item) → map priority_of (picked_first word items) ≡ map priority_of items
picked_keeps word [] = refl
picked_keeps word (item ∷ others) =
    let xs : List Item = item ∷ others in
    let place : ℕ = place_picked word xs in
    let found : Item = get_or xs place item in
    let once : map priority_of (set xs 0 found) ≡ map priority_of xs = map-set_same priority_of xs 0 found item (picked_priority word item others) in
    let there : priority_of (get_or (set xs 0 found) place item) ≡ priority_of item =
    sym (get_or-map priority_of (set xs 0 found) place item) ∙ ap (λ (ps : List ℕ). get_or ps place (priority_of item)) once
    ∙ get_or-map priority_of xs place item ∙ picked_priority word item others in
    map-set_same priority_of (set xs 0 found) place item item (sym there) ∙ once

drawn_keeps : (words : ℕ → ℕ) (n : ℕ) (items : List Item) → map priority_of (drawn words n items) ≡ map priority_of items
unfolding drawn
drawn_keeps words zero items = refl
drawn_keeps words (suc n) items =
    let next : List Item = picked_first (words 0) items in
    let others : List Item = drawn (rest_of words) n (drop 1 next) in
    map-append priority_of (take 1 next) others
    ∙ ap (λ (ps : List ℕ). map priority_of (take 1 next) ++ ps) (drawn_keeps (rest_of words) n (drop 1 next))
    ∙ sym (map-append priority_of (take 1 next) (drop 1 next))
    ∙ ap (map priority_of) (take-append-drop 1 next) ∙ picked_keeps (words 0) items

picked_permutes : (word : ℕ) (items : List Item) → IsPermutation items (picked_first word items)
picked_permutes word [] = IsPermutation-refl []
picked_permutes word (item ∷ others) =
    let weight = weight_with item.srv.priority (item ∷ others) in
    let le : pick word weight ≤ weight = omega arith in
    IsPermutation-swap (item ∷ others) _ 0 (place_picked word (item ∷ others)) (omega arith)
    (reached_within item.srv.priority (pick word weight) (item ∷ others) (omega arith) le) refl

drawn_permutes : (words : ℕ → ℕ) (n : ℕ) (items : List Item) → IsPermutation items (drawn words n items)
unfolding drawn
drawn_permutes words zero items = IsPermutation-refl items
drawn_permutes words (suc n) items =
    let next : List Item = picked_first (words 0) items in
    let others : List Item = drawn (rest_of words) n (drop 1 next) in
    let behind : IsPermutation (take 1 next ++ drop 1 next) (take 1 next ++ others) =
    IsPermutation-append_right (take 1 next) (drop 1 next) others (drawn_permutes (rest_of words) n (drop 1 next)) in
    IsPermutation-trans items next (take 1 next ++ others) (picked_permutes (words 0) items)
    (subst (λ (xs : List Item). IsPermutation xs (take 1 next ++ others)) (take-append-drop 1 next) behind)

-- A list with the priorities of another rises as it does.
rises_alike : (xs ys : List Item) → map priority_of ys ≡ map priority_of xs → IsNonDecreasingBy priority_of xs → IsNonDecreasingBy priority_of ys
rises_alike xs ys same rises i j d le lt =
    let there = λ (k : ℕ). sym (get_or-map priority_of ys k d) ∙ ap (λ (ps : List ℕ). get_or ps k (priority_of d)) same ∙ get_or-map priority_of xs k d in
    let long : length ys ≡ length xs = sym (length-map ys priority_of) ∙ ap length same ∙ length-map xs priority_of in
    let up : priority_of (get_or xs i d) ≤ priority_of (get_or xs j d) = rises i j d le (omega arith) in
    let at_i = there i in
    let at_j = there j in
    omega (arith, up, at_i, at_j)

not_below : (o p : Ordering) → is_lt (ordering_then o p) ≡ false → is_lt o ≡ false
not_below Less p h = h
not_below Equal p h = refl
not_below Greater p h = refl

sorted_rises : (xs : List Item) → IsSorted ranks xs → IsNonDecreasingBy priority_of xs
sorted_rises xs sorted =
    IsNonDecreasingBy-from_all_adjacent priority_of xs
    (λ k d lt. ge_from_not_lt _ _ (not_below _ (nat_cmp (get_or xs (k + 1) d).srv.weight (get_or xs k d).srv.weight) (sorted k d (omega arith) lt)))

pub order_laws : OrderLaws
order_laws = record {
  permutes = λ words items ordered is.
      IsPermutation-trans items is.sorted ordered is.is_sort.same
      (subst (λ (xs : List Item). IsPermutation is.sorted xs) (sym is.is_drawn) (drawn_permutes words (length is.sorted) is.sorted));
  rises = λ words items ordered is.
      rises_alike is.sorted ordered (ap (map priority_of) is.is_drawn ∙ drawn_keeps words (length is.sorted) is.sorted) (sorted_rises is.sorted is.is_sort.rises);
}

-- The order in which the servers of a service are tried (RFC 2782).
use Rattle.std.specs.Prelude.{◌≡◌, ℕ, zero, suc, ◌+◌, ◌-◌, ◌*◌, ◌/◌, ◌^◌, List, [], ◌∷◌, ◌++◌, take, drop, length, swap, nat_le, ◌==◌, min, if◌then◌else◌}
use Rattle.std.specs.Ordering.{ordering_then, nat_cmp}
use Rattle.std.specs.declared.cmp.Ordering.{Ordering}
use Rattle.std.specs.List.Sorted.{IsSorted, IsStable, IsPermutation}
use Rattle.client_request.specs.Words.{rest_of}
use Rattle.resolv_lookup.specs.Items.{Item}

-- Lower priorities stand first, and of equal ones lower weights.
abbrev pub ranks : Item → Item → Ordering
ranks x y = ordering_then (nat_cmp x.srv.priority y.srv.priority) (nat_cmp x.srv.weight y.srv.weight)

-- the same items, sorted so, and those of equal rank in the order that they had
pub record IsSortOf (items sorted : List Item) : Type 0 where
  pub same : IsPermutation items sorted
  pub rises : IsSorted ranks sorted
  pub stable : IsStable ranks items sorted

-- the weights of the items at the front that have a priority
abbrev pub weight_with : ℕ → List Item → ℕ
weight_with priority [] = 0
weight_with priority (item ∷ others) = if item.srv.priority == priority then item.srv.weight + weight_with priority others else 0

-- a number up to the sum of the weights, picked by a word of 64 bits
abbrev pub pick : ℕ → ℕ → ℕ
pick word weight = min weight (word * (weight + 1) / 2 ^ 64)

-- the place of the first item at which the running sum of the weights reaches a number
abbrev pub place_reaching : ℕ → List Item → ℕ
place_reaching number [] = 0
place_reaching number (item ∷ others) = if nat_le number item.srv.weight then 0 else suc (place_reaching (number - item.srv.weight) others)

-- the place of the item that a word picks, among those that have the priority of the first
abbrev pub place_picked : ℕ → List Item → ℕ
place_picked word [] = 0
place_picked word (item ∷ others) = place_reaching (pick word (weight_with item.srv.priority (item ∷ others))) (item ∷ others)

-- the picked item changes places with the first
abbrev pub picked_first : ℕ → List Item → List Item
picked_first word items = swap items 0 (place_picked word items)

-- place by place, a word picks the item that stands there
unfoldable pub drawn : (ℕ → ℕ) → ℕ → List Item → List Item
drawn words zero items = items
drawn words (suc n) items = take 1 (picked_first (words 0) items) ++ drawn (rest_of words) n (drop 1 (picked_first (words 0) items))

-- The items stand as they are tried: sorted, and then drawn by a word for each.
pub record IsOrder (words : ℕ → ℕ) (items ordered : List Item) : Type 0 where
  pub sorted : List Item
  pub is_sort : IsSortOf items sorted
  pub is_drawn : ordered ≡ drawn words (length sorted) sorted

-- what comes behind so many words
abbrev pub behind : ℕ → (ℕ → ℕ) → ℕ → ℕ
behind zero words = words
behind (suc n) words = behind n (rest_of words)

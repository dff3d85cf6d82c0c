-- The laws of the order of servers.
use Rattle.std.specs.Prelude.{ℕ, List}
use Rattle.std.specs.List.Sorted.{IsPermutation, IsNonDecreasingBy}
use Rattle.resolv_lookup.specs.Items.{Item}
use Rattle.resolv_lookup.specs.Order.{IsOrder}

abbrev pub priority_of : Item → ℕ
priority_of item = item.srv.priority

-- The ordered items are the items, and their priorities never fall.
pub record OrderLaws : Type 0 where
  pub permutes : (words : ℕ → ℕ) (items ordered : List Item) → IsOrder words items ordered → IsPermutation items ordered
  pub rises : (words : ℕ → ℕ) (items ordered : List Item) → IsOrder words items ordered → IsNonDecreasingBy priority_of ordered

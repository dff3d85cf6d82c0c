-- Sets of numbers, each under a key, and how many numbers each has.
use Rattle.std.specs.Prelude.{◌≡◌, ℕ, suc, ◌+◌, ◌<◌, ◌≤◌, ◌==◌, ◌&&◌, ◌||◌, not, Bool, true, false, if◌then◌else◌, is_some, length, List, [], ◌∷◌, Option, Some, None}
use Rattle.number_table.specs.Entries.{puts, frees, entry_at}
use Rattle.right_trace.specs.Time.{count_below}

abbrev pub Members : Type 0
Members = List (ℕ × Unit {0})

abbrev pub Sets : Type 0
Sets = List (ℕ × Members)

abbrev pub members_or_none : Option Members → Members
members_or_none None = []
members_or_none (Some es) = es

-- the set of a key
abbrev pub members : (key : ℕ) → Sets → Members
members key t = members_or_none (entry_at key t)

-- a number is in the set of a key
abbrev pub has : (key n : ℕ) → Sets → Bool
has key n t = is_some (entry_at n (members key t))

-- how many are in it
abbrev pub size : (key : ℕ) → Sets → ℕ
size key t = length (members key t)

-- a number joins the set of a key, or leaves it
abbrev pub joins : (key n : ℕ) → Sets → Sets
joins key n t = puts key (puts n tt (members key t)) (frees key t)

abbrev pub leaves : (key n : ℕ) → Sets → Sets
leaves key n t = puts key (frees n (members key t)) (frees key t)

-- some number of these passes
abbrev pub some_of : (ℕ → Bool) → Members → Bool
some_of f [] = false
some_of f (e ∷ es) = f e.0 || some_of f es

-- how many of these pass
abbrev pub count_of : (ℕ → Bool) → Members → ℕ
count_of f [] = 0
count_of f (e ∷ es) = if f e.0 then suc (count_of f es) else count_of f es

-- numbers rise, from the least that may be the first on
abbrev pub Rise : (least : ℕ) → Members → Type 0
Rise least [] = Unit {0}
Rise least (e ∷ es) = (least ≤ e.0) × Rise (suc e.0) es

-- each set has its numbers in order
pub record AreSets (t : Sets) : Type 0 where
  pub rise : (key : ℕ) → Rise 0 (members key t)

-- a set has just these numbers, which are all below n
pub record Holds (key n : ℕ) (f : ℕ → Bool) (t : Sets) : Type 0 where
  pub same : (m : ℕ) → has key m t ≡ f m
  pub below : (m : ℕ) → f m ≡ true → m < n

-- what sets are once a number joins or leaves one
pub record SetsGoOn : Type 0 where
  pub begins : AreSets []
  pub join : (key n : ℕ) (t : Sets) → AreSets t → AreSets (joins key n t)
  pub leave : (key n : ℕ) (t : Sets) → AreSets t → AreSets (leaves key n t)
  pub joined : (key n k m : ℕ) (t : Sets) → has k m (joins key n t) ≡ ((key == k && n == m) || has k m t)
  pub left : (key n k m : ℕ) (t : Sets) → AreSets t → has k m (leaves key n t) ≡ (not (key == k && n == m) && has k m t)
  pub counted : (key n : ℕ) (f : ℕ → Bool) (t : Sets) → AreSets t → Holds key n f t → size key t ≡ count_below f n
  pub passing : (key n : ℕ) (f g : ℕ → Bool) (t : Sets) → AreSets t → Holds key n f t → count_of g (members key t) ≡ count_below (λ m. f m && g m) n
  pub found : (key : ℕ) (f : ℕ → Bool) (t : Sets) → some_of f (members key t) ≡ true → (n : ℕ) × (has key n t ≡ true) × (f n ≡ true)
  pub finds : (key n : ℕ) (f : ℕ → Bool) (t : Sets) → has key n t ≡ true → f n ≡ true → some_of f (members key t) ≡ true

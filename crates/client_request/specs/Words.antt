-- Words, one after another.
use Rattle.std.specs.Prelude.{◌≡◌, ℕ, zero, suc, ◌+◌, ◌%◌, ◌^◌, ◌<◌, List, [], ◌∷◌, ◌++◌, map, drop, Option, Some, None, slice_index}
use Rattle.std.proofs.Common.{refl, lit<}
use Rattle.std.proofs.Math.Nat.{mod-lt}

-- what comes behind the first word
abbrev pub rest_of : (ℕ → ℕ) → ℕ → ℕ
rest_of words k = words (k + 1)

-- the words of a list, with 0 past its end
abbrev pub listed : List ℕ → ℕ → ℕ
listed ws k = slice_index ws k

-- Where the words given are told after a word was given, they were told before, and that word is the last.
abbrev pub IsGivenOn : Option (List ℕ) → Option (List ℕ) → ℕ → Type 0
IsGivenOn old None word = Unit {0}
IsGivenOn None (Some new) word = ⊥
IsGivenOn (Some old) (Some new) word = new ≡ old ++ word ∷ []

-- a number as a word of 64 bits: each number below 2 ^ 64 is itself
abbrev pub word_of : ℕ → ℕ
word_of n = n % 2 ^ 64

pub words-fit : (n : ℕ) (ws : List ℕ) (k : ℕ) → slice_index (drop n (map word_of ws)) k < 2 ^ 64
words-fit zero [] k = lit< tt
words-fit (suc n) [] k = lit< tt
words-fit zero (w ∷ ws) zero = mod-lt w (lit< tt)
words-fit zero (w ∷ ws) (suc k) = words-fit zero ws k
words-fit (suc n) (w ∷ ws) k = words-fit n ws k

-- Words of 64 bits that are left of a list.
pub record WordsLeft : Type 0 where
  pub items : List ℕ
  pub fit : (k : ℕ) → slice_index items k < 2 ^ 64

-- the words of a list from a place on
abbrev pub words_from : ℕ → List ℕ → WordsLeft
words_from n ws = record { items = drop n (map word_of ws); fit = words-fit n ws }

pub listed-told : (w : WordsLeft) (ws : List ℕ) → Some w.items ≡ Some ws → (k : ℕ) → listed w.items k ≡ listed ws k
listed-told w ws e k = let h : w.items ≡ ws = cc in rw h refl

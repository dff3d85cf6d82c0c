-- The words of a generator.
use Rattle.std.specs.Prelude.{◌≡◌, ◌<◌, ◌%◌, ◌^◌, ℕ, List, Some, None, replicate, slice_index}
use Rattle.std.proofs.Common.{lit<}
use Rattle.std.proofs.Math.Nat.{mod-lt}
use Rattle.rand_core.specs.Stream.{Stream, u64_call}

-- what the generator answers to its calls for words, one after another: words of 64 bits
abbrev pub words_of : Stream → ℕ → ℕ
words_of s k = s.u64_after (replicate k u64_call) % 2 ^ 64

pub words-fit : (s : Stream) (k : ℕ) → words_of s k < 2 ^ 64
words-fit s k = mod-lt (s.u64_after (replicate k u64_call)) (lit< tt)

-- no list is told
pub words-told : (s : Stream) (ws : List ℕ) → None ≡ Some ws → (k : ℕ) → words_of s k ≡ slice_index ws k
words-told s ws e k = cc

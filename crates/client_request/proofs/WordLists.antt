-- Words of 64 bits are what they are.
use Rattle.std.proofs.Common.{◌≡◌, ◌<◌, ◌^◌, ℕ, zero, suc, List, [], ◌∷◌, map, refl, slice_index}
use Rattle.std.proofs.Math.Nat.{mod-eq_of_lt}
use Rattle.client_request.specs.Words.{word_of}

pub all_words : (ws : List ℕ) → ((k : ℕ) → slice_index ws k < 2 ^ 64) → map word_of ws ≡ ws
all_words [] fit = refl
all_words (w ∷ ws) fit =
    let first : word_of w ≡ w = mod-eq_of_lt (fit zero) in
    let others : map word_of ws ≡ ws = all_words ws (λ k. fit (suc k)) in
    cc

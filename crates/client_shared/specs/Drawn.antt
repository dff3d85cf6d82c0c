-- Words that come, and those of them that were drawn.
use Rattle.std.specs.Prelude.{◌≡◌, ◌<◌, ℕ, zero, suc, List, [], ◌∷◌, length, slice_index, Option, None}
use Rattle.std.specs.List.{flat_map}
use Rattle.client_shared.specs.declared.entry.Entry.{Entry}

-- these words, and what comes behind them
abbrev pub ahead : List ℕ → (ℕ → ℕ) → ℕ → ℕ
ahead [] g k = g k
ahead (w ∷ ws) g zero = w
ahead (w ∷ ws) g (suc k) = ahead ws g k

-- what came first are these words, and then the rest comes
abbrev pub Continues : (ℕ → ℕ) → List ℕ → (ℕ → ℕ) → Type 0
Continues f ws g = (k : ℕ) → f k ≡ ahead ws g k

-- the words that entries drew, in order
abbrev pub drawn_by : List Entry → List ℕ
drawn_by entries = flat_map (λ e. e.words) entries

-- The words that came first are those that the entries drew, in order; and where no call was lost, what is left comes behind them.
pub record AreDrawn (came : ℕ → ℕ) (entries : List Entry) (lost : Option ℕ) (left : ℕ → ℕ) : Type 0 where
  pub first : (k : ℕ) → k < length (drawn_by entries) → slice_index (drawn_by entries) k ≡ came k
  pub rest : lost ≡ None → Continues came (drawn_by entries) left

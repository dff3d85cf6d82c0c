-- How many words are left.
use Rattle.std.proofs.Common.{◌≡◌, ◌-◌, ℕ, List, Option, Some, None, ap, sym, ◌∙◌, length}
use Rattle.std.specs.Prelude.{drop, option_map}
use Rattle.std.proofs.lemmas.List.{length-drop}

-- one less of a list without its first
pub one_less : (left : ℕ) (items after : List ℕ) → left ≡ length items → Some after ≡ option_map (drop 1) (Some items) → left - 1 ≡ length after
one_less left items after is dropped =
    let same : after ≡ drop 1 items = cc in
    ap (λ (n : ℕ). n - 1) is ∙ sym (length-drop 1 items) ∙ ap length (sym same)

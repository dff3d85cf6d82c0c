use Rattle.std.proofs.Common.{◌≡◌, ◌-◌, ◌≤◌, ℕ, List, length, take, drop, true, ap, sym, ◌∙◌, arith, length-drop, length-take}
use Rattle.std.proofs.lemmas.List.{take_all}
use Rattle.dns_base.specs.Suffixes.{at_most, begins}
use Rattle.dns_base.proofs.NameKeys.{at_most_behind, at_most_is, starts_is}
use Rattle.dns_base.proofs.suffixes.+is_at_most.Goals as goal

rest_of : (n : ℕ) (xs : List ℕ) → take (length xs - n) (drop n xs) ≡ drop n xs
rest_of n xs = take_all (length xs - n) (drop n xs) (omega (arith, length-drop n xs))

pub slice_bounds-is_at_most-count-then-starts_with : goal.slice_bounds-is_at_most-count-then-starts_with
slice_bounds-is_at_most-count-then-starts_with t c = omega (arith, c.starts_with.ensures.bound c.if-starts_with.true, length-take 32 c.args.key.now, c.if-key-ge-GROUP)

pub slice_bounds-is_at_most-start-then-starts_with : goal.slice_bounds-is_at_most-start-then-starts_with
slice_bounds-is_at_most-start-then-starts_with t c = omega (arith, c.starts_with.ensures.bound c.if-starts_with.true, length-take 32 c.args.key.now, c.if-key-ge-GROUP)

pub returns-then-starts_with : goal.returns-then-starts_with
returns-then-starts_with t c =
    let key : List ℕ = c.args.key.now in
    let other : List ℕ = c.args.other.now in
    let long : 32 ≤ length key = omega (arith, c.if-key-ge-GROUP) in
    let starts : begins (take 32 key) other ≡ true = sym (starts_is (take 32 key) other) ∙ sym c.starts_with.ensures.value ∙ c.if-starts_with.true in
    c.is_at_most.ensures ∙ ap (λ (x : List ℕ). at_most x (take (length other - 32) (drop 32 other))) (rest_of 32 key) ∙ ap (at_most (drop 32 key)) (rest_of 32 other) ∙ sym (at_most_behind 32 key other long starts)

pub returns : goal.returns
returns t c = at_most_is c.args.key.now c.args.other.now c.le.result c.le.ensures

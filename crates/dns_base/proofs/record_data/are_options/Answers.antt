use Rattle.std.proofs.Common.{◌≡◌, ◌-◌, ◌*◌, ◌+◌, ℕ, List, take, drop, length, get_or, ◌∙◌, sym, refl, arith}
use Rattle.dns_base.proofs.Whole.{option_short, option_long, all_behind}
use Rattle.dns_base.proofs.record_data.are_options.Goals as goal

pub returns-then-others-count : goal.returns-then-others-count
returns-then-others-count c =
    let rest : List ℕ = c.options.rest.now in
    let others : List ℕ = take (length rest - 4) (drop 4 rest) in
    sym (c.options.invariant ∙ option_short rest others (get_or rest 2 0 * 256 + get_or rest 3 0) (omega arith) (all_behind 4 rest) refl (omega arith))

pub options-preserved : goal.options-preserved
options-preserved c =
    let rest : List ℕ = c.options.rest.now in
    let others : List ℕ = take (length rest - 4) (drop 4 rest) in
    let count : ℕ = get_or rest 2 0 * 256 + get_or rest 3 0 in
    c.options.invariant ∙ option_long rest others (take (length others - count) (drop count others)) count (omega arith) (all_behind 4 rest) refl (omega arith) (all_behind count others)

use Rattle.std.proofs.Common.{◌-◌, ◌*◌, ◌+◌, ℕ, List, take, drop, length, get_or, ◌∙◌, refl, arith}
use Rattle.std.proofs.lemmas.List.{take_rest}
use Rattle.client_stream.proofs.Telling.{ends_within, goes_on}
use Rattle.client_stream.proofs.keepalive.tenths_told.Goals as goal

pub returns-then-others-count : goal.returns-then-others-count
returns-then-others-count c =
    let rest : List ℕ = c.options.rest.now in
    let others : List ℕ = take (length rest - 4) (drop 4 rest) in
    ends_within rest others (get_or rest 0 0 * 256 + get_or rest 1 0) (get_or rest 2 0 * 256 + get_or rest 3 0) c.options.told c.told_by-told.result (omega arith) (take_rest rest 4) refl refl c.told_by-told.ensures (omega arith)
    ∙ c.options.invariant

pub options-preserved : goal.options-preserved
options-preserved c =
    let rest : List ℕ = c.options.rest.now in
    let others : List ℕ = take (length rest - 4) (drop 4 rest) in
    let count : ℕ = get_or rest 2 0 * 256 + get_or rest 3 0 in
    goes_on rest others (get_or rest 0 0 * 256 + get_or rest 1 0) count c.options.told c.told_by-told.result (omega arith) (take_rest rest 4) refl refl c.told_by-told.ensures (omega arith)
    (take (length others - count) (drop count others)) (take_rest others count)
    ∙ c.options.invariant

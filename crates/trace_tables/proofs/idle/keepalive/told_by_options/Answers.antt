use Rattle.std.proofs.Common.{◌-◌, ◌*◌, ◌+◌, ℕ, List, take, drop, length, get_or, ◌∙◌, refl, sym, arith}
use Rattle.std.proofs.lemmas.List.{take_rest}
use Rattle.trace_tables.proofs.lemmas.idle.Telling.{stops, goes_behind}
use Rattle.trace_tables.proofs.idle.keepalive.told_by_options.Goals as goal

pub returns-in_default : goal.returns-in_default
returns-in_default c = sym (stops c.loop-fuel.fuel c.loop-fuel.rest.now c.loop-fuel.found c.in_default.len_below) ∙ c.loop-fuel.invariant

pub loop-fuel-preserved : goal.loop-fuel-preserved
loop-fuel-preserved c =
    let rest : List ℕ = c.loop-fuel.rest.now in
    let others : List ℕ = take (length rest - 4) (drop 4 rest) in
    goes_behind (c.loop-fuel.fuel - 1) c.loop-fuel.fuel rest others c.behind-rest.result.now (256 * get_or rest 0 0 + get_or rest 1 0) (256 * get_or rest 2 0 + get_or rest 3 0) c.loop-fuel.found c.told_by_option-found.result (omega arith) (omega arith) (take_rest rest 4) refl refl c.told_by_option-found.ensures c.behind-rest.ensures
    ∙ c.loop-fuel.invariant

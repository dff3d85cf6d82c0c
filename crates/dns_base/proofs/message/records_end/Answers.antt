use Rattle.std.proofs.Common.{◌≡◌, ◌+◌, ◌-◌, suc, sym, ◌∙◌, ap, arith, option_map, List, ℕ}
use Rattle.dns_base.specs.Message.{Known}
use Rattle.dns_base.proofs.Lists.{list_none, list_end_one, list_end_zero}
use Rattle.dns_base.proofs.message.records_end.Goals as goal

pub returns-in_err-end : goal.returns-in_err-end
returns-in_err-end c =
    let more : c.args.count - c.loop.counter ≡ suc (c.args.count - (c.loop.counter + 1)) = omega arith in
    rw c.from_residual.ensures (sym (c.loop.invariant ∙ ap (option_map (λ (y : List Known × ℕ). y.1)) (list_none _ _ _ _ (sym c.in_err-end.ensures) more)))

pub loop-preserved : goal.loop-preserved
loop-preserved c =
    let more : c.args.count - c.loop.counter ≡ suc (c.args.count - (c.loop.counter + 1)) = omega arith in
    c.loop.invariant ∙ list_end_one _ _ _ _ _ _ (sym c.in_ok-end.ensures) more

pub returns : goal.returns
returns c =
    let done : c.args.count - c.loop.counter ≡ 0 = omega arith in
    sym (c.loop.invariant ∙ list_end_zero _ _ _ done)

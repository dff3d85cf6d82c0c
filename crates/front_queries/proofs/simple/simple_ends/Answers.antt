use Rattle.std.proofs.Common.{◌≡◌, ◌+◌, ◌-◌, suc, sym, ap, ◌∙◌, arith}
use Rattle.front_queries.specs.Simple.{simple_ends}
use Rattle.front_queries.proofs.Copied.{ends_next, ends_none, ends_zero}
use Rattle.front_queries.proofs.simple.simple_ends.Goals as goal

pub loop-init : goal.loop-init
loop-init c = record { same = ap (λ n. simple_ends c.args.octets.now n c.args.place) (omega arith); behind = omega arith; within = c.requires }

pub returns-in_err-at-clause-value : goal.returns-in_err-at-clause-value
returns-in_err-at-clause-value c =
    let more : c.args.count - c.loop.counter ≡ suc (c.args.count - (c.loop.counter + 1)) = omega arith in
    rw c.from_residual.ensures (sym (c.loop.invariant.same ∙ ends_none _ _ _ _ (sym c.in_err-at.ensures.value) more))

pub loop-preserved : goal.loop-preserved
loop-preserved c =
    let more : c.args.count - c.loop.counter ≡ suc (c.args.count - (c.loop.counter + 1)) = omega arith in
    record {
      same = c.loop.invariant.same ∙ ends_next _ _ _ _ _ (sym c.in_ok-at.ensures.value) more;
      behind = omega (arith, c.loop.invariant.behind, c.in_ok-at.ensures.behind);
      within = c.in_ok-at.ensures.within;
    }

pub returns-clause-value : goal.returns-clause-value
returns-clause-value c =
    let done : c.args.count - c.loop.counter ≡ 0 = omega arith in
    sym (c.loop.invariant.same ∙ ends_zero _ _ _ done)

pub returns-clause-behind : goal.returns-clause-behind
returns-clause-behind c = c.loop.invariant.behind

pub returns-clause-within : goal.returns-clause-within
returns-clause-within c = c.loop.invariant.within

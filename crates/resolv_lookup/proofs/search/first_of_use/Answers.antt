-- A lookup that is of no use is passed, and the first that is of use ends the search.
use Rattle.std.proofs.Common.{arith, sym, ◌∙◌}
use Rattle.resolv_lookup.specs.Asked.{AsksBoth}
use Rattle.resolv_lookup.specs.Hosts.{HostIsCounted}
use Rattle.resolv_lookup.proofs.Searching.{passes, finds, ends, uses_no_fault}
use Rattle.resolv_lookup.proofs.Counting.{counted_before}
use Rattle.resolv_lookup.proofs.search.first_of_use.Goals as goal

pub loop-name-init : goal.loop-name-init
loop-name-init g c = record { whole = λ new result searched. searched; count = omega arith }

pub loop-name-preserved : goal.loop-name-preserved
loop-name-preserved g c = record {
  whole = λ new result rest. c.loop-name.invariant.whole new result
      (passes (AsksBoth g.R.Resolver.says g.R.Resolver.together g.R.Resolver.asked) c.args.last.now c.name-item.result c.args.names.now c.loop-name.name-index _ _ new _ result c.loop-name-test.true c.name-item.is
      c.lookup_host-found.ensures.asked (sym c.is_of_use.ensures ∙ c.if-is_of_use.false) rest);
  count = omega (arith, c.loop-name.invariant.count, c.lookup_host-found.ensures.count);
}

pub returns-then-is_of_use-clause-asked : goal.returns-then-is_of_use-clause-asked
returns-then-is_of_use-clause-asked g c = c.loop-name.invariant.whole _ _
    (finds (AsksBoth g.R.Resolver.says g.R.Resolver.together g.R.Resolver.asked) c.args.last.now c.name-item.result c.args.names.now c.loop-name.name-index _ _ _ c.loop-name-test.true c.name-item.is
    c.lookup_host-found.ensures.asked (sym c.is_of_use.ensures ∙ c.if-is_of_use.true))

pub returns-then-is_of_use-clause-count : goal.returns-then-is_of_use-clause-count
returns-then-is_of_use-clause-count g c = omega (arith, c.loop-name.invariant.count, c.lookup_host-found.ensures.count)

pub returns-then-is_of_use-clause-failed : goal.returns-then-is_of_use-clause-failed
returns-then-is_of_use-clause-failed g c = uses_no_fault c.lookup_host-found.result
    (HostIsCounted (g.R.Resolver.faults c.args.resolver.now) (g.R.Resolver.faults c.lookup_host-found.new.resolver)) (sym c.is_of_use.ensures ∙ c.if-is_of_use.true)

pub returns-clause-asked : goal.returns-clause-asked
returns-clause-asked g c = c.loop-name.invariant.whole _ _ (ends (AsksBoth g.R.Resolver.says g.R.Resolver.together g.R.Resolver.asked) c.args.last.now c.args.names.now c.loop-name.name-index _ _ _ c.loop-name-test.false c.lookup_host.ensures.asked)

pub returns-clause-count : goal.returns-clause-count
returns-clause-count g c = omega (arith, c.loop-name.invariant.count, c.lookup_host.ensures.count)

pub returns-clause-failed : goal.returns-clause-failed
returns-clause-failed g c = counted_before _ _ _ _ c.loop-name.invariant.count c.lookup_host.ensures.failed

use Rattle.std.proofs.Common.{◌≡◌}
use Rattle.front_shared.specs.History.{IsFresh, numbered}
use Rattle.front_shared.proofs.shared.passes_of.Given as goal

abbrev pub invariant-loop-number : goal.invariant-loop-number
invariant-loop-number g l = (l.passes.items ≡ numbered l.number) × IsFresh g.L.ForwarderKey.table l.number l.seat

-- what the asks that are left give stands behind what is there
use Rattle.std.proofs.Common.{◌≡◌, ◌++◌, drop}
use Rattle.dns_lookup_run.specs.Search.{tries_of}
use Rattle.dns_lookup_run.proofs.search.tries_of.Given as goal

abbrev pub invariant-loop-ask : goal.invariant-loop-ask
invariant-loop-ask l = l.tries.items ++ tries_of l.searched l.options (drop l.ask-index l.asks) ≡ tries_of l.searched l.options l.asks

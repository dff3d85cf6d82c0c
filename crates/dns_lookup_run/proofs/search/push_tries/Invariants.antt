-- the tries of the names that are left stand behind what is there
use Rattle.std.proofs.Common.{◌≡◌, ◌++◌, length}
use Rattle.dns_lookup_run.specs.Search.{tries_by}
use Rattle.dns_lookup_run.proofs.search.push_tries.Given as goal

abbrev pub invariant-loop-name : goal.invariant-loop-name
invariant-loop-name l = l.tries.items ++ tries_by l.ask l.rest ≡ l.fn.tries.items ++ tries_by l.ask l.names

abbrev pub decreases-loop-name : goal.decreases-loop-name
decreases-loop-name l = length l.rest

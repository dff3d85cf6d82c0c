-- what the suffixes that are left give stands behind what is there
use Rattle.std.proofs.Common.{◌≡◌, ◌++◌, drop}
use Rattle.dns_lookup_run.specs.Search.{suffixes_in}
use Rattle.resolv_lookup.specs.Search.{chained}
use Rattle.dns_lookup_run.proofs.search.push_suffixed.Given as goal

abbrev pub invariant-loop-suffix : goal.invariant-loop-suffix
invariant-loop-suffix l = l.names.items ++ chained l.name (suffixes_in (drop l.suffix-index l.suffixes)) ≡ l.fn.names.items ++ chained l.name (suffixes_in l.suffixes)

use Rattle.std.proofs.Common.{◌≡◌, ◌++◌}
use Rattle.resolv_lookup.specs.Search.{chained}
use Rattle.resolv_lookup.proofs.search.chained_names.Given as goal

-- The names before the suffixes that are left are still to come.
abbrev pub invariant-loop-suffix : goal.invariant-loop-suffix
invariant-loop-suffix l = chained l.name l.fn.suffixes ≡ l.names.items ++ chained l.name l.suffix-iterator

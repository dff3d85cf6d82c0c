use Rattle.std.proofs.Common.{◌≡◌, take}
use Rattle.resolv_conf.proofs.search.SearchList.try_clone.Given as goal

abbrev pub invariant-loop-suffix : goal.invariant-loop-suffix
invariant-loop-suffix l = l.list ≡ take l.suffix-index l.self

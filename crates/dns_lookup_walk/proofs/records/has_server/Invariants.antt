use Rattle.std.proofs.Common.{◌≡◌}
use Rattle.std.specs.List.{list_any}
use Rattle.dns_lookup_walk.specs.Records.{is_server}
use Rattle.dns_lookup_walk.proofs.records.has_server.Given as goal

abbrev pub invariant-loop-item : goal.invariant-loop-item
invariant-loop-item l = list_any is_server l.fn.records ≡ list_any is_server l.item-iterator

use Rattle.std.proofs.Common.{◌≡◌}
use Rattle.std.specs.List.{list_any}
use Rattle.std.specs.Prelude.{is_some}
use Rattle.dns_lookup_walk.specs.Records.{address_in}
use Rattle.dns_lookup_walk.proofs.targets_of.has_address.Given as goal

abbrev pub invariant-loop-item : goal.invariant-loop-item
invariant-loop-item l = list_any (λ item. is_some (address_in l.name item)) l.fn.records ≡ list_any (λ item. is_some (address_in l.name item)) l.item-iterator

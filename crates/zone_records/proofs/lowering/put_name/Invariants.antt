-- The labels that are left are still to be appended.
use Rattle.std.proofs.Common.{◌≡◌, ◌++◌}
use Rattle.std.specs.List.{AllByRecursion}
use Rattle.dns_names.specs.Name.{IsLabel, lowered, spelling}
use Rattle.zone_records.proofs.lowering.put_name.Given as goal

abbrev pub invariant-loop-label : goal.invariant-loop-label
invariant-loop-label l = record {
  can_next : (goal.iterator-loop-label).can_next l.label-iterator;
  is_finite : (goal.iterator-loop-label).is_finite l.label-iterator;
  legal : AllByRecursion IsLabel l.label-iterator;
  same : l.octets.items ++ spelling (lowered l.label-iterator) ≡ l.initial.octets.items ++ spelling (lowered l.name);
}

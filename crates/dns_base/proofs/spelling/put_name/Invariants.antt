use Rattle.std.proofs.Common.{◌≡◌, ◌++◌}
use Rattle.std.specs.List.{AllByRecursion}
use Rattle.dns_names.specs.Name.{IsLabel, spelling}
use Rattle.dns_base.specs.Compression.{Begins}
use Rattle.dns_base.proofs.spelling.put_name.Given as goal

abbrev pub invariant-loop-label : goal.invariant-loop-label
invariant-loop-label l = record {
  can_next : (goal.iterator-loop-label).can_next l.label-iterator;
  is_finite : (goal.iterator-loop-label).is_finite l.label-iterator;
  legal : AllByRecursion IsLabel l.label-iterator;
  kept : Begins l.initial.octets.items l.octets.items;
  same : l.octets.items ++ spelling l.label-iterator ≡ l.initial.octets.items ++ spelling l.name;
}

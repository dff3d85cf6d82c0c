use Rattle.std.proofs.Common.{◌≡◌, ◌+◌, ◌≤◌}
use Rattle.dns_names.specs.Name.{octet_count}
use Rattle.message_judging.proofs.validity.sizes.name_size.Given as goal

abbrev pub invariant-loop-label : goal.invariant-loop-label
invariant-loop-label l = record {
  can_next : (goal.iterator-loop-label).can_next l.label-iterator;
  is_finite : (goal.iterator-loop-label).is_finite l.label-iterator;
  same : l.count + octet_count l.label-iterator ≡ octet_count l.name + 1;
  few : octet_count l.name ≤ 255;
}

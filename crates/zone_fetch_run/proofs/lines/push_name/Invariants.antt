-- with the labels that are left, each behind a dot, the whole name would have been added
use Rattle.std.proofs.Common.{◌≡◌, ◌++◌}
use Rattle.dns_names.specs.Text.{name_text}
use Rattle.zone_fetch_run.proofs.Names.{dotted}
use Rattle.zone_fetch_run.proofs.lines.push_name.Given as goal

abbrev pub invariant-loop-label : goal.invariant-loop-label
invariant-loop-label l = record {
  can_next : (goal.iterator-loop-label).can_next l.label-iterator;
  is_finite : (goal.iterator-loop-label).is_finite l.label-iterator;
  same : l.text.items ++ dotted l.label-iterator ≡ l.fn.text.items ++ name_text l.name;
}

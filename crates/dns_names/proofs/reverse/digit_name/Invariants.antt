use Rattle.std.proofs.Common.{◌≡◌, take}
use Rattle.std.specs.List.{flat_map}
use Rattle.dns_names.specs.Draft.{written}
use Rattle.dns_names.specs.Reverse.{digit_labels}
use Rattle.dns_names.proofs.reverse.digit_name.Given as goal

abbrev pub invariant-loop-group : goal.invariant-loop-group
invariant-loop-group l = l.name.items ≡ written (flat_map digit_labels (take l.group-index l.groups))

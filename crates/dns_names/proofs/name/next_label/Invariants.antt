use Rattle.std.proofs.Common.{◌≡◌, IsSome}
use Rattle.dns_names.specs.Name.{walk, labels_within}
use Rattle.dns_names.proofs.name.next_label.Given as goal

abbrev pub invariant-loop-left : goal.invariant-loop-left
invariant-loop-left l = record {
  goes_on : IsSome (walk l.left l.octets l.at);
  same : labels_within l.steps l.octets l.place ≡ labels_within l.left l.octets l.at;
}

abbrev pub decreases-loop-left : goal.decreases-loop-left
decreases-loop-left l = l.left

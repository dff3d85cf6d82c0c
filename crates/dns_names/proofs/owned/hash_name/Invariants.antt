use Rattle.std.proofs.Common.{◌≡◌}
use Rattle.std.specs.List.{fold}
use Rattle.dns_names.specs.NameHash.{name_hash}
use Rattle.dns_names.proofs.owned.hash_name.Given as goal

abbrev pub invariant-loop-label : goal.invariant-loop-label
invariant-loop-label g l = record {
  can_next : (goal.iterator-loop-label g).can_next l.label-iterator;
  is_finite : (goal.iterator-loop-label g).is_finite l.label-iterator;
  same : fold g.H.Hasher.write l.fn.state (name_hash l.name) ≡ fold g.H.Hasher.write l.state (name_hash l.label-iterator);
}

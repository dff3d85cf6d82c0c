use Rattle.std.proofs.Common.{◌≡◌, ◌++◌, List, ℕ}
use Rattle.std.specs.Fmt.{HasWritten, IsPlainFormatter}
use Rattle.dns_presentation.specs.Names.{ended_labels}
use Rattle.dns_presentation.proofs.names.write_labels.Given as goal

abbrev pub invariant-loop-label : goal.invariant-loop-label
invariant-loop-label g l = record {
  can_next : (goal.iterator-loop-label g).can_next l.label-iterator;
  is_finite : (goal.iterator-loop-label g).is_finite l.label-iterator;
  same : IsPlainFormatter l.fn.f → (text : List ℕ) × HasWritten g.W.Write.write_str_gives l.fn.f text l.f
      × (text ++ ended_labels l.label-iterator ≡ ended_labels l.name);
}

use Rattle.std.proofs.Common.{◌≡◌, ◌∷◌, ◌++◌, List, ℕ}
use Rattle.std.specs.List.{flat_map}
use Rattle.std.specs.Fmt.{HasWritten, IsPlainFormatter}
use Rattle.dns_names.specs.Text.{label_text, relative_text}
use Rattle.dns_names.proofs.show.write_labels.Given as goal

abbrev pub invariant-loop-label : goal.invariant-loop-label
invariant-loop-label g l = record {
  can_next : (goal.iterator-loop-label g).can_next l.label-iterator;
  is_finite : (goal.iterator-loop-label g).is_finite l.label-iterator;
  same : IsPlainFormatter l.fn.f → (text : List ℕ) × HasWritten g.W.Write.write_str_gives l.fn.f text l.f
      × (text ++ flat_map (λ label. 46 ∷ label_text label) l.label-iterator ≡ relative_text l.name);
}

use Rattle.std.proofs.Common.{◌≡◌, ◌++◌, List, ℕ}
use Rattle.std.specs.Fmt.{HasWritten, IsPlainFormatter}
use Rattle.std.specs.List.{AllByRecursion}
use Rattle.dns_names.specs.Name.{IsLabel, spelling}
use Rattle.dns_presentation.specs.Octets.{hex_text}
use Rattle.dns_presentation.proofs.named.write_digits.Given as goal

abbrev pub invariant-loop-label : goal.invariant-loop-label
invariant-loop-label g l = record {
  can_next : (goal.iterator-loop-label g).can_next l.label-iterator;
  is_finite : (goal.iterator-loop-label g).is_finite l.label-iterator;
  legal : AllByRecursion IsLabel l.label-iterator;
  same : IsPlainFormatter l.fn.f → (text : List ℕ) × HasWritten g.W.Write.write_str_gives l.fn.f text l.f
      × (text ++ hex_text (spelling l.label-iterator) ≡ hex_text (spelling l.name));
}

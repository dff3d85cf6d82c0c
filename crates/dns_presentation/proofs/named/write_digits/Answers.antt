use Rattle.std.proofs.Common.{◌≡◌, ◌++◌, ◌∷◌, [], length, rules, ◌∙◌}
use Rattle.std.proofs.Output.{has_written_append, has_written_of_eq}
use Rattle.dns_presentation.specs.Octets.{hex_text}
use Rattle.dns_presentation.proofs.SpelledTexts.{label_behind}
use Rattle.dns_presentation.proofs.named.write_digits.Goals as goal

pub loop-label-preserved : goal.loop-label-preserved
loop-label-preserved g c =
    let steps = c.in-Some.ensures.steps in
    let label = c.in-Some.label.now in record {
      can_next = tt;
      is_finite = tt;
      legal = (rw steps at c.loop-label.invariant.legal).1;
      same = λ p.
          let so_far = c.loop-label.invariant.same p in (
            so_far.0 ++ hex_text (length label ∷ label),
            has_written_append _ _ _ _ _ _ so_far.1 (search rules),
            label_behind so_far.0 label c.next.new.self ∙ (rw steps at so_far.2),
          );
    }

pub returns : goal.returns
returns g c p ok =
    let so_far = c.loop-label.invariant.same p in
    let none : c.loop-label.label-iterator ≡ [] = c.in-None.ensures.steps.0 in
    has_written_of_eq _ _ _ _ _ (rw none at so_far.2) (has_written_append _ _ _ _ _ _ so_far.1 (c.write.ensures.writes so_far.1.plain ok))

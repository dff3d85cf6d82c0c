use Rattle.std.proofs.Common.{◌++◌, rules, append_assoc, ◌∙◌}
use Rattle.std.proofs.Output.{has_written_append}
use Rattle.dns_presentation.specs.Names.{ended_label, ended_labels}
use Rattle.dns_presentation.proofs.names.write_labels.Goals as goal

pub loop-label-preserved : goal.loop-label-preserved
loop-label-preserved g c = record {
  can_next = tt;
  is_finite = tt;
  same = λ p.
      let so_far = c.loop-label.invariant.same p in
      let steps = c.in-Some-label.ensures.steps in (
        so_far.0 ++ ended_label c.in-Some-label.label.now,
        has_written_append _ _ _ _ _ _ so_far.1 (search rules),
        append_assoc so_far.0 (ended_label c.in-Some-label.label.now) (ended_labels c.next-in-loop-label.new.self)
            ∙ (rw steps at so_far.2),
      );
}

use Rattle.dns_base.specs.Sections.{HasNoneAfter}
use Rattle.dns_values.specs.declared.numbers.Section.TheVariants.{Answer}
use Rattle.dns_base.specs.Draft.{counts_in}
use Rattle.tool_transports.proofs.streams.transfer.cutting.push_answers.Given as goal

abbrev pub invariant-loop-source : goal.invariant-loop-source
invariant-loop-source l = record {
  can_next : (goal.iterator-loop-source).can_next l.source-iterator;
  is_finite : (goal.iterator-loop-source).is_finite l.source-iterator;
  order : HasNoneAfter Answer (counts_in l.target);
}

use Rattle.std.proofs.Common.{◌≡◌}
use Rattle.dns_base.specs.Sections.{HasNoneAfter}
use Rattle.dns_base.specs.Draft.{counts_in}
use Rattle.client_request.specs.Composed.{copies, each}
use Rattle.front_queries.proofs.copying.copy_records.Given as goal

abbrev pub invariant-loop-source : goal.invariant-loop-source
invariant-loop-source l = record {
  can_next : (goal.iterator-loop-source).can_next l.source-iterator;
  is_finite : (goal.iterator-loop-source).is_finite l.source-iterator;
  same : each (copies l.section) l.fn.records l.initial.target ≡ each (copies l.section) l.source-iterator l.target;
  order : HasNoneAfter l.section (counts_in l.target);
}

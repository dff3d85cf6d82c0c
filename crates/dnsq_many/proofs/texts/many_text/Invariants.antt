use Rattle.std.proofs.Common.{◌≡◌}
use Rattle.std.specs.Vec.Iter.{into_iter_items}
use Rattle.dnsq_many.specs.Lanes.{many_text_of}
use Rattle.dnsq_many.proofs.Entries.{text_with}
use Rattle.dnsq_many.proofs.texts.many_text.Given as goal

abbrev pub invariant-loop-entry : goal.invariant-loop-entry
invariant-loop-entry l = text_with l.text.items (into_iter_items l.entry-iterator) ≡ many_text_of l.fn.journal

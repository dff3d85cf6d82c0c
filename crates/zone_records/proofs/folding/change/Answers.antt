use Rattle.std.proofs.Common.{List, subst}
use Rattle.zone_records.specs.Changing.{Adds, Folds, present}
use Rattle.zone_records.specs.declared.record.ZoneRecord.{ZoneRecord}
use Rattle.zone_records.proofs.Changed.{are_made}
use Rattle.zone_records.proofs.folding.change.Goals as goal

pub returns-clause-made : goal.returns-clause-made
returns-clause-made c =
    are_made c.args.records.now.items c.make.new.records.items c.args.updates.items c.args.soa c.new-changes.result c.fold.new.changes c.put.new.self c.in_ok-missing.missing c.new-changes.ensures
    (subst (λ (base : List ZoneRecord). Folds (present base c.new-changes.result) c.args.updates.items (present base c.fold.new.changes) c.in_ok-missing.missing) c.as_slice.ensures.value c.in_ok-missing.ensures)
    (subst (λ (base : List ZoneRecord). Adds (present base c.fold.new.changes) c.args.soa (present base c.put.new.self)) c.as_slice-2.ensures.value c.in_ok-put.ensures.added) c.in_ok-make.ensures.made

use Rattle.std.proofs.Common.{sym, subst}
use Rattle.zone_records.specs.Changing.{FoldsOne, present}
use Rattle.zone_records.proofs.Folds.{added, removed}
use Rattle.zone_records.proofs.folding.fold_one.Goals as goal

pub returns-in-DeleteRecord : goal.returns-in-DeleteRecord
returns-in-DeleteRecord c =
    subst (λ u. FoldsOne (present c.args.base.now c.args.changes.now) u (present c.args.base.now c.take.new.changes) c.in_ok-is_missed-in-DeleteRecord.is_missed) (sym c.in-DeleteRecord.is)
    (removed (present c.args.base.now c.args.changes.now) (present c.args.base.now c.take.new.changes) c.in-DeleteRecord.gone c.in_ok-is_missed-in-DeleteRecord.is_missed c.in_ok-is_missed-in-DeleteRecord.ensures.removed c.in_ok-is_missed-in-DeleteRecord.ensures.missed)

pub returns-in-AddRecord : goal.returns-in-AddRecord
returns-in-AddRecord c =
    subst (λ u. FoldsOne (present c.args.base.now c.args.changes.now) u (present c.args.base.now c.put.new.changes) c.in_ok-was_there-in-AddRecord.was_there) (sym c.in-AddRecord.is)
    (added (present c.args.base.now c.args.changes.now) (present c.args.base.now c.put.new.changes) c.in-AddRecord.new c.in_ok-was_there-in-AddRecord.was_there c.in_ok-was_there-in-AddRecord.ensures.added c.in_ok-was_there-in-AddRecord.ensures.told)

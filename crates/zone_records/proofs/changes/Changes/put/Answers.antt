use Rattle.std.proofs.Common.{refl, subst}
use Rattle.zone_records.specs.Changing.{Adds}
use Rattle.zone_records.specs.Folding.{has}
use Rattle.zone_records.specs.declared.record.ZoneRecord.{ZoneRecord}
use Rattle.zone_records.proofs.Changed.{put_in}
use Rattle.zone_records.proofs.changes.Changes.put.Goals as goal

pub returns-then-not-is_new-clause-added : goal.returns-then-not-is_new-clause-added
returns-then-not-is_new-clause-added c =
    put_in c.args.base.now c.args.self.now (record { all_gone = c.args.self.now.all_gone; gone = c.args.self.now.gone; come = c.insert_keyed.new.set }) c.args.new refl refl
    (subst (λ (x : ZoneRecord). Adds (has c.args.self.now.come.keys) x (has c.insert_keyed.new.set.keys)) c.new.ensures c.in_ok-is_new.ensures.added)

pub returns-else-not-is_new-clause-added : goal.returns-else-not-is_new-clause-added
returns-else-not-is_new-clause-added c =
    put_in c.args.base.now c.args.self.now (record { all_gone = c.args.self.now.all_gone; gone = c.args.self.now.gone; come = c.insert_keyed.new.set }) c.args.new refl refl
    (subst (λ (x : ZoneRecord). Adds (has c.args.self.now.come.keys) x (has c.insert_keyed.new.set.keys)) c.new.ensures c.in_ok-is_new.ensures.added)

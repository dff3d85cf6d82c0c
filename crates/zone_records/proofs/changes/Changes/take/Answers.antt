use Rattle.std.proofs.Common.{refl, subst, ◌∙◌}
use Rattle.zone_records.specs.Changing.{Adds, Removes}
use Rattle.zone_records.specs.Folding.{has}
use Rattle.zone_records.specs.declared.record.ZoneRecord.{ZoneRecord}
use Rattle.zone_records.proofs.Changed.{taken_out}
use Rattle.zone_records.proofs.changes.Changes.take.Goals as goal

pub returns-then-came-clause-removed : goal.returns-then-came-clause-removed
returns-then-came-clause-removed c =
    taken_out c.args.base.now c.args.self.now (record { all_gone = c.args.self.now.all_gone; gone = c.insert.new.set; come = c.remove-came.new.set }) c.args.gone refl
    (subst (λ (x : ZoneRecord). Adds (has c.args.self.now.gone.keys) x (has c.insert.new.set.keys)) (c.into_record.ensures ∙ c.new-keyed.ensures) c.in_ok-insert.ensures)
    (subst (λ (x : ZoneRecord). Removes (has c.args.self.now.come.keys) x (has c.remove-came.new.set.keys)) c.new-keyed.ensures c.remove-came.ensures.removed)

pub returns-else-came-clause-removed : goal.returns-else-came-clause-removed
returns-else-came-clause-removed c =
    taken_out c.args.base.now c.args.self.now (record { all_gone = c.args.self.now.all_gone; gone = c.insert.new.set; come = c.remove-came.new.set }) c.args.gone refl
    (subst (λ (x : ZoneRecord). Adds (has c.args.self.now.gone.keys) x (has c.insert.new.set.keys)) (c.into_record.ensures ∙ c.new-keyed.ensures) c.in_ok-insert.ensures)
    (subst (λ (x : ZoneRecord). Removes (has c.args.self.now.come.keys) x (has c.remove-came.new.set.keys)) c.new-keyed.ensures c.remove-came.ensures.removed)

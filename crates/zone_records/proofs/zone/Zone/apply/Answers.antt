use Rattle.std.proofs.Common.{List, Some, ap, subst, sym, ◌∙◌}
use Rattle.zone_reading.specs.declared.steps.Update.{Update}
use Rattle.zone_records.specs.declared.record.ZoneRecord.{ZoneRecord}
use Rattle.zone_records.specs.Folding.{Applies, Zone, first_wrong}
use Rattle.zone_records.proofs.Applied.{applied, no_wrong}
use Rattle.zone_records.proofs.zone.Zone.apply.Goals as goal

pub returns-clause-applied : goal.returns-clause-applied
returns-clause-applied c =
    let inside : Zone = record { apex = c.self.inside.apex; serial = c.self.inside.serial; records = c.self.inside.records.items } in
    subst (λ (old : Zone). Applies old c.args.updates.items (record { apex = inside.apex; serial = Some c.in-Some.serial; records = c.bring.new.records.items }) c.in_ok-misfits.misfits) c.self.view_is
    (applied inside c.args.updates.items c.take_end.new.updates.items c.in-Some.serial c.in-Some.soa c.bring.new.records.items c.in_ok-misfits.misfits
    (ap (λ (us : List (Update ZoneRecord)). first_wrong c.self.inside.serial us) (sym c.as_slice.ensures.value)
    ∙ no_wrong (first_wrong c.self.inside.serial c.as_slice.result.now) c.in_ok-check_serials.field-0 c.in_ok-check_serials.ensures)
    c.in-Some.ensures c.in_ok-misfits.ensures.made c.in_ok-misfits.ensures.told)

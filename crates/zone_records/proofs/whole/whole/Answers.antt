use Rattle.std.proofs.Common.{◌∷◌, ◌++◌, [], ap, ◌∙◌}
use Rattle.std.proofs.lemmas.Result.{IfOk-weaker}
use Rattle.zone_records.specs.declared.record.ZoneRecord.{ZoneRecord}
use Rattle.zone_records.proofs.Wholes.{whole_made}
use Rattle.zone_records.proofs.whole.whole.Goals as goal

pub returns-clause-made : goal.returns-clause-made
returns-clause-made c =
    IfOk-weaker c.unkeyed.result _ _ (λ v alone.
    whole_made c.args.updates.items c.args.soa c.in_ok-records.records.items c.push.new.self.items c.order.new.records.items v.items c.requires c.in_ok-records.ensures
    (c.in_ok-push.ensures.items ∙ ap (λ (x : ZoneRecord). c.in_ok-records.records.items ++ x ∷ []) c.new.ensures) c.order.ensures.same alone)
    c.unkeyed.ensures

use Rattle.std.proofs.Common.{◌≡◌, [], sym, ◌∙◌}
use Rattle.std.specs.Vec.Iter.{into_iter_items}
use Rattle.std.proofs.lemmas.List.{nil_from_length}
use Rattle.zone_records.specs.Changing.{present}
use Rattle.zone_records.proofs.Folds.{folding_ended, folding_from, folding_next}
use Rattle.zone_records.proofs.folding.fold.Goals as goal

pub loop-update-init : goal.loop-update-init
loop-update-init c = folding_from c.args.updates.items (into_iter_items c.into_iter-update-iterator.result) (present c.args.base.now c.args.changes.now) c.into_iter-update-iterator.ensures.into_iter_gives.0

pub loop-update-preserved-then-branch : goal.loop-update-preserved-then-branch
loop-update-preserved-then-branch c =
    folding_next c.args.updates.items (into_iter_items c.loop-update.update-iterator) (into_iter_items c.next.new.self) c.in-Some.update (present c.args.base.now c.args.changes.now) (present c.args.base.now c.loop-update.changes) (present c.args.base.now c.fold_one.new.changes) c.loop-update.missing
    c.in_ok-fold_one.field-0 _ c.in-Some.ensures.steps.0 c.if-branch.true c.loop-update.invariant c.in_ok-fold_one.ensures

pub loop-update-preserved : goal.loop-update-preserved
loop-update-preserved c =
    folding_next c.args.updates.items (into_iter_items c.loop-update.update-iterator) (into_iter_items c.next.new.self) c.in-Some.update (present c.args.base.now c.args.changes.now) (present c.args.base.now c.loop-update.changes) (present c.args.base.now c.fold_one.new.changes) c.loop-update.missing
    c.in_ok-fold_one.field-0 _ c.in-Some.ensures.steps.0 c.if-branch.false c.loop-update.invariant c.in_ok-fold_one.ensures

pub returns : goal.returns
returns c =
    let ok = c.loop-update.update-iterator.rest.ok in
    let none : into_iter_items c.loop-update.update-iterator ≡ [] = nil_from_length _ (sym ok.0 ∙ c.in-None.ensures.steps.0) in
    folding_ended c.args.updates.items (into_iter_items c.loop-update.update-iterator) (present c.args.base.now c.args.changes.now) (present c.args.base.now c.loop-update.changes) c.loop-update.missing none c.loop-update.invariant

use Rattle.std.proofs.Common.{rules, ◌≡◌, refl, ap, ◌∙◌}
use mathlib.Core.Option.{none}
use Rattle.atomic_table.specs.Table.{Me, step}
use Rattle.joint_history.specs.declared.view.View.{View}
use Rattle.joint_history.specs.Views.{keeping, keeper}
use Rattle.joint_history.proofs.Keeping.{hands_over, takes_over, looks}
use Rattle.joint_history.proofs.joint.Joint.catch_up.Goals as goal

pub split_seat-part-requires : goal.split_seat-part-requires
split_seat-part-requires g c = (search rules, search rules, hands_over g.E.Owned.by _ _ c.requires.keeps)

pub join_seat-requires : goal.join_seat-requires
join_seat-requires g c = (search rules, search rules, search rules, search rules, takes_over g.E.Owned.by _ _ _ _ (ap (λ (m : Me (Unit {0}) (View g.row.E.Denot)). m.0.keeps) c.split_seat-part.ensures.4 ∙ c.requires.keeps))

pub load-requires : goal.load-requires
load-requires g c = (search rules, search rules, looks g.E.Owned.by c.args.self.now.table.shared.table_id.slots 0 c.join_seat.new.seat.id c.join_seat.new.seat.me (step c.args.self.now.table.shared.table_id.slots 0 0 0 none) refl)

pub split_seat-requires : goal.split_seat-requires
split_seat-requires g c =
    let E : Type 0 = g.row.E.Denot in
    let seat = c.args.caller.now in
    let kept = c.args.keeper.now in
    let me : c.join_seat.new.seat.me ≡ (keeping seat.me.0 (keeper kept.me.0), seat.me.1) = c.join_seat.ensures.2 ∙ ap (λ (m : Me (Unit {0}) (View E)). (keeping seat.me.0 m.0, seat.me.1)) c.split_seat-part.ensures.4 in
    let looked : c.load.new.seat.me ≡ c.join_seat.new.seat.me = c.load.ensures.2.0 in (
      search rules,
      search rules,
      hands_over g.E.Owned.by _ _ (ap (λ (m : Me (Unit {0}) (View E)). m.0.keeps) looked ∙ (ap (λ (m : Me (Unit {0}) (View E)). m.0.keeps) me ∙ c.requires.keeps)),
    )

use Rattle.std.proofs.Common.{rules, ◌≡◌, ℕ, List, ◌+◌, ◌%◌, ◌^◌, ◌<◌, length, refl, sym, ap, ◌∙◌, subst}
use mathlib.Core.Option.{none}
use Rattle.atomic_table.specs.Table.{Me, step, Allows}
use Rattle.joint_history.specs.declared.view.View.{View}
use Rattle.joint_history.specs.Views.{Kept, Adds, keeping, keeper, with_items}
use Rattle.joint_history.proofs.Keeping.{hands_over, takes_over, adds}
use Rattle.joint_history.proofs.joint.Joint.append.Goals as goal

pub split_seat-part-requires : goal.split_seat-part-requires
split_seat-part-requires g c = (search rules, search rules, hands_over g.E.Owned.by _ _ c.requires.keeps)

pub join_seat-requires : goal.join_seat-requires
join_seat-requires g c = (search rules, search rules, search rules, search rules, takes_over g.E.Owned.by _ _ _ _ (ap (λ (m : Me (Unit {0}) (View g.row.E.Denot)). m.0.keeps) c.split_seat-part.ensures.4 ∙ c.requires.keeps))

pub fetch_add-requires : goal.fetch_add-requires
fetch_add-requires g c =
    let E : Type 0 = g.row.E.Denot in
    let by : E → ℕ = g.E.Owned.by in
    let seat = c.args.caller.now in
    let kept = c.args.keeper.now in
    let item : E = c.args.item.now in
    let at = c.join_seat.new.seat in
    let me : at.me ≡ (keeping seat.me.0 (keeper kept.me.0), seat.me.1) = c.join_seat.ensures.2 ∙ ap (λ (m : Me (Unit {0}) (View E)). (keeping seat.me.0 m.0, seat.me.1)) c.split_seat-part.ensures.4 in
    let seen : at.me.0.seen ≡ kept.me.0.seen = ap (λ (m : Me (Unit {0}) (View E)). m.0.seen) me in (
      search rules,
      search rules,
      subst (λ (items : List E). Allows (Kept by) c.args.self.now.table.shared.table_id.slots at.id at.me 0 (λ n. (n + 1) % 2 ^ 64) (Adds by items (step c.args.self.now.table.shared.table_id.slots 0 1 0 none) at.me)) (sym c.requires.said)
          (adds by c.args.self.now.table.shared.table_id.slots 0 at.id at.me (step c.args.self.now.table.shared.table_id.slots 0 1 0 none) item refl
          (ap (λ (m : Me (Unit {0}) (View E)). m.0.keeps) me ∙ c.requires.keeps)
          (ap (λ (m : Me (Unit {0}) (View E)). m.0.calls) me ∙ c.requires.calls.0)
          (c.requires.number ∙ sym (ap (λ (m : Me (Unit {0}) (View E)). m.0.number) me))
          (subst (λ (l : List E). length l + 1 < 2 ^ 64) (sym seen) c.requires.room)),
    )

pub split_seat-requires : goal.split_seat-requires
split_seat-requires g c =
    let E : Type 0 = g.row.E.Denot in
    let seat = c.args.caller.now in
    let kept = c.args.keeper.now in
    let me : c.join_seat.new.seat.me ≡ (keeping seat.me.0 (keeper kept.me.0), seat.me.1) = c.join_seat.ensures.2 ∙ ap (λ (m : Me (Unit {0}) (View E)). (keeping seat.me.0 m.0, seat.me.1)) c.split_seat-part.ensures.4 in
    let added : c.fetch_add.new.seat.me ≡ (with_items g.B.Said.items c.join_seat.new.seat.me.0, c.join_seat.new.seat.me.1) = c.fetch_add.ensures.2.0 in (
      search rules,
      search rules,
      hands_over g.E.Owned.by _ _ (ap (λ (m : Me (Unit {0}) (View E)). m.0.keeps) added ∙ (ap (λ (m : Me (Unit {0}) (View E)). m.0.keeps) me ∙ c.requires.keeps)),
    )

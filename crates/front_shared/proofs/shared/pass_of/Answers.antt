use Rattle.std.proofs.Common.{ap, ◌∙◌}
use Rattle.atomic_table.specs.Table.{Me}
use Rattle.joint_history.specs.declared.view.View.{View}
use Rattle.front_shared.specs.declared.entry.Item.{Item}
use Rattle.front_shared.proofs.Histories.{fresh_legal}
use Rattle.front_shared.proofs.shared.pass_of.Goals as goal

pub invariant_of-result : goal.invariant_of-result
invariant_of-result g c =
    let made = c.caller.ensures.made in
    let fresh = c.requires.fresh in
    record {
      table_is = made.0 ∙ fresh.table_is;
      empty = ap (λ (m : Me (Unit {0}) (View Item)). m.1) made.1;
      calls = ap (λ (m : Me (Unit {0}) (View Item)). m.0.calls) made.1;
      keeps = ap (λ (m : Me (Unit {0}) (View Item)). m.0.keeps) made.1;
      number_is = ap (λ (m : Me (Unit {0}) (View Item)). m.0.number) made.1 ∙ fresh.made_is;
      below = c.requires.below;
      legal = fresh_legal g.L.ForwarderKey.opening c.caller.result.me.0.seen (ap (λ (m : Me (Unit {0}) (View Item)). m.0.seen) made.1 ∙ fresh.seen);
    }

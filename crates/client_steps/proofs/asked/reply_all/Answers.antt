use Rattle.std.proofs.Common.{rules, ap, sym, ◌∙◌, ◌-◌}
use Rattle.client_steps.specs.Client as plain
use Rattle.client_steps.proofs.Fuel.{replies_many_suc}
use Rattle.client_steps.proofs.asked.reply_all.Goals as goal

pub loop-left-preserved : goal.loop-left-preserved
loop-left-preserved g c = record {
  lends = search rules;
  same =
      c.loop-left.invariant.same
      ∙ replies_many_suc c.loop-left.left _ c.loop-left-test.true
      ∙ ap (plain.replies_many (c.loop-left.left - 1)) (sym c.in_ok-reply_first.ensures.ok);
}

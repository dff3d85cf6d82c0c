use Rattle.std.proofs.Common.{arith, rules}
use Rattle.std.proofs.lemmas.Grind.{common_steps}
use Rattle.client_choice.proofs.Absent.{stays_where_none}
use Rattle.client_choice.proofs.steps.fire_timer.Goals as goal

pub returns-in-None : goal.returns-in-None
returns-in-None g c =
    let same = stays_where_none c.args.timer.0 c.choice.inside.timers c.remove.new.self c.remove.result c.remove.ensures.value c.remove.ensures.entries in
    record {
      holds = record {
        lends = search rules;
        ok = grind (arith, common_steps);
        numbers = grind (arith, common_steps);
        keeps = search rules;
        refused = search rules;
        failed_only = search rules;
      };
    }

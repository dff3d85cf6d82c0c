use Rattle.std.proofs.Common.{arith, rules}
use Rattle.std.proofs.lemmas.Grind.{common_steps}
use Rattle.client_choice.proofs.Absent.{stays_where_none}
use Rattle.client_choice.proofs.steps.give_up.Goals as goal

pub returns-in_default : goal.returns-in_default
returns-in_default g c =
    let same = stays_where_none c.args.ticket c.choice.inside.jobs c.remove.new.self c.remove.result c.remove.ensures.value c.remove.ensures.entries in
    record {
      holds = record {
        lends = search rules;
        ok = grind (arith, common_steps);
        numbers = search rules;
        keeps = search rules;
        refused = search rules;
        failed_only = search rules;
      };
    }

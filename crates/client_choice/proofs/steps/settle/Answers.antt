use Rattle.std.proofs.Common.{arith, rules}
use Rattle.std.proofs.lemmas.Grind.{common_steps}
use Rattle.client_choice.proofs.Absent.{stays_where_none}
use Rattle.client_choice.proofs.steps.settle.Goals as goal

pub returns-in_default-remove : goal.returns-in_default-remove
returns-in_default-remove g c =
    let same = stays_where_none c.in-Some.ticket c.choice.inside.jobs c.remove.new.self c.remove.result c.remove.ensures.value c.remove.ensures.entries in
    record {
      holds = record {
        lends = search rules;
        ok = grind (arith, common_steps);
        numbers = search rules;
        keeps = search rules;
        refused = search rules;
        failed_only = search rules;
      };
    }

use Rattle.std.proofs.Common.{rules, ◌≡◌}
use Rattle.client_request.specs.Numbered.{frees}
use Rattle.client_cache.proofs.Waiting.{frees_nothing}
use Rattle.client_cache.proofs.steps.give_up.Goals as goal

pub returns-in_default-remove : goal.returns-in_default-remove
returns-in_default-remove g c =
    let stays : frees c.ticket.result c.kept.inside.waiting ≡ c.kept.inside.waiting = frees_nothing c.ticket.result c.kept.inside.waiting (search rules) in
    record {
      holds = record {
        lends = search rules;
        ok = search (rules, stays);
        numbers = search (rules, stays);
        keeps = search rules;
        refused = search rules;
        failed_only = search rules;
      };
    }

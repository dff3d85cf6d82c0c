use Rattle.std.proofs.Common.{rules}
use Rattle.client_choice.proofs.steps.start_next_servers.Goals as goal

pub returns-in_err-part : goal.returns-in_err-part
returns-in_err-part g c =
    record {
      holds = record {
        lends = search rules;
        ok = search rules;
        numbers = search rules;
        keeps = search rules;
        refused = search rules;
        failed_only = search rules;
      };
    }

pub returns-then-not-is_deferred : goal.returns-then-not-is_deferred
returns-then-not-is_deferred g c =
    record {
      holds = record {
        lends = search rules;
        ok = search rules;
        numbers = search rules;
        keeps = search rules;
        refused = search rules;
        failed_only = search rules;
      };
    }

use Rattle.std.proofs.Common.{◌≡◌, false, List, ◌++◌}
use Rattle.std.specs.Prelude.{option_map}
use Rattle.std.specs.Vec.Iter.{into_iter_items}
use Rattle.client_request.specs.declared.event.Row.{Row}
use Rattle.client_steps.specs.Client.{plain_rows}
use Rattle.client_steps.specs.Whole.{machine, plain_trace_with, client_with}
use Rattle.client_replay.proofs.replaying.ClientReplay.replay_into_with.Given as goal

abbrev pub invariant-loop-event : goal.invariant-loop-event
invariant-loop-event g l = record {
  rows : List Row;
  taken : g.T.TakeRow.has l.taker rows;
  same : plain_trace_with l.fn.settings.transports l.fn.settings.redundant l.fn.settings.cache l.fn.conf (g.W.Words.stream l.fn.words) l.fn.events
      ≡ option_map (λ rest. rows ++ rest) (plain_rows machine l.fn.conf.options.timeout (into_iter_items l.event-iterator) (client_with (g.W.Words.stream l.words) l.client));
  timeout : l.client.timeout ≡ l.fn.conf.options.timeout;
  lasts : l.client.failed ≡ false;
}

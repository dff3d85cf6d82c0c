use Rattle.std.proofs.Common.{List, Option, ap, ◌∙◌}
use Rattle.client_core.specs.Edge.{after_deed}
use Rattle.client_core.specs.declared.edge.Deed.{Deed}
use Rattle.client_core.specs.declared.edge.Deed.TheVariants.{Polled}
use Rattle.stream_turns.specs.Turns.{client_with}
use Rattle.stream_turns.proofs.RowOfTurn.{row_of_own, turned}
use Rattle.stream_turns.proofs.turning.turn.Goals as goal

pub returns-clause-turn : goal.returns-clause-turn
returns-clause-turn g c =
    turned (g.W.Words.stream c.args.words.now) c.args.transfer.now (client_with (g.W.Words.stream c.take.new.words) c.take.new.transfer)
    (record { moment = c.now.result; what = c.happened.result }) c.in_ok-polled.polled _ _ _ c.take.result c.in_octets.ensures c.happened.ensures
    (c.in_ok-polled.ensures.deeds ∙ ap (λ (ds : Option (List Deed)). after_deed (Polled c.in_ok-polled.polled) ds) c.wait.ensures.deeds) c.take.ensures.row c.take.ensures.deeds

use Rattle.std.proofs.Common.{List, Option, ap, ◌∙◌}
use Rattle.client_core.specs.Edge.{after_deed}
use Rattle.client_core.specs.declared.edge.Deed.{Deed}
use Rattle.client_core.specs.declared.edge.Deed.TheVariants.{Polled}
use Rattle.client_steps.specs.Whole.{client_with}
use Rattle.client_loop.proofs.Turning.{turned}
use Rattle.client_loop.proofs.turns.turn.Goals as goal

pub returns-clause-turn : goal.returns-clause-turn
returns-clause-turn g c =
    turned c.args.client.now (g.W.Words.stream c.args.words.now) (client_with (g.W.Words.stream c.take.new.words) c.take.new.client)
    (record { moment = c.now.result; what = c.happened.result }) c.in_ok-polled.polled _ _ _ c.take.result c.in_octets.ensures c.happened.ensures
    (c.in_ok-polled.ensures.deeds ∙ ap (λ (ds : Option (List Deed)). after_deed (Polled c.in_ok-polled.polled) ds) c.wait.ensures.deeds) c.take.ensures.row c.take.ensures.deeds

pub returns-clause-numbers : goal.returns-clause-numbers
returns-clause-numbers g c = λ is. record {
  polled = c.in_ok-polled.polled;
  event = record { moment = c.now.result; what = c.happened.result };
  of_poll = c.happened.ensures;
  stops = c.take.ensures.numbers is;
  deeds_are =
      c.take.ensures.stands is
      ∙ c.in_ok-polled.ensures.deeds ∙ ap (λ (ds : Option (List Deed)). after_deed (Polled c.in_ok-polled.polled) ds) c.wait.ensures.deeds;
  moment = c.now.ensures.given;
}

use Rattle.std.proofs.Common.{List, map, ap, ◌∙◌}
use Rattle.client_core.specs.declared.edge.Deed.TheVariants.{Learned}
use Rattle.client_loop.specs.Turns.{after_deeds}
use Rattle.client_settings.specs.Settings.{default_redundant}
use Rattle.client_steps.specs.Whole.{started}
use Rattle.client_loop.proofs.Turning.{same_error}
use Rattle.resolv_conf.specs.declared.server.ServerConf.{ServerConf}
use Rattle.dnsq_run.specs.Query.{world}
use Rattle.dnsq_run.proofs.Queries.{replied, stopped}
use Rattle.dnsq_run.proofs.query.answer.Goals as goal

pub returns-clause-numbers : goal.returns-clause-numbers
returns-clause-numbers g c = λ is.
    stopped c.args.query.now c.args.conf.now
    (world (g.W.Words.stream c.args.random.now) (g.E.Edge.deeds c.args.edge.now) (g.E.Edge.polls c.args.edge.now) (g.C.Clock.given c.args.clock.now))
    (world (g.W.Words.stream c.ask.new.words) (g.E.Edge.deeds c.ask.new.edge) (g.E.Edge.polls c.ask.new.edge) (g.C.Clock.given c.ask.new.clock))
    c.in_ok-client.client c.ask.new.client c.in_ok-request.request (g.E.Edge.deeds c.learn_all.new.edge) (g.E.Edge.waits c.learn_all.new.edge) (g.E.Edge.waits c.ask.new.edge) (g.E.Edge.polls c.learn_all.new.edge)
    (c.in_ok-client.ensures.made ∙ ap (λ s. started s c.new-2.result c.args.conf.now) c.new.ensures ∙ ap (λ s. started default_redundant s c.args.conf.now) c.new-2.ensures) c.in_ok-request.ensures.made
    (c.in_ok-learn_all.ensures.deeds ∙ ap (λ (servers : List ServerConf). after_deeds (map (λ server. Learned server) servers) (g.E.Edge.deeds c.args.edge.now)) c.as_slice.ensures)
    c.in_ok-learn_all.ensures.polls (c.in-Err.ensures.numbers (same_error _ _ is))

pub returns-in-Ok-clause-asked : goal.returns-in-Ok-clause-asked
returns-in-Ok-clause-asked g c =
    replied c.every_plain_trace_is_right.ensures c.args.query.now c.args.conf.now
    (world (g.W.Words.stream c.args.random.now) (g.E.Edge.deeds c.args.edge.now) (g.E.Edge.polls c.args.edge.now) (g.C.Clock.given c.args.clock.now))
    (world (g.W.Words.stream c.ask.new.words) (g.E.Edge.deeds c.ask.new.edge) (g.E.Edge.polls c.ask.new.edge) (g.C.Clock.given c.ask.new.clock))
    (g.met.W.Words.words_fit c.args.random.now) c.in_ok-client.client c.ask.new.client c.in_ok-request.request (g.E.Edge.deeds c.learn_all.new.edge) (g.E.Edge.waits c.learn_all.new.edge) (g.E.Edge.waits c.ask.new.edge) (g.E.Edge.polls c.learn_all.new.edge) c.in-Ok.answer
    (c.in_ok-client.ensures.made ∙ ap (λ s. started s c.new-2.result c.args.conf.now) c.new.ensures ∙ ap (λ s. started default_redundant s c.args.conf.now) c.new-2.ensures) c.in_ok-request.ensures.made
    (c.in_ok-learn_all.ensures.deeds ∙ ap (λ (servers : List ServerConf). after_deeds (map (λ server. Learned server) servers) (g.E.Edge.deeds c.args.edge.now)) c.as_slice.ensures)
    c.in_ok-learn_all.ensures.polls c.in-Ok.ensures.answered

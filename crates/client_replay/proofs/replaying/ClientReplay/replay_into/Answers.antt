use Rattle.std.proofs.lemmas.Result.{IfOk-weaker}
use Rattle.client_replay.proofs.Rightness.{none_of, replay_of}
use Rattle.client_replay.proofs.replaying.ClientReplay.replay_into.Goals as goal

pub returns-clause-replay : goal.returns-clause-replay
returns-clause-replay g c = IfOk-weaker c.replay_into_with.result _ _
    (λ x p. (p.0, replay_of c.new.result c.args.redundant c.args.cache c.args.conf.now (g.W.Words.stream c.args.words.now) c.args.events p.0 c.new.ensures p.1, p.2))
    c.replay_into_with.ensures.replay

pub returns-clause-numbers : goal.returns-clause-numbers
returns-clause-numbers g c = λ e. none_of c.new.result c.args.redundant c.args.cache c.args.conf.now (g.W.Words.stream c.args.words.now) c.args.events c.new.ensures (c.replay_into_with.ensures.numbers e)

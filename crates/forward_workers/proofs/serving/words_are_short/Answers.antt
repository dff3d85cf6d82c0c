use Rattle.forward_workers.proofs.serving.words_are_short.Goals as goal

pub returns : goal.returns
returns g c = g.met.W.Words.words_fit c.args.rng.now

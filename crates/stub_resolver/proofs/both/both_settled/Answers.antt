use Rattle.client_loop.specs.Asking.{scene}
use Rattle.client_loop.proofs.Turning.{same_error}
use Rattle.stub_resolver.specs.Both.{at_second}
use Rattle.stub_resolver.proofs.both.both_settled.Goals as goal

pub returns-in-Err-settled-clause-numbers : goal.returns-in-Err-settled-clause-numbers
returns-in-Err-settled-clause-numbers g c = λ is.
    at_second (scene c.settled.new.client (g.W.Words.stream c.settled.new.words) (g.E.Edge.deeds c.settled.new.edge) (g.E.Edge.waits c.settled.new.edge) (g.E.Edge.polls c.settled.new.edge) (g.C.Clock.given c.settled.new.clock)) c.in-Ok.reply c.in-Ok.ensures.settles (c.in-Err-settled.ensures.again (same_error _ _ is)) (c.in-Err-settled.ensures.numbers (same_error _ _ is))

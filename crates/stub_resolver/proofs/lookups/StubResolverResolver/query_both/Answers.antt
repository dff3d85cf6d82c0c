use Rattle.stub_resolver.specs.Stub.{seen}
use Rattle.stub_resolver.proofs.BothReplying.{asks_both}
use Rattle.stub_resolver.proofs.Counting.{is_counted}
use Rattle.stub_resolver.proofs.lookups.StubResolverResolver.query_both.Goals as goal

pub returns-clause-asked : goal.returns-clause-asked
returns-clause-asked g c =
    asks_both (seen g.E.Edge.deeds g.E.Edge.waits g.E.Edge.polls g.C.Clock.given g.W.Words.stream) c.args.name.now c.args.first.0 c.args.second.0 c.args.self.now c.query_both.new.self c.query_both.result.0 c.query_both.result.1 c.query_both.ensures.asks

pub returns-clause-first_failed : goal.returns-clause-first_failed
returns-clause-first_failed g c = is_counted c.query_both.result.0 c.args.self.now.faults c.query_both.new.self.faults c.query_both.ensures.first_rose

pub returns-clause-second_failed : goal.returns-clause-second_failed
returns-clause-second_failed g c = is_counted c.query_both.result.1 c.args.self.now.faults c.query_both.new.self.faults c.query_both.ensures.second_rose

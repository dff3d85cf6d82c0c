use Rattle.stub_resolver.proofs.Counting.{is_counted, never_falls}
use Rattle.stub_resolver.proofs.lookups.StubResolverResolver.query.Goals as goal

pub returns-clause-count : goal.returns-clause-count
returns-clause-count g c = never_falls c.query.result c.args.self.now.faults c.query.new.self.faults c.query.ensures.count c.query.ensures.rose

pub returns-clause-failed : goal.returns-clause-failed
returns-clause-failed g c = is_counted c.query.result c.args.self.now.faults c.query.new.self.faults c.query.ensures.rose

pub returns-clause-says : goal.returns-clause-says
returns-clause-says g c = record {
  failed = c.query.ensures.failed;
  gets = c.query.ensures.gets;
  count = c.query.ensures.count;
  lasts = c.query.ensures.lasts;
  options = c.query.ensures.options;
}

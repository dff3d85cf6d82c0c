use Rattle.stub_resolver.proofs.stub.StubResolver.query_by_turns.Goals as goal

pub returns-clause-turns : goal.returns-clause-turns
returns-clause-turns g c = (
  c.query-one.new.self,
  record { failed = c.query-one.ensures.failed; gets = c.query-one.ensures.gets; count = c.query-one.ensures.count; lasts = c.query-one.ensures.lasts; options = c.query-one.ensures.options },
  record { failed = c.query-other.ensures.failed; gets = c.query-other.ensures.gets; count = c.query-other.ensures.count; lasts = c.query-other.ensures.lasts; options = c.query-other.ensures.options },
)

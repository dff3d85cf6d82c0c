use Rattle.trace_hits.proofs.lemmas.timely.Longest.{late_named}
use Rattle.trace_hits.proofs.timely.laws.late_requests_are_named.Goals as goal

pub returns : goal.returns
returns c = late_named

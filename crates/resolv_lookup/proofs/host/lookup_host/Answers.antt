-- The witnesses are what the two questions got.
use Rattle.resolv_lookup.specs.Asked.{octets_in}
use Rattle.resolv_lookup.proofs.Counting.{hosts_counted}
use Rattle.resolv_lookup.proofs.host.lookup_host.Goals as goal

pub returns-clause-asked : goal.returns-clause-asked
returns-clause-asked g c = record {
  got = record { aaaa = octets_in g.R.Answer.AsMessage.octets_of c.query_both-a.result.1; a = octets_in g.R.Answer.AsMessage.octets_of c.query_both-a.result.0 };
  asked = c.query_both-a.ensures.asked;
  made = c.new.ensures;
}

pub returns-clause-failed : goal.returns-clause-failed
returns-clause-failed g c = hosts_counted g.R.Answer.AsMessage.octets_of c.query_both-a.result.1 c.query_both-a.result.0 _ _ _ c.new.ensures c.query_both-a.ensures.second_failed

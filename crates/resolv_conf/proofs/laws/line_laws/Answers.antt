use Rattle.resolv_conf.proofs.Outcomes.{one_outcome, one_answer}
use Rattle.resolv_conf.proofs.laws.line_laws.Goals as goal

pub returns : goal.returns
returns c = record {
  one_outcome = one_outcome c.address_laws.ensures.one_address;
  one_answer = one_answer c.address_laws.ensures.one_address;
}

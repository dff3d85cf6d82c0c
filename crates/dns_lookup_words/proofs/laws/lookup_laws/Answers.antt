use Rattle.dns_lookup_words.proofs.Judged.{one_lookup}
use Rattle.dns_lookup_words.proofs.laws.lookup_laws.Goals as goal

pub returns : goal.returns
returns c = one_lookup

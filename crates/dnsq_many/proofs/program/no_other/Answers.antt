use Rattle.dnsq_many.proofs.Words.{no_command, no_query, no_count}
use Rattle.dnsq_many.proofs.program.no_other.Goals as goal

pub returns : goal.returns
returns c = record {
  no_command = no_command c.args.words.now;
  no_query = no_query c.args.words.now;
  no_count = no_count c.args.words.now;
}

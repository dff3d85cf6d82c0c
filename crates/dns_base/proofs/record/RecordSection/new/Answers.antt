use Rattle.std.proofs.Common.{arith}
use Rattle.dns_base.proofs.Lists.{items_few}
use Rattle.dns_base.specs.Message.{record_at}
use Rattle.dns_base.proofs.record.RecordSection.new.Goals as goal

pub returns-clause-few : goal.returns-clause-few
returns-clause-few c = omega (arith, items_few (record_at c.args.octets.now) c.args.left c.args.at)

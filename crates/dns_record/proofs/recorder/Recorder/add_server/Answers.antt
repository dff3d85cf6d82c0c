use Rattle.dns_record.specs.declared.ended.Ended.TheVariants.{ServerAdded}
use Rattle.dns_record.proofs.Keeping.{ends}
use Rattle.dns_record.proofs.recorder.Recorder.add_server.Goals as goal

pub returns-clause-recorded : goal.returns-clause-recorded
returns-clause-recorded c = ends ServerAdded c.args.self.now c.end.new.self c.args.client.now c.add_server.new.self c.end.ensures

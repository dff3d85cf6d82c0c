use Rattle.std.proofs.Common.{ap}
use Rattle.zone_refresh_run.specs.declared.keeper.KeptFile.{KeptFile}
use Rattle.zone_refresh_run.proofs.Noting.{noted_listed}
use Rattle.zone_refresh_run.proofs.keeper.Keeper.note.Goals as goal

pub returns-then-zone-len-clause-kept : goal.returns-then-zone-len-clause-kept
returns-then-zone-len-clause-kept g c = noted_listed c.args.self.now.files.items c.args.zone c.index_mut.result.now _ (ap (λ (f : KeptFile). f.listed) c.index_mut.ensures.value)

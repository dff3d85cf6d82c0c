use Rattle.std.proofs.Common.{ap}
use Rattle.zone_refresh.specs.declared.kept.KeptZone.{KeptZone}
use Rattle.zone_refresh_run.proofs.Starting.{starts_so}
use Rattle.zone_refresh_run.proofs.keeping.start.Goals as goal

pub returns-clause-acts : goal.returns-clause-acts
returns-clause-acts g c =
    starts_so c.args.listed.now c.as_str.result.now c.held-held.result c.new.result.held _ _ _ c.as_str.ensures (ap (λ (z : KeptZone). z.held) c.new.ensures) c.held-held.ensures c.tell_kept.ensures

use Rattle.std.proofs.Common.{refl}
use Rattle.stub_resolver.specs.Making.{done}
use Rattle.stub_resolver.proofs.Operating.{not_made}
use Rattle.stub_resolver.proofs.stub.StubResolver.run_with_conf.Goals as goal

pub returns-in_err-resolver : goal.returns-in_err-resolver
returns-in_err-resolver g c = not_made _ _ g.F.From.from_gives c.in_err-resolver.field-0.0 c.from_residual.result c.from_residual.ensures.1 c.in_err-resolver.ensures.refused

pub returns : goal.returns
returns g c = done c.in_ok-resolver.resolver _ c.in_ok-resolver.ensures.made (record { shown = _; shows = refl; left = _; met = c.op.ensures; leaves = refl })

use Rattle.std.proofs.Common.{List, refl, subst}
use Rattle.zone_refresh_run.specs.Acts.{AsksAt}
use Rattle.zone_refresh_run.specs.declared.keeper.KeptFile.{KeptFile}
use Rattle.zone_refresh_run.proofs.keeper.KeeperWorld.ask_soa.Goals as goal

pub returns : goal.returns
returns g c = (
  subst (λ (fs : List KeptFile). AsksAt fs c.args.zone c.args.primary c.ask-said.result (g.S.System.acts c.args.self.now.system) (g.S.System.acts c.ask-said.new.system)) c.as_slice.ensures.value c.ask-said.ensures,
  c.serial_in.ensures,
  refl,
  refl,
)

use Rattle.std.proofs.Common.{None, refl, subst}
use Rattle.zone_refresh_run.specs.Acts.{Acts, AreStarted}
use Rattle.zone_refresh_run.proofs.Turning.{kept_as}
use Rattle.zone_refresh_run.proofs.keeping.keep_listed.Goals as goal

pub returns : goal.returns
returns g c = record {
  now = c.now-now.result;
  zones = c.in-Ok.all.0.items;
  after = c.keep_zones.new.zones;
  first = record { alloc = c.args.alloc; system = c.start_all.new.system; files = c.in-Ok.all.1; form = c.args.form; said = None };
  last = c.keep_zones.new.world;
  begins =
      subst (λ (a : Acts). AreStarted c.args.listed.items c.now-now.result c.in-Ok.all.0.items c.in-Ok.all.1.items a (g.S.System.acts c.start_all.new.system)) c.now-now.ensures c.in-Ok.ensures;
  form_is = refl;
  unsaid = refl;
  kept = kept_as _ _ _ _ _ _ _ c.keep_zones.ensures c.as_mut_slice.ensures.value;
  ends = refl;
}

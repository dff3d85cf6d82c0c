use Rattle.std.proofs.Common.{subst}
use Rattle.resolv_conf.specs.declared.conf.ResolvConf.{ResolvConf}
use Rattle.stub_resolver.specs.Making.{IsNew}
use Rattle.zone_refresh_run.proofs.asking.ask_serial.Goals as goal

pub returns : goal.returns
returns g c = record {
  made = c.in-Ok.resolver;
  is_new =
      subst (λ (conf : ResolvConf). IsNew g.E.Edge.deeds g.E.Edge.waits g.E.Edge.polls g.E.Edge.faults conf c.args.edge c.args.clock c.args.words c.in-Ok.resolver) c.in_ok-conf.ensures c.in-Ok.ensures.made;
  last = c.query-got.new.self;
  got = c.query-got.result;
  gets = c.query-got.ensures.gets c.in-Ok.ensures.made.lasts;
  says = c.in_ok-said.ensures;
}

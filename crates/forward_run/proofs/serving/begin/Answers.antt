use Rattle.std.proofs.Common.{List, ap, sym, ◌∙◌}
use Rattle.dns_values.specs.declared.address.IpAddr.{IpAddr}
use Rattle.forward_conf.specs.Itself.{asks_itself}
use Rattle.forward_run.proofs.serving.begin.Goals as goal

pub returns-clause-asks_others : goal.returns-clause-asks_others
returns-clause-asks_others g c =
    ap (λ (ips : List IpAddr). asks_itself ips c.args.port c.args.conf.now) (sym c.as_slice.ensures) ∙ c.in_ok-begin_front.ensures.asks_others

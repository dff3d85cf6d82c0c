use Rattle.std.proofs.Common.{Option, ap, ◌∙◌}
use Rattle.std.specs.Prelude.{Vec}
use Rattle.std.specs.declared.alloc.Global.{Global}
use Rattle.dns_values.specs.declared.address.IpAddr.{IpAddr}
use Rattle.resolv_lookup.specs.HostTable.{Shared, addresses_in}
use Rattle.resolv_lookup.proofs.HostTables.{added}
use Rattle.resolv_lookup.proofs.host_table.add.Goals as goal

pub returns : goal.returns
returns c =
    added c.args.table.now c.remove.new.self c.insert.new.self c.in_ok-key.key.items c.in_ok-new.field-0 c.args.owner.now c.args.address c.in_ok-all.all.items c.in_ok-key.ensures.key c.in_ok-key.ensures.legal
    c.remove.ensures.updates c.in_ok-insert.ensures.updates (c.in_ok-all.ensures ∙ ap (λ (all : Option Shared). addresses_in all) c.remove.ensures.value)
    (ap (λ (v : Vec IpAddr Global). v.items) c.in_ok-new.ensures.ok ∙ c.in_ok-push.ensures.items)

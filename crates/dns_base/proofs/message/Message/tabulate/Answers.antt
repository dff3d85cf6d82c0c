use Rattle.std.proofs.Common.{sym}
use Rattle.std.proofs.lemmas.Option.{IfSome_then}
use Rattle.dns_base.proofs.AliasTables.{has_table}
use Rattle.dns_base.proofs.message.Message.tabulate.Goals as goal

pub returns-clause-made : goal.returns-clause-made
returns-clause-made c =
    IfSome_then c.tabulate.result c.tabulate.ensures.made
    (λ n table. has_table c.as_slice-octets.result.now c.args.self.now _ c.in_ok-start.start c.u16_at.result c.as_slice-octets.ensures.all c.u16_at.ensures (sym c.in_ok-start.ensures) table)

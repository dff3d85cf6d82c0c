use Rattle.std.proofs.Common.{rules}
use Rattle.std.proofs.lemmas.Fn.{always_returns_same}
use Rattle.dns_base.specs.AliasTable.{order_at}
use Rattle.dns_base.proofs.alias_table.find.Goals as goal

pub returns-clause-position : goal.returns-clause-position
returns-clause-position c =
    c.binary_search_by.ensures.position (λ place. order_at c.args.octets.now c.args.owner.now place) (always_returns_same _ _ _ (λ a r k called. (search rules, search rules)))

-- The laws are proved beside this file.
use Rattle.resolv_lookup.proofs.OrderLaws as proofs
use Rattle.resolv_lookup.proofs.laws.order_laws.Goals as goal

pub returns : goal.returns
returns c = proofs.order_laws

use Rattle.std.proofs.Common.{sym, subst}
use Rattle.client_stream.specs.IdTable.{AreSlotsOf}
use Rattle.client_stream.proofs.IdTable.{slots_are}
use Rattle.client_stream.proofs.queries.Queries.slots.Goals as goal

pub returns : goal.returns
returns g c = subst (λ s. AreSlotsOf c.args.self.now s) (sym c.as_slice.ensures.value) (slots_are c.args.self.now c.self.inside.slots.items c.self.view_is)

use Rattle.std.proofs.Common.{arith}
use Rattle.client_stream.proofs.IdTable.{short_mark}
use Rattle.client_stream.proofs.queries.Queries.insert.Goals as goal

pub append-requires-clause-short : goal.append-requires-clause-short
append-requires-clause-short g c =
    let limit = c.self.invariant.2 in
    short_mark c.self.inside.held c.self.inside.full_below c.self.inside.slots.items c.args.self.now c.self.view_is c.self.invariant (omega arith) c.in-None.ensures

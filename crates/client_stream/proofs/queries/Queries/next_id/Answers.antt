use Rattle.std.proofs.Common.{◌≡◌, length, ap, arith}
use Rattle.client_stream.proofs.IdTable.{short_mark}
use Rattle.client_stream.proofs.queries.Queries.next_id.Goals as goal

pub overflow_cast-result-in-None : goal.overflow_cast-result-in-None
overflow_cast-result-in-None g c =
    let limit = c.self.invariant.2 in
    let mark : length c.self.inside.slots.items ≡ c.args.self.now.mark = ap (λ t. t.mark) c.self.view_is in
    let short = short_mark c.self.inside.held c.self.inside.full_below c.self.inside.slots.items c.args.self.now c.self.view_is c.self.invariant (omega arith) c.in-None.ensures in
    omega arith

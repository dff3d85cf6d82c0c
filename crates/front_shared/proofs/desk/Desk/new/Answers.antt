use Rattle.front_shared.proofs.Counting.{nothing_yet}
use Rattle.front_shared.proofs.desk.Desk.new.Goals as goal

pub invariant_of-result : goal.invariant_of-result
invariant_of-result g c =
    let seat = c.requires.seat in
    nothing_yet g.L.ForwarderKey.table g.L.ForwarderKey.opening c.args.forwarder (g.W.Words.stream c.args.words) c.new.result c.args.seat
    (record { table_is = seat.0; empty = seat.1; keeps = seat.2; seen = seat.3 }) c.requires.forwarder c.requires.words c.requires.lives c.new.ensures

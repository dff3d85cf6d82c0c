-- Fewer than eight octets leave room for one more.
use Rattle.std.proofs.Common.{◌<◌, ◌^◌, arith}
use Rattle.zone_records.proofs.Heads.{room_for}
use Rattle.zone_records.proofs.keyed.head_of.Goals as goal

pub overflow_mul-head : goal.overflow_mul-head
overflow_mul-head c =
    let room : c.loop-at.head < 2 ^ 56 = room_for c.loop-at.at c.loop-at.head c.args.octets.now c.loop-at.invariant (omega (arith, c.loop-at-test.true)) c.are_octets.ensures in
    omega (arith, room)

pub overflow_add-head : goal.overflow_add-head
overflow_add-head c =
    let room : c.loop-at.head < 2 ^ 56 = room_for c.loop-at.at c.loop-at.head c.args.octets.now c.loop-at.invariant (omega (arith, c.loop-at-test.true)) c.are_octets.ensures in
    omega (arith, room, c.octet_at.ensures.range)

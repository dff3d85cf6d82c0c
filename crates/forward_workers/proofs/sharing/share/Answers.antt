use Rattle.std.proofs.Common.{◌+◌, ◌∙◌, ap, length, arith}
use Rattle.forward_workers.proofs.Sharings.{numbered_length, shared_by}
use Rattle.forward_workers.proofs.sharing.share.Goals as goal

pub seated-requires : goal.seated-requires
seated-requires g c =
    let front = ap length c.from-passes.ensures.0 in
    let all = ap length c.in-Some.ensures.items in
    let made = ap length c.in-Ok.ensures.passes in
    let count = numbered_length (c.len.result + 1) in
    let workers = ap length c.from.ensures.0 in
    let long = c.len.ensures in
    let stored = c.args.crew.workers.ok.0 in
    omega (arith, front, all, made, count, workers, long, stored)

pub returns : goal.returns
returns g c =
    shared_by g.F.Front.deeds g.D.Door.deeds c.args.turns g.L.ForwarderKey.opening c.args.forwarder (g.W.Words.stream c.args.words) (length c.args.crew.workers.items + 1) c.args.crew.first
    c.share_among.result.0 c.in-Ok-seated.lanes.items c.args.crew.workers.items c.share_among.result.1 c.requires.opening (c.in-Ok-seated.ensures.workers ∙ c.from.ensures.0) c.share_among.ensures

use Rattle.std.proofs.Common.{ap, ◌∙◌}
use Rattle.std.proofs.Math.ListN.{set}
use Rattle.dns_lookup_run.specs.Watched.{sent_under}
use Rattle.resolv_conf.proofs.Changes.{changed}
use Rattle.dns_lookup_run.proofs.watched_edge.set_sent.Goals as goal

pub loop-one-preserved : goal.loop-one-preserved
loop-one-preserved c =
    ap (λ one. set c.loop-one.one-items c.loop-one.one-index one) c.sent_under.ensures
    ∙ changed (sent_under c.args.place c.args.id) _ c.loop-one.one-items c.loop-one.one-index _ c.loop-one-test.true c.loop-one.invariant

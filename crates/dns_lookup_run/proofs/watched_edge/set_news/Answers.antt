use Rattle.std.proofs.Common.{ap, ◌∙◌}
use Rattle.std.proofs.Math.ListN.{set}
use Rattle.dns_lookup_run.specs.Watched.{at_place}
use Rattle.resolv_conf.proofs.Changes.{changed}
use Rattle.dns_lookup_run.proofs.watched_edge.set_news.Goals as goal

pub loop-one-preserved : goal.loop-one-preserved
loop-one-preserved c =
    ap (λ one. set c.loop-one.one-items c.loop-one.one-index one) c.at_place.ensures
    ∙ changed (at_place c.args.brought) _ c.loop-one.one-items c.loop-one.one-index _ c.loop-one-test.true c.loop-one.invariant

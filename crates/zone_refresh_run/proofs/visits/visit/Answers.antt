use Rattle.zone_refresh_run.proofs.Visiting.{visited}
use Rattle.zone_refresh_run.proofs.visits.visit.Goals as goal

pub returns : goal.returns
returns g c =
    visited g.W.World.does c.args.number c.args.zone.now c.step-outs.new.self c.event_in-event.result c.now-moment.result c.step-outs.result c.news_of-news.result
    c.args.world.now c.event_in-event.new.world c.now-moment.new.self c.tell.new.world
    c.event_in-event.ensures.awaited c.step-outs.ensures.zone c.step-outs.ensures.outs c.news_of-news.ensures c.event_in-event.ensures.deeds c.now-moment.ensures c.tell.ensures

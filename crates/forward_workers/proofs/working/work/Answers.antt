use Rattle.std.proofs.Common.{Option, Err, ap, ◌∙◌}
use Rattle.front_peers.specs.declared.event.FrontWhat.{FrontWhat}
use Rattle.forward_run.specs.Front.{after_deeds}
use Rattle.forward_workers.specs.Doors.{taken}
use Rattle.forward_workers.proofs.Workings.{finds_end, makes_row}
use Rattle.forward_workers.proofs.working.work.Goals as goal

pub returns-in_ok-answered-in-Ok-clause-goes_on : goal.returns-in_ok-answered-in-Ok-clause-goes_on
returns-in_ok-answered-in-Ok-clause-goes_on g c =
    makes_row c.args.pass.now c.submit.new.pass _ c.in-Ok.receipt (g.D.Door.deeds c.args.worker.now.door) (g.D.Door.deeds c.take.new.self) (g.D.Door.deeds c.put_out.new.door) c.in_ok-answered-in-Ok.answered
    c.in-Ok.ensures.ok (c.in_ok-what.ensures.deeds ∙ ap (λ (what : Option FrontWhat). after_deeds (taken what) (g.D.Door.deeds c.args.worker.now.door)) c.in-Some.is) c.in_ok-answered-in-Ok.ensures.deeds
    c.in_ok-answered-in-Ok.ensures.count

pub returns-in-Err-Failed-clause-ends : goal.returns-in-Err-Failed-clause-ends
returns-in-Err-Failed-clause-ends g c =
    finds_end c.args.pass.now c.submit.new.pass c.in-Some.what (g.D.Door.deeds c.args.worker.now.door) (g.D.Door.deeds c.take.new.self) (c.in-Err-Failed.ensures.behind (ap Err c.in-Err-Failed.field-0-is))
    (c.in_ok-what.ensures.deeds ∙ ap (λ (what : Option FrontWhat). after_deeds (taken what) (g.D.Door.deeds c.args.worker.now.door)) c.in-Some.is)

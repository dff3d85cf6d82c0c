use Rattle.std.proofs.Common.{rules, sym, ◌∙◌}
use Rattle.client_request.specs.Cx.{view_of}
use Rattle.client_steps.specs.Client.{client_of}
use Rattle.client_steps.specs.Machines.{machine_of}
use Rattle.client_steps.proofs.Fuel.{frames_some, frames_untaken}
use Rattle.client_steps.proofs.calls.take_frames.Goals as goal

pub loop-left-preserved : goal.loop-left-preserved
loop-left-preserved g c =
    let layer = g.L.SendRequest in
    let m = machine_of layer.transport g.L.Response.GetResponse.ticket_of g.L.ServesStale.stale in
    let before = client_of c.loop-left.layer (c.loop-left.asked, view_of g.W.Words.stream c.loop-left.cx) in
    let fired = client_of c.fire_all.new.layer (c.fire_all.new.asked, view_of g.W.Words.stream c.fire_all.new.cx) in
    let after = client_of c.take_frame.new.layer (c.take_frame.new.asked, view_of g.W.Words.stream c.take_frame.new.cx) in
    record {
      lends = search rules;
      same =
          c.loop-left.invariant.same
          ∙ frames_some m c.args.place c.loop-left.left before fired after c.loop-left-test.true (search rules) c.in_ok-fire_all.ensures.holds.ok c.in_ok-take_frame.ensures.holds.ok;
      keeps = search rules;
    }

pub returns-in_err-take_frame : goal.returns-in_err-take_frame
returns-in_err-take_frame g c =
    let layer = g.L.SendRequest in
    let m = machine_of layer.transport g.L.Response.GetResponse.ticket_of g.L.ServesStale.stale in
    let before = client_of c.loop-left.layer (c.loop-left.asked, view_of g.W.Words.stream c.loop-left.cx) in
    let fired = client_of c.fire_all.new.layer (c.fire_all.new.asked, view_of g.W.Words.stream c.fire_all.new.cx) in
    record {
      holds = record {
        lends = search rules;
        ok = search rules;
        numbers = λ is.
            c.loop-left.invariant.same
            ∙ frames_untaken m c.args.place c.loop-left.left before fired c.loop-left-test.true (search rules) c.in_ok-fire_all.ensures.holds.ok (c.in_err-take_frame.ensures.holds.numbers (search rules));
        keeps = search rules;
        refused = search rules;
        failed_only = λ is. sym c.loop-left.invariant.keeps ∙ (sym c.in_ok-fire_all.ensures.holds.keeps ∙ c.in_err-take_frame.ensures.holds.failed_only (search rules));
      };
    }

use Rattle.std.proofs.Common.{rules, sym, ◌∙◌}
use Rattle.client_request.specs.Cx.{view_of}
use Rattle.client_steps.specs.Client.{client_of}
use Rattle.client_steps.specs.Machines.{machine_of}
use Rattle.client_steps.proofs.Fuel.{fires_begin, fires_next, fires_rests, fires_stops, fires_over}
use Rattle.client_steps.proofs.calls.fire_all.Goals as goal

pub loop-count-init : goal.loop-count-init
loop-count-init g c = record {
  lends = search rules;
  same = fires_begin (machine_of g.L.SendRequest.transport g.L.Response.GetResponse.ticket_of g.L.ServesStale.stale) (client_of c.args.layer.now (c.args.asked.now, view_of g.W.Words.stream c.args.cx.now));
  keeps = search rules;
}

pub loop-count-preserved : goal.loop-count-preserved
loop-count-preserved g c =
    let layer = g.L.SendRequest in
    let m = machine_of layer.transport g.L.Response.GetResponse.ticket_of g.L.ServesStale.stale in
    let before = client_of c.loop-count.layer (c.loop-count.asked, view_of g.W.Words.stream c.loop-count.cx) in
    let after = client_of c.fire-in-loop-count.new.layer (c.fire-in-loop-count.new.asked, view_of g.W.Words.stream c.fire-in-loop-count.new.cx) in
    record {
      lends = search rules;
      same =
          c.loop-count.invariant.same
          ∙ fires_next m c.loop-count.count before after c.in-Some.timer c.fire.new.self c.loop-count-test.true (sym c.in-Some.ensures.value) c.fire.ensures.after c.in_ok-fire.ensures.holds.ok;
      keeps = search rules;
    }

pub returns-in_default : goal.returns-in_default
returns-in_default g c =
    let m = machine_of g.L.SendRequest.transport g.L.Response.GetResponse.ticket_of g.L.ServesStale.stale in
    let before = client_of c.loop-count.layer (c.loop-count.asked, view_of g.W.Words.stream c.loop-count.cx) in
    record {
      holds = record {
        lends = search rules;
        ok = c.loop-count.invariant.same ∙ fires_rests m c.loop-count.count before c.fire.new.self c.loop-count-test.true (sym c.in_default.ensures.value) c.fire.ensures.after;
        numbers = search rules;
        keeps = search rules;
        refused = search rules;
        failed_only = search rules;
      };
    }

pub returns-in_err-fire : goal.returns-in_err-fire
returns-in_err-fire g c =
    let m = machine_of g.L.SendRequest.transport g.L.Response.GetResponse.ticket_of g.L.ServesStale.stale in
    let before = client_of c.loop-count.layer (c.loop-count.asked, view_of g.W.Words.stream c.loop-count.cx) in
    record {
      holds = record {
        lends = search rules;
        ok = search rules;
        numbers = λ is.
            c.loop-count.invariant.same ∙ fires_stops m c.loop-count.count before c.in-Some.timer c.fire.new.self c.loop-count-test.true (sym c.in-Some.ensures.value) c.fire.ensures.after (c.in_err-fire.ensures.holds.numbers (search rules));
        keeps = search rules;
        refused = search rules;
        failed_only = search rules;
      };
    }

pub returns : goal.returns
returns g c =
    let m = machine_of g.L.SendRequest.transport g.L.Response.GetResponse.ticket_of g.L.ServesStale.stale in
    let before = client_of c.loop-count.layer (c.loop-count.asked, view_of g.W.Words.stream c.loop-count.cx) in
    record {
      holds = record {
        lends = search rules;
        ok = search rules;
        numbers = λ is. c.loop-count.invariant.same ∙ fires_over m c.loop-count.count before c.loop-count-test.false;
        keeps = search rules;
        refused = search rules;
        failed_only = search rules;
      };
    }

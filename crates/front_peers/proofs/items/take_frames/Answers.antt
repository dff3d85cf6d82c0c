use Rattle.std.proofs.Common.{rules, ◌≡◌, sym, subst, ◌∙◌, Some, true, false}
use Rattle.client_stream.specs.Frames.{first_frame, behind_frame}
use Rattle.front_peers.specs.Items as spec
use Rattle.front_peers.specs.Items.{Pushes}
use Rattle.front_queries.specs.Refusals.{sorted}
use Rattle.front_peers.proofs.Frames.{append_nil, goes_on}
use Rattle.front_peers.proofs.items.take_frames.Goals as goal

pub returns-then-not-branch : goal.returns-then-not-branch
returns-then-not-branch c =
    let frame : first_frame c.loop-left.framer ≡ Some c.in-Some.octets = search rules in
    let off : c.in_ok-push_frame.field-0 ≡ false = search rules in
    let rest : c.next_frame.new.self ≡ behind_frame c.loop-left.framer = search rules in
    let done = goes_on c.loop-left.left c.args.peer c.loop-left.framer c.in-Some.octets c.args.items.now (spec.of_frames c.args.most c.args.peer c.args.framer.now) c.loop-left.items c.push_frame.new.items false (search rules) frame (subst (Pushes c.args.peer (sorted c.in-Some.octets) c.loop-left.items c.push_frame.new.items) off (search rules)) c.loop-left.invariant.items c.loop-left.invariant.left in
    record {
      items = sym (done.0 ∙ append_nil c.push_frame.new.items);
      left = rest ∙ sym done.1;
    }

pub loop-left-preserved : goal.loop-left-preserved
loop-left-preserved c =
    let frame : first_frame c.loop-left.framer ≡ Some c.in-Some.octets = search rules in
    let on : c.in_ok-push_frame.field-0 ≡ true = search rules in
    let rest : c.next_frame.new.self ≡ behind_frame c.loop-left.framer = search rules in
    let done = goes_on c.loop-left.left c.args.peer c.loop-left.framer c.in-Some.octets c.args.items.now (spec.of_frames c.args.most c.args.peer c.args.framer.now) c.loop-left.items c.push_frame.new.items true (search rules) frame (subst (Pushes c.args.peer (sorted c.in-Some.octets) c.loop-left.items c.push_frame.new.items) on (search rules)) c.loop-left.invariant.items c.loop-left.invariant.left in
    record {
      items = rw rest done.0;
      left = rw rest done.1;
    }

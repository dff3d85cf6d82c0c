use Rattle.std.proofs.Common.{rules, Bool, false, Ok, refl, ap, subst, ◌∙◌}
use Rattle.client_request.specs.declared.response.Poll.TheVariants.{Ready}
use Rattle.stream_turns.specs.Turns.{Held}
use Rattle.zone_transfer.specs.Reading.{TakesPart}
use Rattle.zone_transfer.proofs.Boards.{board_left, leads_on, left_is, none_left, open_still, pending_at, ready_at}
use Rattle.zone_transfer.proofs.asked.Asked.take_parts.Goals as goal

pub loop-part-preserved : goal.loop-part-preserved
loop-part-preserved c =
    let i = c.loop-part.invariant in
    let board = c.loop-part.self.transfer.layer.board in
    let left = board_left c.loop-part.self.response.ended c.loop-part.self.response.ticket board c.next_part.new.self.layer.board (ap (λ (h : Held). h.layer.board) c.in-Ready.ensures.taken) i.open_yet i.ticket in
    let stands = ready_at c.loop-part.self.response.ended c.loop-part.self.response.ticket board c.in-Ready.part (Ready c.in-Ready.part) c.in-Ready.ensures.value i.open_yet i.ticket refl in
    let takes = subst (λ (b : Bool). TakesPart c.loop-part.reading.most c.loop-part.reading.state c.in-Ready.part (Ok b) c.take_part.new.reading.state) c.if-branch.false c.in_ok-take_part.ensures.taken in
    record {
      reads = leads_on c.loop-part.reading.most c.args.reading.now.state c.loop-part.reading.state c.take_part.new.reading.state c.args.self.now.transfer.layer.board board c.next_part.new.self.layer.board c.in-Ready.part (Ok false) i.reads stands left takes;
      most = c.in_ok-take_part.ensures.most ∙ i.most;
      rest = left_is c.args.self.now.transfer c.loop-part.self.transfer c.next_part.new.self _ c.in-Ready.ensures.taken i.rest;
      ticket = c.in-Ready.ensures.ticket ∙ i.ticket;
      open_yet = open_still c.loop-part.reading.most c.loop-part.reading.state c.take_part.new.reading.state c.in-Ready.part c.loop-part.self.response.ended c.next_part.new.response.ended takes i.open_yet c.in-Ready.ensures.ended;
      left_are = i.left_are;
    }

pub returns-clause-parts : goal.returns-clause-parts
returns-clause-parts c =
    let i = c.loop-part.invariant in
    let board = c.loop-part.self.transfer.layer.board in
    let left = board_left c.loop-part.self.response.ended c.loop-part.self.response.ticket board c.next_part.new.self.layer.board (ap (λ (h : Held). h.layer.board) c.in_default.ensures.taken) i.open_yet i.ticket in
    none_left c.args.reading.now.state c.loop-part.reading.state c.args.self.now.transfer.layer.board board c.next_part.new.self.layer.board i.reads
    (pending_at c.loop-part.self.response.ended c.loop-part.self.response.ticket board c.next_part.result c.next_part.ensures.value i.open_yet i.ticket (search rules)) left

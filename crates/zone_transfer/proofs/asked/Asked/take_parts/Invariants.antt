-- the messages so far are read, and the board has what is left
use Rattle.std.proofs.Common.{◌≡◌, false, length}
use Rattle.stream_turns.specs.Turns.{with_board}
use Rattle.zone_transfer.specs.Fetching.{ReadsStanding}
use Rattle.zone_transfer.proofs.asked.Asked.take_parts.Given as goal

abbrev pub invariant-loop-part : goal.invariant-loop-part
invariant-loop-part l = record {
  reads : ReadsStanding l.fn.reading.state l.fn.self.transfer.layer.board l.self.transfer.layer.board l.reading.state;
  most : l.reading.most ≡ l.fn.reading.most;
  rest : l.self.transfer ≡ with_board l.self.transfer.layer.board l.fn.self.transfer;
  ticket : l.self.response.ticket ≡ 0;
  open_yet : l.self.response.ended ≡ false;
  left_are : l.self.left ≡ l.fn.self.left;
}

abbrev pub decreases-loop-part : goal.decreases-loop-part
decreases-loop-part l = length l.self.transfer.layer.board

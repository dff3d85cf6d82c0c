-- as many words as are listed have been drawn
use Rattle.std.proofs.Common.{◌≡◌, ◌≤◌, ◌-◌, length}
use Rattle.dns_record.specs.Recording.{drawn, rest_behind}
use Rattle.dns_record.proofs.recorder.drawn.Given as goal

abbrev pub invariant-loop-list : goal.invariant-loop-list
invariant-loop-list g l = record {
  few : length l.list ≤ l.count;
  list : l.list ≡ drawn (length l.list) (g.W.Words.stream l.fn.words);
  rest : g.W.Words.stream l.words ≡ rest_behind (length l.list) (g.W.Words.stream l.fn.words);
}

abbrev pub decreases-loop-list : goal.decreases-loop-list
decreases-loop-list g l = l.count - length l.list

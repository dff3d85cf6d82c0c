use Rattle.std.proofs.Common.{◌≡◌, ◌-◌, ◌++◌, length, take, drop}
use Rattle.resolv_lookup.specs.Order.{drawn, behind}
use Rattle.resolv_lookup.proofs.srv_order.draw.Given as goal

-- The places so far are drawn, and the words that are left draw the others.
abbrev pub invariant-loop-place : goal.invariant-loop-place
invariant-loop-place g l = record {
  items : drawn (g.W.Words.stream l.initial.words) (length l.initial.items) l.initial.items
      ≡ take l.place l.items ++ drawn (g.W.Words.stream l.words) (length l.initial.items - l.place) (drop l.place l.items);
  words : behind (length l.initial.items) (g.W.Words.stream l.initial.words) ≡ behind (length l.initial.items - l.place) (g.W.Words.stream l.words);
}

-- A draw more, and the end, where no place is left.
use Rattle.std.proofs.Common.{ℕ, ◌++◌, length, take, drop, arith, ap, sym, ◌∙◌}
use Rattle.resolv_lookup.specs.Order.{picked_first}
use Rattle.resolv_lookup.proofs.Drawing.{draws_on, drawn_none, put_back, behind_one}
use Rattle.resolv_lookup.proofs.srv_order.draw.Goals as goal

pub loop-place-preserved : goal.loop-place-preserved
loop-place-preserved g c =
    let words : ℕ → ℕ = g.W.Words.stream c.loop-place.words in
    let place : ℕ = c.loop-place.place in
    let back = put_back c.next-word.result place c.loop-place.items c.pick_first.new.items (omega arith) c.pick_first.ensures in
    record {
      items = c.loop-place.invariant.items
          ∙ draws_on words (g.W.Words.stream c.next-word.new.self) (length c.args.items.now) place c.loop-place.items _ c.next-word.ensures.rest c.loop-place-test.true c.loop-place.auto.items
          (back ∙ ap (λ (word : ℕ). take place c.loop-place.items ++ picked_first word (drop place c.loop-place.items)) c.next-word.ensures.word);
      words = c.loop-place.invariant.words ∙ behind_one words (g.W.Words.stream c.next-word.new.self) (length c.args.items.now) place c.next-word.ensures.rest c.loop-place-test.true;
    }

pub returns-clause-items : goal.returns-clause-items
returns-clause-items g c = sym (c.loop-place.invariant.items ∙ drawn_none _ _ c.loop-place.items c.loop-place.place (omega arith) (omega arith))

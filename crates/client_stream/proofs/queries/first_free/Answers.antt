use Rattle.std.proofs.Common.{◌≡◌, ℕ, ◌≤◌, ◌<◌, ◌+◌, Bool, true, false, Option, Some, None, List, length, get_or, sym, ◌∙◌, arith}
use Rattle.std.specs.Option.{is_some}
use Rattle.std.proofs.lemmas.List.{get_or_default}
use Rattle.client_stream.specs.IdTable.{full_front}
use Rattle.client_stream.proofs.IdTable.{front_more, front_ends, front_within}
use Rattle.client_stream.proofs.queries.first_free.Goals as goal

full : {T : Type 0} (k : ℕ) (s : List (Option T)) (x : Option T) (r : Bool) → k ≤ full_front s → k < length s → x ≡ get_or s k x → r ≡ is_some x → r ≡ true → k + 1 ≤ full_front s
full k s None r h i e t is = absurd (cc)
full k s (Some y) r h i e t is = front_more k y s h (get_or_default s k None (Some y) i ∙ sym e)

free : {T : Type 0} (k : ℕ) (s : List (Option T)) (x : Option T) (r : Bool) → k ≤ full_front s → k < length s → x ≡ get_or s k x → r ≡ is_some x → r ≡ false → k ≡ full_front s
free k s None r h i e t is = front_ends k s h (sym e)
free k s (Some y) r h i e t is = absurd (cc)

pub loop-id-preserved : goal.loop-id-preserved
loop-id-preserved g c =
    full c.loop-id.id c.args.slots.now c.index-slots-id.result c.is_some.result c.loop-id.invariant c.loop-id-test.true c.index-slots-id.is c.is_some.ensures c.if-is_some.true

pub returns-else-is_some : goal.returns-else-is_some
returns-else-is_some g c =
    free c.loop-id.id c.args.slots.now c.index-slots-id.result c.is_some.result c.loop-id.invariant c.loop-id-test.true c.index-slots-id.is c.is_some.ensures c.if-is_some.false

pub returns-after-loop-id : goal.returns-after-loop-id
returns-after-loop-id g c =
    let w = front_within c.args.slots.now in
    omega arith

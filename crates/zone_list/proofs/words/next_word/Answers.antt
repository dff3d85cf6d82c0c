use Rattle.std.proofs.Common.{◌<◌, List, ℕ, ◌++◌, length, length-append, ap, arith, Option, Some, None}
use Rattle.std.specs.Borrow.{Bor}
use Rattle.std.specs.Prelude.{OnSome}
use Rattle.std.specs.Str.Iter.{split_whitespace_rest, split_whitespace_steps}
use Rattle.std.specs.declared.str.SplitWhitespace.{SplitWhitespace}
use Rattle.resolv_conf.proofs.Splits.{next_is}
use Rattle.zone_list.proofs.words.next_word.Goals as goal

shorter : (from to : SplitWhitespace) (r : Option (Bor (List ℕ))) → split_whitespace_steps from r to → OnSome r (length (split_whitespace_rest to) < length (split_whitespace_rest from))
shorter from to None h = tt
shorter from to (Some word) (gap, cut, long, white, plain, behind) =
    omega (arith, ap length cut, length-append gap (word.now ++ split_whitespace_rest to), length-append word.now (split_whitespace_rest to))

pub returns-clause-word : goal.returns-clause-word
returns-clause-word c = next_is c.args.words.now c.next.new.self c.next.result c.next.ensures.steps

pub returns-clause-shorter : goal.returns-clause-shorter
returns-clause-shorter c = shorter c.args.words.now c.next.new.self c.next.result c.next.ensures.steps

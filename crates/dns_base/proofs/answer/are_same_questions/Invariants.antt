use Rattle.std.proofs.Common.{◌≡◌, length}
use Rattle.dns_base.specs.Answering.{same_items}
use Rattle.dns_base.proofs.answer.are_same_questions.Given as goal

abbrev pub invariant-items : goal.invariant-items
invariant-items l = same_items l.fn.a l.fn.b ≡ same_items l.a l.b

abbrev pub decreases-items : goal.decreases-items
decreases-items l = length l.a

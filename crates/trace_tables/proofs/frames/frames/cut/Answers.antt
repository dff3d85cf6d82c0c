use Rattle.std.proofs.Common.{◌≡◌, ◌≤◌, ℕ, List, length, sym, subst, ◌∙◌}
use Rattle.trace_tables.proofs.lemmas.frames.Feeding.{take_short}
use Rattle.trace_tables.proofs.frames.frames.cut.Goals as goal

pub returns : goal.returns
returns c = c.in_ok-whole.ensures ∙ sym (take_short c.args.most c.args.octets.now (subst (λ (xs : List ℕ). length xs ≤ c.args.most) c.as_slice.ensures c.if-as_slice-most.false))

use Rattle.std.proofs.Common.{arith, sym, ◌∙◌, ap, Ok}
use Rattle.dns_names.proofs.Drafts.{judged_long, judged_fit, spells}
use Rattle.dns_names.proofs.draft.Draft.finish.Goals as goal

pub returns-then-len-gt-MAX_LABELS : goal.returns-then-len-gt-MAX_LABELS
returns-then-len-gt-MAX_LABELS c = λ labels d. judged_long c.args.self labels d c.if-not-self.false c.if-not-self-2.false (omega arith)

pub from_spelling-requires : goal.from_spelling-requires
from_spelling-requires c =
    let labels = c.requires.0 in (
      labels,
      (judged_fit c.args.self labels c.requires.1 c.if-not-self.false c.if-not-self-2.false (omega arith)).1,
      spells c.args.self labels _ c.requires.1 c.if-not-self-2.false c.in_ok-push.ensures.items,
    )

pub returns : goal.returns
returns c = λ labels d.
    let judged = judged_fit c.args.self labels d c.if-not-self.false c.if-not-self-2.false (omega arith) in
    judged.0 ∙ ap Ok (sym (c.from_spelling.ensures labels judged.1 (spells c.args.self labels _ d c.if-not-self-2.false c.in_ok-push.ensures.items)))

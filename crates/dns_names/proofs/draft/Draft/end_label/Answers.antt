use Rattle.std.proofs.Common.{arith}
use Rattle.std.proofs.lemmas.Grind.{common_steps}
use Rattle.dns_names.proofs.Drafts.{ended}
use Rattle.dns_names.proofs.draft.Draft.end_label.Goals.{then-is_short+in_ok-push_label, else-is_short}
use Rattle.dns_names.proofs.draft.Draft.end_label.Goals as goal

pub returns-clause-whole : goal.returns-clause-whole
returns-clause-whole c = λ labels d. ended c.args.self.now _ labels c.args.self.now.label.items d (grind (arith, common_steps)) (grind (arith, common_steps))
    (λ t. elim c.if-is_short.branch [
      | then-is_short+in_ok-push_label w ↦ grind (arith, common_steps)
      | else-is_short w ↦ grind (arith, common_steps)
    ])

use Rattle.std.proofs.Common.{sym, refl, subst}
use Rattle.dns_base.specs.Sections.{HasNoRecords}
use Rattle.dns_base.specs.Draft.{Draft, counts_in}
use Rattle.dns_base.proofs.Steps.{draft_steps}
use Rattle.client_request.specs.Composed.{asks}
use Rattle.client_request.proofs.NoRecords.{questions_read}
use Rattle.client_request.proofs.append.append_all.Goals as goal

pub copy_questions-requires : goal.copy_questions-requires
copy_questions-requires c =
    let P : Draft → Type 0 = λ d. HasNoRecords (counts_in d) in
    subst P c.requires (subst HasNoRecords (sym (draft_steps.counts.cleared c.args.target.now)) (refl, refl, refl))

pub copy_all_records-requires-clause-read : goal.copy_all_records-requires-clause-read
copy_all_records-requires-clause-read c = questions_read c.args.base.now asks c.args.target.now _ (rw c.question.ensures.all at c.in_ok-copy_questions.ensures.copied)

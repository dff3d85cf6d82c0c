use Rattle.std.proofs.Common.{◌≡◌, length}
use Rattle.dns_names.specs.Name.{Labels}
use Rattle.dns_names.specs.Text.{cut_text}
use Rattle.dns_names.specs.Draft.{IsDraft}
use Rattle.dns_names.proofs.Texts.{resumed}
use Rattle.dns_names.proofs.draft.Draft.read.Given as goal

abbrev pub invariant-loop-rest : goal.invariant-loop-rest
invariant-loop-rest l =
    (whole : Labels) × IsDraft l.draft whole × (cut_text l.text ≡ resumed whole l.draft.label.items (cut_text l.rest))

abbrev pub decreases-loop-rest : goal.decreases-loop-rest
decreases-loop-rest l = length l.rest

-- The octets that are added are those of the question.
use Rattle.std.proofs.Common.{ap, ◌∙◌, ◌++◌}
use Rattle.dns_script.proofs.HostTexts.{question_behind, tail}
use Rattle.dns_script.proofs.hosts.push_question.Goals as goal

pub returns : goal.returns
returns c = c.in_ok-extend_from_slice.ensures.items ∙ ap (λ octets. octets ++ tail) c.in_ok-push_label.ensures ∙ question_behind c.args.octets.now.items c.args.host

-- The question of a query for a host can be read.
use Rattle.std.proofs.Common.{ap, ◌∙◌, Err}
use Rattle.dns_script.proofs.HostTexts.{is_no_refusal}
use Rattle.dns_script.proofs.hosts.host_request.Goals as goal

pub unreachable-requires-in-Err : goal.unreachable-requires-in-Err
unreachable-requires-in-Err c =
    is_no_refusal c.args.host c.in-Ok.message c.requires (c.in-Ok.ensures.found ∙ c.in_ok-octets.ensures ∙ c.in_ok-begun.ensures) (c.in-Err.ensures.misformed.0 (ap (λ e. Err e) c.in-Err.ensures.refused))

use Rattle.std.proofs.Common.{rules}
use Rattle.std.proofs.lemmas.Fn.{filter_same}
use Rattle.dns_lookup_run.specs.Conf.{is_of_family}
use Rattle.dns_lookup_run.proofs.conf.keep_family.Goals as goal

pub returns : goal.returns
returns c = filter_same _ (is_of_family c.args.family) _ (λ x b f' k. search rules) _ _ c.retain.ensures.filtered

use Rattle.std.proofs.Common.{ap}
use Rattle.std.proofs.Output.{has_written_of_eq}
use Rattle.dns_presentation.specs.Certificates.{algorithm_names, algorithm_text}
use Rattle.dns_presentation.proofs.certificates.write_algorithm.Goals as goal

pub returns : goal.returns
unfolding algorithm_names
returns g c p ok = has_written_of_eq _ _ _ _ _ (ap algorithm_text c.from.ensures) (c.write_name.ensures p ok)

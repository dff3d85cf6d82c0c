use Rattle.std.proofs.Common.{◌∙◌, subst}
use Rattle.dns_names.proofs.NextLabel.{from_start}
use Rattle.dns_names.proofs.NameLaws.{labels_legal}
use Rattle.dns_names.specs.Name.{Labels, IsLegal}
use Rattle.dns_names.proofs.name.ParsedName.labels.Goals as goal

pub invariant_of-result : goal.invariant_of-result
invariant_of-result c = (from_start _ _ c.self.invariant).0

pub returns-clause-all : goal.returns-clause-all
returns-clause-all c = (from_start _ _ c.self.invariant).1 ∙ c.self.view_is

pub returns-clause-legal : goal.returns-clause-legal
returns-clause-legal c = let P : Labels → Type 0 = λ n. IsLegal n in subst P c.self.view_is (labels_legal _ _ c.self.invariant)

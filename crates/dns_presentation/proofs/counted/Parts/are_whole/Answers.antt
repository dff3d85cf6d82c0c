use Rattle.std.proofs.Common.{◌∙◌, ap}
use Rattle.std.specs.Prelude.{is_some}
use Rattle.dns_presentation.proofs.CountedTexts.{filled_parts}
use Rattle.dns_presentation.proofs.counted.Parts.are_whole.Goals as goal

pub returns : goal.returns
returns c = c.is_some.ensures ∙ ap is_some c.count_parts.ensures ∙ filled_parts c.args.self.now.kind c.args.self.now.octets.now

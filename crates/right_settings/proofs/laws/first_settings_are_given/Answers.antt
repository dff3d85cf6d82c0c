use Rattle.right_settings.proofs.First.{first_given}
use Rattle.right_settings.proofs.laws.first_settings_are_given.Goals as goal

pub returns : goal.returns
returns c d = first_given d

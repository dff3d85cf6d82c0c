use Rattle.right_settings.proofs.Told.{settings_given}
use Rattle.right_settings.proofs.laws.settings_are_told.Goals as goal

pub returns : goal.returns
returns c = settings_given

use Rattle.message_patching.proofs.Views.{views_are_patched}
use Rattle.message_patching.proofs.laws.views_are_patched.Goals as goal

pub returns : goal.returns
returns c = views_are_patched

use Rattle.client_steps.specs.Whole.{machine}
use Rattle.client_core.proofs.Resting.{rests}
use Rattle.client_core.proofs.client.Client.step.Goals as goal

pub returns-in-Ok-clause-none_due : goal.returns-in-Ok-clause-none_due
returns-in-Ok-clause-none_due g c = rests machine _ _ _ _ c.in-Ok.ensures.holds.ok

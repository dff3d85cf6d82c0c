use Rattle.std.proofs.Common.{ap, ◌∙◌}
use Rattle.client_settings.specs.declared.settings.Settings.{Settings}
use Rattle.client_steps.specs.Whole.{started_with}
use Rattle.front_steps.specs.Steps.{beginning}
use Rattle.forward_run.proofs.serving.forwarder_of.Goals as goal

pub returns-in-Ok : goal.returns-in-Ok
returns-in-Ok c = c.in-Ok.ensures.made ∙ ap (λ (s : Settings). beginning (started_with s.transports s.redundant s.cache c.args.conf.now)) c.settings_of.ensures

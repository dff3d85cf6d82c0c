use Rattle.std.proofs.Common.{subst}
use Rattle.std.specs.Prelude.{IfOk}
use Rattle.client_steps.specs.Whole.{Whole}
use Rattle.front_core.specs.Core.{IsCoreStep}
use Rattle.front_core.proofs.Events.{core_step}
use Rattle.front_core.proofs.within.CoreWithin.step.Goals as goal

pub returns-clause-row : goal.returns-clause-row
returns-clause-row g c =
    let words = g.W.Words.stream c.args.words.now in
    let left = g.W.Words.stream c.step.new.words in
    subst (λ (old : Whole). IfOk c.step.result (λ row. IsCoreStep old words c.args.event row c.step.new.self left)) c.self.view_is
    (core_step c.self.inside.client c.step.new.self words left c.args.event c.step.result c.asked_in_octets.ensures c.in_octets.ensures c.step.ensures.row c.step.ensures.timeout)

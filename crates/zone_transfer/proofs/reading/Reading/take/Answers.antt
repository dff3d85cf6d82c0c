use Rattle.std.proofs.Common.{subst}
use Rattle.std.specs.Prelude.{IfErr}
use Rattle.zone_transfer.specs.Reading.{BoundedReading, IsRefusedAt}
use Rattle.zone_transfer.proofs.Sizes.{refused_at}
use Rattle.zone_transfer.proofs.reading.Reading.take.Goals as goal

pub returns-in-Ok-clause-refused : goal.returns-in-Ok-clause-refused
returns-in-Ok-clause-refused c =
    subst (λ (b : BoundedReading). IfErr c.append.result (IsRefusedAt b.most b.state c.args.message.now)) c.self.view_is
    (refused_at c.self.inside.most (record { interpreter = c.self.inside.interpreter; updates = c.self.inside.updates.items }) c.args.message.now c.interpret.new.self c.in-Ok.more.items c.append.result c.in-Ok.ensures.read
    c.append.ensures.refused)

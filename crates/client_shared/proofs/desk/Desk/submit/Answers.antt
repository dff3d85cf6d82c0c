use Rattle.std.proofs.Common.{sym, ◌∙◌}
use Rattle.client_shared.proofs.Histories.{none_lost}
use Rattle.client_shared.proofs.desk.Desk.submit.Goals as goal

pub returns-then-is_err-clause-lost : goal.returns-then-is_err-clause-lost
returns-then-is_err-clause-lost g c = λ ends. absurd (none_lost c.self.inside.entries.items c.self.inside.lost c.args.self.now c.self.view_is (sym c.is_some.ensures ∙ c.if-is_some.false) ends)

pub returns-in_err-copy-clause-lost : goal.returns-in_err-copy-clause-lost
returns-in_err-copy-clause-lost g c = λ ends. absurd (none_lost c.self.inside.entries.items c.self.inside.lost c.args.self.now c.self.view_is (sym c.is_some.ensures ∙ c.if-is_some.false) ends)

pub returns-in-Ok-clause-lost : goal.returns-in-Ok-clause-lost
returns-in-Ok-clause-lost g c = λ ends. absurd (none_lost c.self.inside.entries.items c.self.inside.lost c.args.self.now c.self.view_is (sym c.is_some.ensures ∙ c.if-is_some.false) ends)

pub returns-in-Err-clause-lost : goal.returns-in-Err-clause-lost
returns-in-Err-clause-lost g c = λ ends. absurd (none_lost c.self.inside.entries.items c.self.inside.lost c.args.self.now c.self.view_is (sym c.is_some.ensures ∙ c.if-is_some.false) ends)

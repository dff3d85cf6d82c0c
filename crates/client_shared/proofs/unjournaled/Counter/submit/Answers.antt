use Rattle.std.proofs.Common.{sym, ◌∙◌}
use Rattle.client_shared.proofs.Counting.{none_counted}
use Rattle.client_shared.proofs.unjournaled.Counter.submit.Goals as goal

pub returns-then-self-clause-lost : goal.returns-then-self-clause-lost
returns-then-self-clause-lost g c = λ ends. absurd (none_counted g.L.ClientKey.table g.L.ClientKey.opening g.W.Words.stream c.self.inside.client c.self.inside.words c.self.inside.count c.self.inside.lost c.self.inside.seat c.args.self.now c.self.invariant c.self.view_is (sym c.is_some.ensures ∙ c.if-is_some.false) ends)

pub returns-in-Ok-clause-lost : goal.returns-in-Ok-clause-lost
returns-in-Ok-clause-lost g c = λ ends. absurd (none_counted g.L.ClientKey.table g.L.ClientKey.opening g.W.Words.stream c.self.inside.client c.self.inside.words c.self.inside.count c.self.inside.lost c.self.inside.seat c.args.self.now c.self.invariant c.self.view_is (sym c.is_some.ensures ∙ c.if-is_some.false) ends)

pub returns-in-Err-clause-lost : goal.returns-in-Err-clause-lost
returns-in-Err-clause-lost g c = λ ends. absurd (none_counted g.L.ClientKey.table g.L.ClientKey.opening g.W.Words.stream c.self.inside.client c.self.inside.words c.self.inside.count c.self.inside.lost c.self.inside.seat c.args.self.now c.self.invariant c.self.view_is (sym c.is_some.ensures ∙ c.if-is_some.false) ends)

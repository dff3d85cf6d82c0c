use Rattle.std.proofs.Common.{sym, subst}
use Rattle.trace_hits.specs.Replies.{Keeps}
use Rattle.trace_hits.proofs.Telling.{stays_as}
use Rattle.trace_hits.proofs.replies.Replies.keep_if.Goals as goal

pub returns-else-not-keeps : goal.returns-else-not-keeps
returns-else-not-keeps c = let a = c.args in subst (λ b. Keeps b a.key.now a.self.now a.self.now) (sym c.if-not-keeps.false) (stays_as a.key.now a.self.now)

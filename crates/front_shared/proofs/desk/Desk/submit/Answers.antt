use Rattle.std.proofs.Common.{sym, ◌∙◌}
use Rattle.front_shared.proofs.Counting.{is_counting, none_ends}
use Rattle.front_shared.proofs.desk.Desk.submit.Goals as goal

pub step_and_tell-result-requires-clause-counting : goal.step_and_tell-result-requires-clause-counting
step_and_tell-result-requires-clause-counting g c =
    let d = c.self.inside in
    is_counting g.L.ForwarderKey.table g.L.ForwarderKey.opening d.forwarder (g.W.Words.stream d.words) d.waiting d.count d.ended d.seat c.self.invariant (sym c.is_some.ensures ∙ c.if-is_some.false)

pub returns-then-self-clause-ended : goal.returns-then-self-clause-ended
returns-then-self-clause-ended g c = λ ends.
    let d = c.self.inside in
    absurd (none_ends g.L.ForwarderKey.table g.L.ForwarderKey.opening d.forwarder (g.W.Words.stream d.words) d.waiting d.count d.ended d.seat c.args.self.now c.self.invariant c.self.view_is (sym c.is_some.ensures ∙ c.if-is_some.false) ends)

pub returns-in-Ok-clause-ended : goal.returns-in-Ok-clause-ended
returns-in-Ok-clause-ended g c = λ ends.
    let d = c.self.inside in
    absurd (none_ends g.L.ForwarderKey.table g.L.ForwarderKey.opening d.forwarder (g.W.Words.stream d.words) d.waiting d.count d.ended d.seat c.args.self.now c.self.invariant c.self.view_is (sym c.is_some.ensures ∙ c.if-is_some.false) ends)

pub returns-in-Err-clause-ended : goal.returns-in-Err-clause-ended
returns-in-Err-clause-ended g c = λ ends.
    let d = c.self.inside in
    absurd (none_ends g.L.ForwarderKey.table g.L.ForwarderKey.opening d.forwarder (g.W.Words.stream d.words) d.waiting d.count d.ended d.seat c.args.self.now c.self.invariant c.self.view_is (sym c.is_some.ensures ∙ c.if-is_some.false) ends)

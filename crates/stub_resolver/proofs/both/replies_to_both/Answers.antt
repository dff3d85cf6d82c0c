use Rattle.std.proofs.Common.{ℕ, subst}
use Rattle.client_loop.specs.Asking.{scene}
use Rattle.client_loop.specs.Both.{AreAnswered}
use Rattle.client_loop.proofs.Turning.{same_error}
use Rattle.stub_resolver.specs.Both.{when_settling, while_both}
use Rattle.stub_resolver.proofs.BothReplying.{of_copies}
use Rattle.stub_resolver.proofs.both.replies_to_both.Goals as goal

pub returns-in-Ok-clause-numbers : goal.returns-in-Ok-clause-numbers
returns-in-Ok-clause-numbers g c = λ is.
    let old = scene c.args.client.now (g.W.Words.stream c.args.words.now) (g.E.Edge.deeds c.args.edge.now) (g.E.Edge.waits c.args.edge.now) (g.E.Edge.polls c.args.edge.now) (g.C.Clock.given c.args.clock.now) in
    let middle = scene c.ask_both.new.client (g.W.Words.stream c.ask_both.new.words) (g.E.Edge.deeds c.ask_both.new.edge) (g.E.Edge.waits c.ask_both.new.edge) (g.E.Edge.polls c.ask_both.new.edge) (g.C.Clock.given c.ask_both.new.clock) in
    when_settling c.in-Ok.replies middle (subst (λ (n : ℕ). AreAnswered n 1000000 c.args.first c.args.second old middle c.in-Ok.replies) c.next_request-number.ensures c.in-Ok.ensures.answered)
    (of_copies c.args.first c.args.second c.in_ok-one.one c.in_ok-other.other c.in-Ok.replies middle
    (scene c.both_settled.new.client (g.W.Words.stream c.both_settled.new.words) (g.E.Edge.deeds c.both_settled.new.edge) (g.E.Edge.waits c.both_settled.new.edge) (g.E.Edge.polls c.both_settled.new.edge) (g.C.Clock.given c.both_settled.new.clock)) c.in_ok-one.ensures c.in_ok-other.ensures
    (c.both_settled.ensures.numbers is))

pub returns-in-Err-clause-numbers : goal.returns-in-Err-clause-numbers
returns-in-Err-clause-numbers g c = λ is. while_both (c.in-Err.ensures.numbers (same_error _ _ is))

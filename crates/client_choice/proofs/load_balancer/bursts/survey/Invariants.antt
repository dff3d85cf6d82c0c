use Rattle.std.proofs.Common.{◌≡◌, ◌-◌, length}
use Rattle.client_choice.specs.Bursts as plain
use Rattle.client_choice.proofs.load_balancer.bursts.survey.Given as goal

abbrev pub invariant-loop-index : goal.invariant-loop-index
invariant-loop-index g l =
    plain.surveys l.now l.index (length l.servers - l.index) l.servers (record { limits = l.limits.items; candidates = l.candidates.items })
    ≡ plain.surveyed l.fn.now l.fn.servers l.fn.limits.items

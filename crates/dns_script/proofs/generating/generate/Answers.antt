-- One more turn was added.
use Rattle.std.proofs.Common.{ap, ◌∙◌}
use Rattle.dns_script.specs.Generated.{with_turn}
use Rattle.dns_script.proofs.Turning.{turn_more}
use Rattle.dns_script.proofs.generating.generate.Goals as goal

pub loop-turn-preserved : goal.loop-turn-preserved
loop-turn-preserved c = c.in_ok-turn.ensures ∙ ap (λ turns. with_turn c.loop-turn.turn turns) c.loop-turn.invariant ∙ turn_more c.loop-turn.turn

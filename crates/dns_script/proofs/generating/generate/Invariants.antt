-- the turns before this one were added
use Rattle.std.proofs.Common.{◌≡◌}
use Rattle.dns_script.proofs.Turning.{before}
use Rattle.dns_script.proofs.generating.generate.Given as goal

abbrev pub invariant-loop-turn : goal.invariant-loop-turn
invariant-loop-turn l = l.turns ≡ before l.turn

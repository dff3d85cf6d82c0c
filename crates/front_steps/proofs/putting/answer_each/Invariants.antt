use Rattle.std.proofs.Common.{◌≡◌, ◌++◌, drop}
use Rattle.front_steps.specs.Waits as spec
use Rattle.front_steps.proofs.putting.answer_each.Given as goal

abbrev pub invariant-loop-asker : goal.invariant-loop-asker
invariant-loop-asker l = record {
  outs : l.fn.outs ++ (spec.answers_each l.reply l.fn.askers l.fn.peers).0 ≡ l.outs ++ (spec.answers_each l.reply (drop l.asker-index l.fn.askers) l.peers).0;
  streams : (spec.answers_each l.reply l.fn.askers l.fn.peers).1 ≡ (spec.answers_each l.reply (drop l.asker-index l.fn.askers) l.peers).1;
}

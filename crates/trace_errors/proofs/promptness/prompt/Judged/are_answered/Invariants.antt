-- those that are left tell what all tell
use Rattle.std.proofs.Common.{◌≡◌, drop}
use Rattle.trace_errors.specs.promptness.Prompt.{are_answered}
use Rattle.trace_errors.proofs.promptness.prompt.Judged.are_answered.Given as goal

abbrev pub invariant-loop-coming : goal.invariant-loop-coming
invariant-loop-coming l = are_answered l.self.conf.now l.self.settings.now l.self.moment l.self.past.now l.self.heard.now l.self.outs.now (drop l.coming-index l.comings)
    ≡ are_answered l.self.conf.now l.self.settings.now l.self.moment l.self.past.now l.self.heard.now l.self.outs.now l.comings

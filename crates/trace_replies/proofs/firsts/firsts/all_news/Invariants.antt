-- what was found and what those are that are left
use Rattle.std.proofs.Common.{◌≡◌, ◌++◌, drop}
use Rattle.trace_replies.specs.firsts.Firsts.{all_news}
use Rattle.trace_replies.proofs.firsts.firsts.all_news.Given as goal

abbrev pub invariant-loop-coming : goal.invariant-loop-coming
invariant-loop-coming l = l.news ++ all_news l.counts l.firsts (drop l.coming-index l.comings) ≡ all_news l.counts l.firsts l.comings

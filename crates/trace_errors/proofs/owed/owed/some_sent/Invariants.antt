-- those that are left tell what all tell
use Rattle.std.proofs.Common.{◌≡◌, drop}
use Rattle.trace_errors.specs.owed.Owed.{some_sent}
use Rattle.trace_errors.proofs.owed.owed.some_sent.Given as goal

abbrev pub invariant-loop-sent : goal.invariant-loop-sent
invariant-loop-sent l = some_sent l.conf l.asked l.request l.id l.now (drop l.sent-index l.sends) ≡ some_sent l.conf l.asked l.request l.id l.now l.sends

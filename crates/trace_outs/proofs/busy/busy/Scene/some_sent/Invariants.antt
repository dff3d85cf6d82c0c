-- those that are left tell what all tell
use Rattle.std.proofs.Common.{◌≡◌, drop}
use Rattle.trace_outs.specs.busy.Busy.{some_sent}
use Rattle.trace_outs.proofs.busy.busy.Scene.some_sent.Given as goal

abbrev pub invariant-loop-send : goal.invariant-loop-send
invariant-loop-send l = some_sent l.self.conf.now l.asked l.request l.id l.now (drop l.send-index l.sends) l.self ≡ some_sent l.self.conf.now l.asked l.request l.id l.now l.sends l.self

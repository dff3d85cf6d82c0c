-- those that are left tell what all tell
use Rattle.std.proofs.Common.{◌≡◌}
use Rattle.trace_errors.specs.owed.Owed.{some_owe}
use Rattle.trace_errors.proofs.owed.owed.Asking.some_owe.Given as goal

abbrev pub invariant-loop-exchange : goal.invariant-loop-exchange
invariant-loop-exchange l = record {
  can_next : (goal.iterator-loop-exchange).can_next l.exchange-iterator;
  is_finite : (goal.iterator-loop-exchange).is_finite l.exchange-iterator;
  same : some_owe l.conf l.self.asked.now l.self.request l.self.what.now l.self.past.now l.self.here.now l.self.sends.now l.exchange-iterator
      ≡ some_owe l.conf l.self.asked.now l.self.request l.self.what.now l.self.past.now l.self.here.now l.self.sends.now l.exchanges;
}

-- what is found, and what is found among those that are left
use Rattle.std.proofs.Common.{◌≡◌, ◌++◌, drop}
use Rattle.trace_points.specs.exchanges.Coming.{found_in, on_send}
use Rattle.trace_points.proofs.exchanges.coming.Arrival.on_sends.Given as goal

abbrev pub invariant-loop-send : goal.invariant-loop-send
invariant-loop-send l = l.found ++ found_in (on_send l.self.conf.now l.self.wanted l.self.past.now l.self.place l.self.number l.self.here.now.books.requests.clock l.message) (drop l.send-index l.sends)
    ≡ l.fn.found ++ found_in (on_send l.self.conf.now l.self.wanted l.self.past.now l.self.place l.self.number l.self.here.now.books.requests.clock l.message) l.sends

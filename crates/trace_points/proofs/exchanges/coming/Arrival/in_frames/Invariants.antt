-- what is found, and what is found in the frames that are left
use Rattle.std.proofs.Common.{◌≡◌, ◌++◌, [], drop}
use Rattle.trace_points.specs.exchanges.Coming.{in_frames}
use Rattle.trace_points.proofs.exchanges.coming.Arrival.in_frames.Given as goal

abbrev pub invariant-loop-frame : goal.invariant-loop-frame
invariant-loop-frame l = l.found ++ in_frames l.self.conf.now l.self.wanted l.self.past.now l.self.here.now l.self.place l.self.number l.seen (drop l.frame-index l.frames)
    ≡ l.fn.found ++ in_frames l.self.conf.now l.self.wanted l.self.past.now l.self.here.now l.self.place l.self.number [] l.frames

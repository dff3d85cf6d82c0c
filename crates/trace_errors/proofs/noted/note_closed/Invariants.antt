-- the outs that are left note what all note
use Rattle.std.proofs.Common.{◌≡◌, drop}
use Rattle.trace_errors.specs.Noted.{note_closed}
use Rattle.trace_errors.proofs.noted.note_closed.Given as goal

abbrev pub invariant-loop-out : goal.invariant-loop-out
invariant-loop-out l = note_closed l.conf l.past l.here (drop l.out-index l.outs) l.noted ≡ note_closed l.conf l.past l.here l.outs l.fn.noted

-- the messages that are left note what all note
use Rattle.std.proofs.Common.{◌≡◌, drop}
use Rattle.trace_errors.specs.Noted.{note_all, silent_of}
use Rattle.trace_errors.proofs.noted.note_silent.Given as goal

abbrev pub invariant-loop-coming : goal.invariant-loop-coming
invariant-loop-coming l = note_all (λ x. x.request) (silent_of l.conf l.past l.here l.heard) (drop l.coming-index l.comings) l.noted ≡ note_all (λ x. x.request) (silent_of l.conf l.past l.here l.heard) l.comings l.fn.noted

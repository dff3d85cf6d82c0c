-- each server before this one has the request
use Rattle.std.proofs.Common.{◌≡◌, ℕ, ◌<◌, true}
use Rattle.trace_errors.specs.owed.Owed.{handed_seen}
use Rattle.trace_errors.proofs.owed.owed.all_have.Given as goal

abbrev pub invariant-loop-server : goal.invariant-loop-server
invariant-loop-server l = (s : ℕ) → s < l.server → handed_seen l.request s l.requests ≡ true

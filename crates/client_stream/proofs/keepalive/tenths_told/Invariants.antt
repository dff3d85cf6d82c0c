use Rattle.std.proofs.Common.{◌≡◌, length}
use Rattle.client_stream.specs.Keepalive.{told_after, tenths_told}
use Rattle.client_stream.proofs.keepalive.tenths_told.Given as goal

abbrev pub invariant-options : goal.invariant-options
invariant-options l = told_after 0 l.rest l.told ≡ tenths_told l.options

abbrev pub decreases-options : goal.decreases-options
decreases-options l = length l.rest

use Rattle.std.proofs.Common.{◌≡◌, None}
use Rattle.client_multi.specs.MultiStream as plain
use Rattle.client_multi.proofs.multi_stream.steps.newest.Given as goal

abbrev pub invariant-loop-place : goal.invariant-loop-place
invariant-loop-place g l = plain.newest g.S.OneStream.machine l.found l.place-iterator ≡ plain.newest g.S.OneStream.machine None l.tables.connections

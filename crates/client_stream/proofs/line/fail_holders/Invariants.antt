use Rattle.std.proofs.Common.{◌≡◌, drop}
use Rattle.client_stream.specs.Plain as plain
use Rattle.client_stream.proofs.line.fail_holders.Given as goal

abbrev pub invariant-loop-holder : goal.invariant-loop-holder
invariant-loop-holder g l = plain.fails_holders l.error (drop l.holder-index l.holders.items) l.board ≡ plain.fails_holders l.error l.holders.items l.fn.board

-- what is left to be fed, behind the frames so far, gives what all gives
use Rattle.std.proofs.Common.{◌≡◌, [], drop}
use Rattle.trace_tables.proofs.lemmas.frames.Feeding.{fed_behind}
use Rattle.trace_tables.proofs.frames.framing.Framing.feed.Given as goal

abbrev pub invariant-loop-octet : goal.invariant-loop-octet
invariant-loop-octet l = fed_behind l.self l.frames (drop l.octet-index l.octets) ≡ fed_behind l.fn.self [] l.octets

use Rattle.std.proofs.Common.{◌≡◌, ◌-◌, ◌≤◌, length, drop}
use Rattle.client_stream.specs.Frames.{behind_frames, left_of}
use Rattle.client_stream.proofs.framer.left_from.Given as goal

abbrev pub invariant-loop : goal.invariant-loop
invariant-loop l = record {
  within : l.at ≤ length l.octets;
  same : behind_frames (length l.octets - l.counter) (drop l.at l.octets) ≡ left_of l.octets;
}

-- What one server's part expects of the row's event.
use Rattle.right_trace.specs.Trace.{Conf}
use Rattle.std.specs.Prelude.{◌≡◌, ℕ, ◌+◌, ◌<◌, ◌≤◌, true, false, Some, length, take}
use Rattle.client_request.specs.declared.event.What.TheVariants.{Bytes, Datagram}
use Rattle.right_trace.specs.Time.{read_timeout, stream_timeout, recv_size}
use Rattle.right_trace.specs.Messages.{Octets, answers, truncated}
use Rattle.right_trace.specs.Frames.{fed, first_with}
use Rattle.proof_right.specs.machine.Streams.{Asker, Conn}
use Rattle.proof_right.specs.machine.Dgrams.{Tryer}
use Rattle.proof_right.specs.machine.Served.{Served}
use Rattle.proof_right.specs.machine.Streams as multi
use Rattle.proof_right.specs.machine.Dgrams as dgrams

-- The event brings this message for request k to place p, in time, and it is not taken yet.
pub data Expects (c : Conf) (u : Served) (p k : ℕ) (m : Octets) : Type 0 where
  ByDatagram : (a : Tryer) (id t : ℕ) (o : Octets) → u.pending ≡ Datagram p o → u.taken ≡ false → u.server.by_dgram.held k ≡ Some a → u.server.by_dgram.at p ≡ Some k → a.stage ≡ dgrams.Sent p id t → u.clock < t + read_timeout c → 12 ≤ length (take (recv_size c) o) → take (recv_size c) o ≡ m → answers a.request id m ≡ true → truncated m ≡ false → Expects c u p k m
  ByOctets : (a : Asker) (id : ℕ) (o : Octets) (x : Conn) → u.pending ≡ Bytes p o → u.taken ≡ false → u.server.by_stream.asks k ≡ Some a → u.clock < a.since + stream_timeout c → a.phase ≡ multi.Holding p id → u.server.by_stream.conns p ≡ Some x → first_with id (fed x.got o).frames ≡ Some m → answers a.request id m ≡ true → Expects c u p k m
  InFrames : (a : Asker) (id : ℕ) (x : Conn) → u.place ≡ p → u.taken ≡ true → u.server.by_stream.asks k ≡ Some a → u.clock < a.since + stream_timeout c → a.phase ≡ multi.Holding p id → u.server.by_stream.conns p ≡ Some x → first_with id u.frames ≡ Some m → answers a.request id m ≡ true → Expects c u p k m

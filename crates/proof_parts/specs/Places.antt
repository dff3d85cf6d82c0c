-- Which places a server's part has: those of its datagrams, its connections, and the one that opens.
use Rattle.std.specs.Prelude.{ℕ, ◌==◌, ◌||◌, Bool, false, Option, Some, None, is_some}
use Rattle.right_trace.specs.Trace.{Conf}
use Rattle.proof_right.specs.machine.Served.{Served, served}
use Rattle.proof_parts.specs.Sharing.{OpensNext}

-- it is this one
abbrev pub is_this : (p : ℕ) → Option ℕ → Bool
is_this p None = false
is_this p (Some q) = q == p

-- A datagram is under way at place p, a connection is open there, or one opens.
abbrev pub has_place : Served → (p : ℕ) → Bool
has_place a p = is_some (a.server.by_dgram.at p) || (is_some (a.server.by_stream.conns p) || is_this p a.server.by_stream.opening)

-- Each move of a server opens no place but the next.
abbrev pub ServersOpenNext : Type 0
ServersOpenNext = (c : Conf) → OpensNext (served c) has_place

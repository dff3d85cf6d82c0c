-- What came of a DNS client in the rows of a forwarder, and how many answers it had.
use Rattle.std.specs.Prelude.{ℕ, ◌+◌, ◌==◌, Bool, false, List, [], ◌∷◌, length, if◌then◌else◌}
use Rattle.front_peers.specs.declared.event.FrontOut.{FrontOut}
use Rattle.front_peers.specs.declared.event.FrontOut.TheVariants as out
use Rattle.front_peers.specs.declared.event.FrontRow.{FrontRow}
use Rattle.front_peers.specs.declared.event.FrontWhat.{FrontWhat}
use Rattle.front_peers.specs.declared.event.FrontWhat.TheVariants.{Datagram, Accepted, Bytes, Gone, Core}
use Rattle.right_trace.specs.Time.{one_if}

-- a datagram of this peer came
abbrev pub is_datagram_of : (peer : ℕ) → FrontWhat → Bool
is_datagram_of peer (Datagram p octets) = p == peer
is_datagram_of peer (Accepted p) = false
is_datagram_of peer (Bytes p octets) = false
is_datagram_of peer (Gone p) = false
is_datagram_of peer (Core what) = false

-- how many octets came by the stream of this peer
abbrev pub octets_by : (peer : ℕ) → FrontWhat → ℕ
octets_by peer (Bytes p octets) = if p == peer then length octets else 0
octets_by peer (Datagram p octets) = 0
octets_by peer (Accepted p) = 0
octets_by peer (Gone p) = 0
octets_by peer (Core what) = 0

-- octets are sent to a peer of which this holds
abbrev pub is_answer : (to : ℕ → Bool) → FrontOut → Bool
is_answer to (out.Answer peer octets) = to peer
is_answer to (out.Core o) = false
is_answer to (out.Drop peer) = false

-- how many answers are among these
abbrev pub answers : (to : ℕ → Bool) → List FrontOut → ℕ
answers to [] = 0
answers to (o ∷ outs) = one_if (is_answer to o) + answers to outs

-- how much rows have of something
abbrev pub in_all : (FrontRow → ℕ) → List FrontRow → ℕ
in_all count [] = 0
in_all count (row ∷ rows) = count row + in_all count rows

abbrev pub datagrams_of : (peer : ℕ) → List FrontRow → ℕ
datagrams_of peer rows = in_all (λ row. one_if (is_datagram_of peer row.event.what)) rows

abbrev pub octets_of : (peer : ℕ) → List FrontRow → ℕ
octets_of peer rows = in_all (λ row. octets_by peer row.event.what) rows

abbrev pub answers_to : (peer : ℕ) → List FrontRow → ℕ
answers_to peer rows = in_all (λ row. answers (λ p. p == peer) row.outs) rows

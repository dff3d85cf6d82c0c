-- The octets that stand at a place of each transport of the client, the same with more behind them, and what is fit to be called.
use Rattle.std.specs.Prelude.{◌≡◌, ℕ, ◌==◌, ◌&&◌, not, false, if◌then◌else◌, List, [], ◌∷◌, ◌++◌, Option, Some, None, option_and_then}
use Rattle.client_request.specs.Numbered.{entry_at}
use Rattle.client_request.specs.Request.{Request}
use Rattle.client_stream.specs.Plain.{has_ended, timer_at}
use Rattle.client_multi.specs.Links.{Link}
use Rattle.client_multi.specs.MultiStream.{MultiStream, Tables}
use Rattle.proof_parts.specs.Lines.{Sorted}

-- ---- one connection

abbrev pub link_octets : (place : ℕ) → Link Request → Option (List ℕ)
link_octets place l = if (l.place == place) && not (has_ended l.line.stage) then Some l.octets else None

abbrev pub longer_link : (place : ℕ) → (piece : List ℕ) → Link Request → Link Request
longer_link place piece l = if (l.place == place) && not (has_ended l.line.stage) then record l { octets = l.octets ++ piece } else l

-- ---- a server by streams

abbrev pub Streams : Type 0
Streams = MultiStream Request (Link Request)

abbrev pub StreamTables : Type 0
StreamTables = Tables Request (Link Request)

abbrev pub stream_octets : (place : ℕ) → Streams → Option (List ℕ)
stream_octets place s = option_and_then (link_octets place) (entry_at place s.tables.connections)

-- the first entry at a place is made longer
abbrev pub longer_entry : (place : ℕ) → (piece : List ℕ) → List (ℕ × Link Request) → List (ℕ × Link Request)
longer_entry place piece [] = []
longer_entry place piece (e ∷ es) = if e.0 == place then (e.0, longer_link place piece e.1) ∷ es else e ∷ longer_entry place piece es

abbrev pub longer_tables : (place : ℕ) → (piece : List ℕ) → StreamTables → StreamTables
longer_tables place piece t = record t { connections = longer_entry place piece t.connections }

abbrev pub longer_stream : (place : ℕ) → (piece : List ℕ) → Streams → Streams
longer_stream place piece s = record s { tables = longer_tables place piece s.tables }

-- The connections are in order of their places, and so are their timers, none of which is still to come; each connection is at its place and has not ended, and the place of its timer is known.
pub record AreFit (t : StreamTables) (timer : ℕ) : Type 0 where
  pub connections : (hi : ℕ) × Sorted 0 hi t.connections
  pub watches : Sorted 0 timer t.watches
  pub placed : (p : ℕ) (l : Link Request) → entry_at p t.connections ≡ Some l → (l.place ≡ p) × (has_ended l.line.stage ≡ false)
  pub watched : (p : ℕ) (l : Link Request) (i : ℕ) → entry_at p t.connections ≡ Some l → timer_at l.line.stage ≡ Some i → entry_at i t.watches ≡ Some p

-- Its tables are fit, and it takes requests on.
pub record IsFitStream (s : Streams) (timer : ℕ) : Type 0 where
  pub tables : AreFit s.tables timer
  pub takes : s.shut ≡ false

-- The streams of peers, in rising order of their numbers.
use Rattle.std.specs.Prelude.{◌≡◌, ◌≢◌, ℕ, Bool, false, List, [], Option, None, Some}
use Rattle.std.specs.Ordering.{nat_cmp}
use Rattle.std.specs.BTreeMap.{insert_entry, is_at}
use Rattle.std.specs.Map.{lookup, remove_entry}
use Rattle.dns_values.specs.Source.{one_more}
use Rattle.socket_places.specs.Told.{IsFresh}
use Rattle.listener_peers.specs.declared.heard.Heard.{Heard}
use Rattle.listener_peers.specs.declared.heard.Heard.TheVariants.{Gone}
use Rattle.listener_peers.specs.Streams.{Peer, IsLook, IsPut}

-- the number of the next peer, and the peers whose streams are open
pub record Peers : Type 0 where
  pub next : ℕ
  pub open_ones : List (ℕ × Peer)

-- the peer of a number
abbrev pub peer_at : ℕ → List (ℕ × Peer) → Option Peer
peer_at number peers = lookup (is_at (nat_cmp number)) peers

-- with a peer more, and without one
abbrev pub and_peer : ℕ → Peer → List (ℕ × Peer) → List (ℕ × Peer)
and_peer number peer peers = insert_entry nat_cmp peers number peer

abbrev pub but_peer : ℕ → List (ℕ × Peer) → List (ℕ × Peer)
but_peer number peers = remove_entry (is_at (nat_cmp number)) peers

-- each peer but that of a number is as it was
abbrev pub TouchesOnly : ℕ → (old new : List (ℕ × Peer)) → Type 0
TouchesOnly number old new = (other : ℕ) → other ≢ number → peer_at other new ≡ peer_at other old

-- A stream that was accepted just now is that of a peer with the next number, with which nothing was done.
pub record IsNewPeer (old new : Peers) : Type 0 where
  pub peer : Peer
  pub nothing_unsent : peer.unsent ≡ []
  pub whole : peer.broken ≡ false
  pub fresh : IsFresh peer.deals
  pub added : new.open_ones ≡ and_peer old.next peer old.open_ones
  pub counted : new.next ≡ one_more old.next

-- Octets are put at the peer of a number, where it is open.
abbrev pub IfPut : List ℕ → (old new : Option Peer) → Type 0
IfPut octets None new = new ≡ None
IfPut octets (Some old) None = ⊥
IfPut octets (Some old) (Some new) = IsPut octets old new

pub record PutsInto (number : ℕ) (octets : List ℕ) (old new : Peers) : Type 0 where
  pub own : IfPut octets (peer_at number old.open_ones) (peer_at number new.open_ones)
  pub others : TouchesOnly number old.open_ones new.open_ones
  pub next_stays : new.next ≡ old.next

-- whether the peer of a number is broken, where it is open
abbrev pub is_broken_at : Option Peer → Bool
is_broken_at None = false
is_broken_at (Some peer) = peer.broken

-- The peer of a number is looked at, where it is open.
abbrev pub IfLook : ℕ → (old new : Option Peer) → Option Heard → Type 0
IfLook number None new told = (new ≡ None) × (told ≡ None)
IfLook number (Some old) None told = ⊥
IfLook number (Some old) (Some new) told = IsLook number old new told

-- A peer that is told to be no more is closed.
abbrev pub kept_peers : ℕ → Option Heard → List (ℕ × Peer) → List (ℕ × Peer)
kept_peers number (Some (Gone peer)) peers = but_peer number peers
kept_peers number told peers = peers

pub record LooksInto (number : ℕ) (old new : Peers) (told : Option Heard) : Type 0 where
  pub between : List (ℕ × Peer)
  pub own : IfLook number (peer_at number old.open_ones) (peer_at number between) told
  pub others : TouchesOnly number old.open_ones between
  pub after : new ≡ record { next = old.next; open_ones = kept_peers number told between }

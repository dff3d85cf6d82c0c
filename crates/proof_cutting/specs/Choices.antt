-- The same of a choice among servers, and of a cache, over any transport.
use Rattle.std.specs.Prelude.{◌≡◌, ◌≢◌, ℕ, List, [], ◌∷◌, map, Option, Some, None, slice_get}
use Rattle.client_cache.specs.Plain.{Cached, with_upstream}
use Rattle.client_choice.specs.Redundant.{Redundant}
use Rattle.client_choice.specs.Servers.{Server}

-- ---- several servers over any transport

abbrev pub octets_or : Option (List ℕ) → Option (List ℕ) → Option (List ℕ)
octets_or None other = other
octets_or (Some o) other = Some o

-- the octets at the first server that has the place
abbrev pub servers_octets : {U : Type 0} → (U → Option (List ℕ)) → List (Server U) → Option (List ℕ)
servers_octets octets [] = None
servers_octets octets (s ∷ more) = octets_or (octets s.upstream) (servers_octets octets more)

abbrev pub longer_servers : {U : Type 0} → (List ℕ → U → U) → (piece : List ℕ) → List (Server U) → List (Server U)
longer_servers {U} longer piece servers = map (λ (s : Server U). record s { upstream = longer piece s.upstream }) servers

-- Each server is fit and has posted nothing that is not taken yet, and one alone has the place.
pub record AreFitServers {U : Type 0} (octets : U → Option (List ℕ)) (IsFit : U → (timer : ℕ) → Type 0) (servers : List (Server U)) (timer : ℕ) : Type 0 where
  pub fit : (i : ℕ) (s : Server U) → slice_get servers i ≡ Some s → IsFit s.upstream timer × (s.posted ≡ [])
  pub alone : (i j : ℕ) (a b : Server U) → slice_get servers i ≡ Some a → slice_get servers j ≡ Some b → octets a.upstream ≢ None → octets b.upstream ≢ None → i ≡ j

module _ {R U P : Type 0} where
  abbrev pub choice_octets : (U → Option (List ℕ)) → Redundant R U P → Option (List ℕ)
  choice_octets octets r = servers_octets octets r.choice.servers

  abbrev pub longer_choice : (List ℕ → U → U) → (piece : List ℕ) → Redundant R U P → Redundant R U P
  longer_choice longer piece r = record r { choice = record r.choice { servers = longer_servers longer piece r.choice.servers } }

  abbrev pub IsFitChoice : (U → Option (List ℕ)) → (U → (timer : ℕ) → Type 0) → Redundant R U P → (timer : ℕ) → Type 0
  IsFitChoice octets IsFit r timer = AreFitServers octets IsFit r.choice.servers timer

-- ---- a cache over any transport

module _ {U : Type 0} where
  abbrev pub cached_octets : (U → Option (List ℕ)) → Cached U → Option (List ℕ)
  cached_octets octets c = octets c.upstream

  abbrev pub longer_cached : (List ℕ → U → U) → (piece : List ℕ) → Cached U → Cached U
  longer_cached longer piece c = with_upstream c (longer piece c.upstream)

  abbrev pub IsFitCached : (U → (timer : ℕ) → Type 0) → Cached U → (timer : ℕ) → Type 0
  IsFitCached IsFit c timer = IsFit c.upstream timer

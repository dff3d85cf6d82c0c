-- The servers of a choice, in the order in which they were added, over any transport below.
--
-- What the transport of a server posts stands on a board of its own. What comes for the request that is handed to it is taken at once; all else
-- stands there until the server hears the next signal.
use Rattle.std.specs.Prelude.{ℕ, Bool, List, [], Option, Some, None, option_map, map, set, slice_get, if◌then◌else◌}
use Rattle.std.specs.List.{list_any}
use Rattle.dns_values.specs.Source.{one_more}
use Rattle.client_request.specs.Board.{Part, posted, part_of, without_part}
use Rattle.client_request.specs.Numbered.{puts, frees, entry_at}
use Rattle.client_request.specs.View.{View, Heard, Transport}
use Rattle.client_request.specs.declared.board.Posted.{Posted}
use Rattle.client_choice.specs.Stats as stats
use Rattle.client_choice.specs.declared.servers.Reply.{Reply}
use Rattle.client_choice.specs.declared.servers.Reply.TheVariants.{Later, Now}

-- A server: its transport, how long it took, how many requests were started there, the request of each ticket there, and what it posted.
pub record Server (U : Type 0) : Type 0 where
  pub upstream : U
  pub stats : stats.Stats
  pub starts : ℕ
  pub waiting : List (ℕ × ℕ)
  pub posted : List Posted

-- a view with another board
abbrev pub onto : List Posted → View → View
onto board v = record v { board = board }

-- outs are for the request of a number
abbrev pub for_request : ℕ → View → View
for_request number v = record v { request = number }

-- whether one of them is
abbrev pub is_any : List Bool → Bool
is_any bs = list_any (λ b. b) bs

module _ {U : Type 0} where
  abbrev pub added : U → Server U
  added upstream = record { upstream = upstream; stats = stats.fresh; starts = 0; waiting = []; posted = [] }

  -- of each server whether its transport gave up, and whether one of them did
  abbrev pub flags : (U → Bool) → List (Server U) → List Bool
  flags has_failed servers = map (λ s. has_failed s.upstream) servers

  abbrev pub holds_failed : (U → Bool) → List (Server U) → Bool
  holds_failed has_failed servers = is_any (flags has_failed servers)

  -- The server answered, or was waited for while another one did.
  abbrev pub judged : (is_giver : Bool) → ℕ → Server U → Server U
  judged is_giver elapsed s = record s { stats = (if is_giver then stats.updated elapsed s.stats else stats.failed elapsed s.stats) }

  abbrev pub judges_found : ℕ → (is_giver : Bool) → ℕ → List (Server U) → Option (Server U) → List (Server U)
  judges_found index is_giver elapsed servers None = servers
  judges_found index is_giver elapsed servers (Some s) = set servers index (judged is_giver elapsed s)

  abbrev pub judges : ℕ → (is_giver : Bool) → ℕ → List (Server U) → List (Server U)
  judges index is_giver elapsed servers = judges_found index is_giver elapsed servers (slice_get servers index)

  -- the request of a ticket at a server, and the servers once it waits there no more
  abbrev pub owner_at : ℕ → Option (Server U) → Option ℕ
  owner_at lower None = None
  owner_at lower (Some s) = entry_at lower s.waiting

  abbrev pub owner : ℕ → ℕ → List (Server U) → Option ℕ
  owner index lower servers = owner_at lower (slice_get servers index)

  abbrev pub disowned_at : ℕ → ℕ → List (Server U) → Option (Server U) → List (Server U)
  disowned_at index lower servers None = servers
  disowned_at index lower servers (Some s) = set servers index (record s { waiting = frees lower s.waiting })

  abbrev pub disowned : ℕ → ℕ → List (Server U) → List (Server U)
  disowned index lower servers = disowned_at index lower servers (slice_get servers index)

module _ {P : Type 0} where
  -- what a request got that was handed on: its result, or what stands for it
  abbrev pub reply : Option Part → P → Reply P
  reply None response = Later response
  reply (Some part) response = Now part

-- the request of a ticket waits, unless it got its result
abbrev pub waits : Option Part → (lower ticket : ℕ) → List (ℕ × ℕ) → List (ℕ × ℕ)
waits None lower ticket waiting = puts lower ticket waiting
waits (Some part) lower ticket waiting = waiting

-- a result is handed on, if there is one
abbrev pub hands_on : Option Part → ℕ → View → View
hands_on None ticket v = v
hands_on (Some part) ticket v = record v { board = posted ticket part v.board }

module _ {R U P : Type 0} (below : Transport R U P) where
  -- A request is started at a server.
  abbrev pub started : ℕ → R → Server U → View → U × View → (Reply P × Server U) × View
  started ticket request s v x = (
    (
      reply (part_of v.ticket x.1.board) (below.response request s.upstream (onto s.posted v)),
      record s {
        upstream = x.0;
        starts = one_more s.starts;
        waiting = waits (part_of v.ticket x.1.board) v.ticket ticket s.waiting;
        posted = without_part v.ticket x.1.board;
      },
    ),
    onto v.board x.1,
  )

  abbrev pub starts : ℕ → R → Server U → View → Option ((Reply P × Server U) × View)
  starts ticket request s v = option_map (started ticket request s v) (below.send request s.upstream (onto s.posted v))

  -- A request goes to a server past the choice: its result comes under the ticket there.
  abbrev pub sent : R → Server U → View → U × View → (P × Server U) × View
  sent request s v x = (
    (
      below.response request s.upstream (onto s.posted v),
      record s { upstream = x.0; posted = without_part v.ticket x.1.board },
    ),
    hands_on (part_of v.ticket x.1.board) v.ticket (onto v.board x.1),
  )

  abbrev pub sends : R → Server U → View → Option ((P × Server U) × View)
  sends request s v = option_map (sent request s v) (below.send request s.upstream (onto s.posted v))

  -- A server hears a signal. What it posted is taken.
  abbrev pub heard : Server U → View → U × View → (List Posted × Server U) × View
  heard s v x = ((x.1.board, record s { upstream = x.0; posted = [] }), onto v.board x.1)

  abbrev pub hears : Heard → Server U → View → Option ((List Posted × Server U) × View)
  hears h s v = option_map (heard s v) (below.step h s.upstream (onto s.posted v))

  -- A request is given up at a server.
  abbrev pub dropped : ℕ → Server U → View → U × View → Server U × View
  dropped lower s v x = (record s { upstream = x.0; waiting = frees lower s.waiting; posted = x.1.board }, onto v.board x.1)

  abbrev pub drops : ℕ → P → Server U → View → Option (Server U × View)
  drops lower response s v = option_map (dropped lower s v) (below.cancel response s.upstream (onto s.posted v))

  -- The same at the server of an index. The others stay as they are.
  abbrev pub starts_found : ℕ → ℕ → R → List (Server U) → View → Option (Server U) → Option ((Option (Reply P) × List (Server U)) × View)
  starts_found index ticket request servers v None = Some ((None, servers), v)
  starts_found index ticket request servers v (Some s) = option_map (λ x. ((Some x.0.0, set servers index x.0.1), x.1)) (starts ticket request s v)

  abbrev pub starts_at : ℕ → ℕ → R → List (Server U) → View → Option ((Option (Reply P) × List (Server U)) × View)
  starts_at index ticket request servers v = starts_found index ticket request servers v (slice_get servers index)

  abbrev pub sends_found : ℕ → R → List (Server U) → View → Option (Server U) → Option ((Option P × List (Server U)) × View)
  sends_found index request servers v None = Some ((None, servers), v)
  sends_found index request servers v (Some s) = option_map (λ x. ((Some x.0.0, set servers index x.0.1), x.1)) (sends request s v)

  abbrev pub sends_at : ℕ → R → List (Server U) → View → Option ((Option P × List (Server U)) × View)
  sends_at index request servers v = sends_found index request servers v (slice_get servers index)

  abbrev pub hears_found : ℕ → Heard → List (Server U) → View → Option (Server U) → Option ((List Posted × List (Server U)) × View)
  hears_found index h servers v None = Some (([], servers), v)
  hears_found index h servers v (Some s) = option_map (λ x. ((x.0.0, set servers index x.0.1), x.1)) (hears h s v)

  abbrev pub hears_at : ℕ → Heard → List (Server U) → View → Option ((List Posted × List (Server U)) × View)
  hears_at index h servers v = hears_found index h servers v (slice_get servers index)

  abbrev pub drops_found : ℕ → ℕ → P → List (Server U) → View → Option (Server U) → Option (List (Server U) × View)
  drops_found index lower response servers v None = Some (servers, v)
  drops_found index lower response servers v (Some s) = option_map (λ x. (set servers index x.0, x.1)) (drops lower response s v)

  abbrev pub drops_at : ℕ → ℕ → P → List (Server U) → View → Option (List (Server U) × View)
  drops_at index lower response servers v = drops_found index lower response servers v (slice_get servers index)

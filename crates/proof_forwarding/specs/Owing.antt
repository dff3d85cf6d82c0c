-- What a forwarder owes DNS clients, and which octets answer it.
use Rattle.std.specs.Prelude.{◌≡◌, ℕ, ◌+◌, ◌<◌, ◌≤◌, ◌==◌, ◌&&◌, ◌||◌, ◌⊎◌, not, is_some, Bool, true, false, List, [], ◌∷◌, ◌++◌, length, Option, Some, None, Result, Ok, if◌then◌else◌}
use Rattle.std.specs.Cmp.Lexicographic.{pointwise}
use Rattle.std.specs.List.{AllByRecursion, filter}
use Rattle.client_request.specs.declared.error.Error.{Error}
use Rattle.client_request.specs.declared.event.Out.{Out}
use Rattle.client_request.specs.declared.event.What.{What}
use Rattle.front_peers.specs.declared.event.FrontOut.{FrontOut}
use Rattle.front_peers.specs.declared.event.FrontOut.TheVariants.{Core, Answer, Drop}
use Rattle.front_peers.specs.declared.items.Asker.{Asker}
use Rattle.front_peers.specs.declared.items.Item.{Item}
use Rattle.front_peers.specs.declared.items.Item.TheVariants as item
use Rattle.front_queries.specs.Answers.{answer_to, framed, turned_away}
use Rattle.front_queries.specs.Query.{Query, key_of}
use Rattle.proof_forwarding.specs.Heard.{Heard, with_kept}

-- A query that was taken at a moment, and is owed an answer.
pub record Owed : Type 0 where
  pub asker : Asker
  pub since : ℕ

-- What is told of peers, the things that came and are not done, and the queries that wait.
pub record Due : Type 0 where
  pub heard : Heard
  pub items : List Item
  pub owing : List Owed

abbrev pub due : Heard → List Item → List Owed → Due
due heard items owing = record { heard = heard; items = items; owing = owing }

-- An answer can be told: the query came by a datagram, or by a stream that is open.
abbrev pub is_reached : Heard → Asker → Bool
is_reached heard asker = not asker.by_stream || is_some (heard.kept asker.peer)

-- it came by a stream, and asks what this one asks
abbrev pub asks_so_by_stream : Asker → Owed → Bool
asks_so_by_stream asker owed = owed.asker.by_stream && pointwise ◌==◌ (key_of owed.asker.query) (key_of asker.query)

-- As many queries wait as may: 10,000, or where one came by a stream 250 that did and ask the same.
abbrev pub AreMany : Asker → List Owed → Type 0
AreMany asker owing = (10000 ≤ length owing) ⊎ ((asker.by_stream ≡ true) × (250 ≤ length (filter (asks_so_by_stream asker) owing)))

-- Octets as they go to a peer: behind their length by a stream (RFC 1035 4.2.2).
abbrev pub as_sent : (by_stream : Bool) → List ℕ → List ℕ
as_sent by_stream octets = if by_stream then framed octets else octets

-- This is one of those that wait, and these are the others, in their order.
pub record IsOneOf (owed : Owed) (owing others : List Owed) : Type 0 where
  pub before : List Owed
  pub behind : List Owed
  pub is_there : owing ≡ before ++ owed ∷ behind
  pub others_are : others ≡ before ++ behind

module _ (replied : Query → Result (List ℕ) Error → Type 0) (own : Query → Option (List ℕ)) where
  -- These octets are made for a query, by its id, spelling and OPT record: of a reply, or of a message of the forwarder's own.
  pub data Answers (asker : Asker) (octets : List ℕ) : Type 0 where
    Replies : (reply : Result (List ℕ) Error) → replied asker.query reply → octets ≡ answer_to asker.query asker.by_stream reply → Answers asker octets
    OfItself : (message : List ℕ) → own asker.query ≡ Some message → octets ≡ answer_to asker.query asker.by_stream (Ok message) → Answers asker octets

  -- One thing is done, for which these are put out.
  pub data Does (a : Due) (outs : List FrontOut) (b : Due) : Type 0 where
    -- The client within puts out something, but for a reply.
    PutsOut : (out : Out) → outs ≡ Core out ∷ [] → b ≡ a → Does a outs b
    -- Something happens to it.
    Happens : (what : What) (items : List Item) → a.items ≡ item.Happens what ∷ items → outs ≡ [] → b ≡ record a { items = items } → Does a outs b
    -- A stream is dropped.
    Drops : (peer : ℕ) (items : List Item) → a.items ≡ item.Drops peer ∷ items → outs ≡ Drop peer ∷ [] → b ≡ record a { heard = with_kept peer None a.heard; items = items } → Does a outs b
    -- A query that is not taken is refused.
    Refuses : (peer : ℕ) (octets : List ℕ) (items : List Item) → a.items ≡ item.Refuses peer octets ∷ items → outs ≡ Answer peer octets ∷ [] → b ≡ record a { items = items } → Does a outs b
    -- One that is taken waits.
    Takes : (asker : Asker) (items : List Item) → a.items ≡ item.Asks asker ∷ items → outs ≡ [] → b ≡ record a { items = items; owing = a.owing ++ record { asker = asker; since = a.heard.now } ∷ [] } → Does a outs b
    -- Or it is turned away, where as many wait as may.
    TurnsAway : (asker : Asker) (items : List Item) → a.items ≡ item.Asks asker ∷ items → AreMany asker a.owing
        → outs ≡ Answer asker.peer (as_sent asker.by_stream (turned_away asker.query)) ∷ [] → b ≡ record a { items = items } → Does a outs b
    -- One that waits is answered.
    IsAnswered : (owed : Owed) (octets : List ℕ) (owing : List Owed) → IsOneOf owed a.owing owing → is_reached a.heard owed.asker ≡ true → Answers owed.asker octets
        → outs ≡ Answer owed.asker.peer octets ∷ [] → b ≡ record a { owing = owing } → Does a outs b
    -- Or it has its reply once its stream is gone.
    IsLost : (owed : Owed) (reply : Result (List ℕ) Error) (owing : List Owed) → IsOneOf owed a.owing owing → is_reached a.heard owed.asker ≡ false → replied owed.asker.query reply
        → outs ≡ [] → b ≡ record a { owing = owing } → Does a outs b

  -- Things are done one behind another, and all this is put out.
  pub data Pays : (a : Due) → (outs : List FrontOut) → (b : Due) → Type 0 where
    rests : (a b : Due) (outs : List FrontOut) → a ≡ b → outs ≡ [] → Pays a outs b
    goes_on : (a b c : Due) (now later outs : List FrontOut) → Does a now b → Pays b later c → outs ≡ now ++ later → Pays a outs c

-- a query that was taken less than the timeout ago
abbrev pub IsYoung : (timeout now : ℕ) → Owed → Type 0
IsYoung timeout now owed = now < owed.since + timeout

abbrev pub AreYoung : (timeout now : ℕ) → List Owed → Type 0
AreYoung timeout now owing = AllByRecursion (IsYoung timeout now) owing

-- What the queries of one DNS client change for all others.
use Rattle.std.specs.Prelude.{◌≡◌, ℕ, List, [], ◌∷◌}
use Rattle.client_request.specs.declared.event.Row.{Row}
use Rattle.client_settings.specs.Settings.{CacheSettings, RedundantSettings}
use Rattle.client_settings.specs.declared.settings.Transports.{Transports}
use Rattle.client_steps.specs.Whole.{Whole, started_with}
use Rattle.front_core.specs.Forwarded.{Forwards}
use Rattle.front_peers.specs.declared.event.FrontEvent.{FrontEvent}
use Rattle.front_peers.specs.declared.event.FrontOut.{FrontOut}
use Rattle.front_peers.specs.declared.event.FrontOut.TheVariants.{Answer, Core, Drop}
use Rattle.front_peers.specs.declared.event.FrontRow.{FrontRow}
use Rattle.front_peers.specs.declared.event.FrontWhat.TheVariants.{Datagram}
use Rattle.front_queries.specs.Query.{Query, key_of}
use Rattle.front_queries.specs.Refusals.{sorted}
use Rattle.front_queries.specs.Requests.{request_of}
use Rattle.front_queries.specs.declared.sorting.Sorted.TheVariants.{Taken}
use Rattle.front_steps.specs.Steps.{Forwarding, beginning}
use Rattle.dns_base.specs.Holding.{IsAskable}
use Rattle.resolv_conf.specs.declared.conf.ResolvConf.{ResolvConf}
use Rattle.right_trace.specs.Keys as keys

-- One request is made of both, and they have one key: queries of one id, question, RD, AD, CD and DO, whatever else they have, as the size and the options of an OPT record, whether there is one where DO is clear, and other flags.
pub record AreAlike (p q : Query) : Type 0 where
  pub request : request_of p ≡ request_of q
  pub key : key_of p ≡ key_of q

-- These are the same event, or datagrams of this peer that came at one moment and are taken as queries that are alike.
pub data IsEventAlike (peer : ℕ) (a b : FrontEvent) : Type 0 where
  AreSame : a ≡ b → IsEventAlike peer a b
  AreOfPeer : (octets others : List ℕ) (p q : Query) → a.moment ≡ b.moment → a.what ≡ Datagram peer octets → b.what ≡ Datagram peer others
      → sorted octets ≡ Taken p → sorted others ≡ Taken q → AreAlike p q → IsEventAlike peer a b

-- The same is put out, but for the octets of answers to this peer.
abbrev pub AreOutsAlike : (peer : ℕ) → List FrontOut → List FrontOut → Type 0
AreOutsAlike peer [] [] = Unit {0}
AreOutsAlike peer (Core o ∷ a) (Core u ∷ b) = (o ≡ u) × AreOutsAlike peer a b
AreOutsAlike peer (Drop p ∷ a) (Drop q ∷ b) = (p ≡ q) × AreOutsAlike peer a b
AreOutsAlike peer (Answer p octets ∷ a) (Answer q others ∷ b) = (p ≡ q) × ((p ≡ peer → ⊥) → octets ≡ others) × AreOutsAlike peer a b
AreOutsAlike peer _ _ = ⊥

-- so it is in these rows, one by one
abbrev pub AreEventsAlike : (peer : ℕ) → List FrontRow → List FrontRow → Type 0
AreEventsAlike peer [] [] = Unit {0}
AreEventsAlike peer (row ∷ a) (other ∷ b) = IsEventAlike peer row.event other.event × AreEventsAlike peer a b
AreEventsAlike peer _ _ = ⊥

abbrev pub AreAllOutsAlike : (peer : ℕ) → List FrontRow → List FrontRow → Type 0
AreAllOutsAlike peer [] [] = Unit {0}
AreAllOutsAlike peer (row ∷ a) (other ∷ b) = AreOutsAlike peer row.outs other.outs × AreAllOutsAlike peer a b
AreAllOutsAlike peer _ _ = ⊥

-- Whatever else a peer's queries have: the client within does the same, and each other peer gets the same octets in the same rows.
abbrev pub PeersAreApart : Type 0
PeersAreApart = (peer : ℕ) (given : Transports) (redundant : RedundantSettings) (cache : CacheSettings) (conf : ResolvConf) (words : ℕ → ℕ)
    (rows others : List FrontRow) (trace same : List Row) (last end : Forwarding Whole) (left rest : ℕ → ℕ)
    → Forwards (beginning (started_with given redundant cache conf)) words rows trace last left → Forwards (beginning (started_with given redundant cache conf)) words others same end rest
    → AreEventsAlike peer rows others → (trace ≡ same) × AreAllOutsAlike peer rows others

-- Two queries with one key, whatever their ids, spellings, records and options: their requests have one key, and so what serves one of them may serve the other.
abbrev pub EqualQueriesAskTheSame : Type 0
EqualQueriesAskTheSame = (p q : Query) → IsAskable p.asked → IsAskable q.asked → key_of p ≡ key_of q → keys.key_of (request_of p) ≡ keys.key_of (request_of q)

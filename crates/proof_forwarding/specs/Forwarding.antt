-- What a forwarder over the project's client does for those who ask it, of traces alone.
use Rattle.std.specs.Prelude.{ℕ, ◌≤◌, List, [], ◌∷◌, Option, None}
use Rattle.client_request.specs.declared.event.Row.{Row}
use Rattle.client_settings.specs.Settings.{CacheSettings, RedundantSettings, seconds}
use Rattle.client_settings.specs.declared.settings.Transports.{Transports}
use Rattle.client_steps.specs.Headline.{conf_with, settings_of}
use Rattle.client_steps.specs.Whole.{Whole, started_with}
use Rattle.front_core.specs.Forwarded.{Forwards}
use Rattle.front_peers.specs.declared.event.FrontRow.{FrontRow}
use Rattle.front_queries.specs.Query.{Query}
use Rattle.front_steps.specs.Steps.{Forwarding, beginning}
use Rattle.proof_client.specs.Above.{AreWords}
use Rattle.proof_forwarding.specs.Age.{AreAged}
use Rattle.proof_forwarding.specs.Serving.{ServesAll}
use Rattle.resolv_conf.specs.declared.conf.ResolvConf.{ResolvConf}
use Rattle.right_settings.specs.Given.{AreGiven}
use Rattle.right_trace.specs.Trace as trace

-- the forwarder answers no query by itself
abbrev pub by_itself : Query → Option (List ℕ)
by_itself query = None

-- Whatever comes of peers and of servers: each answer of a forwarder pays one thing that it owes to that very peer, a query or its refusal, and nothing is owed for as long as the timeout.
abbrev pub EveryQueryIsServed : Type 0
EveryQueryIsServed = (t : trace.Transports) (given : Transports) (redundant : RedundantSettings) (cache : CacheSettings) (conf : ResolvConf) (words : ℕ → ℕ) (rows : List FrontRow) (made : List Row) (last : Forwarding Whole) (left : ℕ → ℕ)
    → AreGiven (conf_with t conf) given → Forwards (beginning (started_with given redundant cache conf)) words rows made last left → cache.max_validity ≤ seconds 6048000 → AreWords words
    → ServesAll conf.options.timeout by_itself rows (made ∷ [])

-- The client within a forwarder gives no reply that is older.
abbrev pub NoAnswerIsOlder : Type 0
NoAnswerIsOlder = (t : trace.Transports) (given : Transports) (redundant : RedundantSettings) (cache : CacheSettings) (conf : ResolvConf) (words : ℕ → ℕ) (rows : List FrontRow) (made : List Row) (last : Forwarding Whole) (left : ℕ → ℕ)
    → AreGiven (conf_with t conf) given → Forwards (beginning (started_with given redundant cache conf)) words rows made last left → cache.max_validity ≤ seconds 6048000 → AreWords words
    → AreAged (conf_with t conf) (settings_of redundant cache) [] made

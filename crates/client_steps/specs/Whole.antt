-- The whole plain client: a cache over a choice among the servers of a configuration, each by datagrams and streams or by streams alone.
use Rattle.std.specs.Prelude.{ℕ, ◌+◌, Bool, true, false, ◌||◌, List, [], ◌∷◌, length, Option}
use Rattle.client_request.specs.Request.{Request, is_dnssec_ok}
use Rattle.client_request.specs.Requests.{Requests, for_one}
use Rattle.client_request.specs.Timers.{TimerList}
use Rattle.client_request.specs.declared.board.Posted.{Posted}
use Rattle.client_request.specs.declared.event.Event.{Event}
use Rattle.client_request.specs.declared.event.Row.{Row}
use Rattle.client_cache.specs.Plain as caching
use Rattle.client_cache.specs.Plain.{Cached, Reading, read, with_upstream}
use Rattle.client_choice.specs.Choice.{with_server}
use Rattle.client_choice.specs.Redundant as choosing
use Rattle.client_choice.specs.Redundant.{Redundant}
use Rattle.client_multi.specs.DgramStream as dgram_stream
use Rattle.client_multi.specs.MultiStream as multi_stream
use Rattle.client_request.specs.View.{Transport as Plain}
use Rattle.client_settings.specs.Client.{default_transports}
use Rattle.client_settings.specs.Settings.{CacheSettings, RedundantSettings}
use Rattle.client_settings.specs.declared.settings.Transports.{Transports}
use Rattle.client_steps.specs.Client as plain
use Rattle.client_steps.specs.Client.{Machine, Asked, nothing_asked, plain_rows}
use Rattle.client_steps.specs.Machines.{machine_of}
use Rattle.client_steps.specs.Upstream as upstream
use Rattle.client_steps.specs.declared.upstream.Handed.{Handed}
use Rattle.client_steps.specs.declared.upstream.Upstream.{Upstream}
use Rattle.client_steps.specs.declared.upstream.Upstream.TheVariants.{Stream, DgramStream}
use Rattle.resolv_conf.specs.declared.conf.ResolvConf.{ResolvConf}
use Rattle.resolv_conf.specs.declared.options.ResolvOptions.{ResolvOptions}
use Rattle.resolv_conf.specs.declared.server.ServerConf.{ServerConf}
use Rattle.resolv_conf.specs.declared.server.Transport.{Transport}
use Rattle.resolv_conf.specs.declared.server.Transport.TheVariants.{UdpTcp, Tcp}

-- the choice among servers, and the cache over it
abbrev pub Servers : Type 0
Servers = Redundant Request (Upstream Request) Handed

abbrev pub Layer : Type 0
Layer = Cached Servers

abbrev pub Response : Type 0
Response = caching.Response choosing.Asked

abbrev pub requests : Requests Request
requests = for_one

abbrev pub choice : Plain Request Servers choosing.Asked
choice = choosing.transport (upstream.transport for_one)

-- what the cache reads of a request
abbrev pub reading : Reading Request
reading = read for_one (λ r. r.header) is_dnssec_ok

abbrev pub machine : Machine Layer Response
machine = machine_of (caching.transport reading (λ r. r.ticket) choice) (λ r. r.ticket) (caching.stale (λ r. r.ticket))

-- The client between two rows: its timeout is in microseconds. It has `count` servers; those that are added are asked by streams alone where `use_vc` says so, with these settings of transports.
pub record Whole : Type 0 where
  pub use_vc : Bool
  pub transports : Transports
  pub count : ℕ
  pub layer : Layer
  pub asked : Asked Response
  pub timeout : ℕ
  pub now : ℕ
  pub board : List Posted
  pub timers : TimerList
  pub ticket : ℕ
  pub place : ℕ
  pub failed : Bool

abbrev pub Client : Type 0
Client = plain.Client Layer Response

-- the client as it begins a row, with the words that come
abbrev pub client_with : (ℕ → ℕ) → Whole → Client
client_with words s = record {
  layer = s.layer;
  asked = s.asked;
  view = record {
    now = s.now;
    words = words;
    outs = [];
    board = s.board;
    timers = s.timers;
    ticket = s.ticket;
    place = s.place;
    request = 0;
    more = false;
  };
}

-- whether a server is asked by streams alone: it says so, or `options use-vc`
abbrev pub is_tcp : Transport → Bool
is_tcp UdpTcp = false
is_tcp Tcp = true

abbrev pub by_streams_alone : (use_vc : Bool) → ServerConf → Bool
by_streams_alone use_vc server = use_vc || is_tcp server.transport

abbrev pub asks_by_streams : ResolvOptions → ServerConf → Bool
asks_by_streams options server = by_streams_alone options.use_vc server

-- the settings of a server by datagrams and streams
abbrev pub both_settings : Transports → dgram_stream.Settings
both_settings t = record { dgram = t.dgram; stream = t.multi_stream }

-- a server by its number
abbrev pub upstream_at : Transports → ℕ → (by_streams : Bool) → Upstream Request
upstream_at t number true = Stream (multi_stream.started number t.multi_stream)
upstream_at t number false = DgramStream (dgram_stream.started number (both_settings t))

-- with a server of this number
abbrev pub and_server : Transports → (number : ℕ) → (by_streams : Bool) → Servers → Servers
and_server t number by_streams r = record r { choice = with_server (upstream_at t number by_streams) r.choice }

-- servers are added to a choice in order, numbered from n on
abbrev pub with_servers : Transports → (n : ℕ) → ResolvOptions → List ServerConf → Servers → Servers
with_servers t n options [] r = r
with_servers t n options (s ∷ ss) r = with_servers t (n + 1) options ss (and_server t n (asks_by_streams options s) r)

-- a choice among the servers of a configuration
abbrev pub servers_of : Transports → RedundantSettings → ResolvOptions → List ServerConf → Servers
servers_of t redundant options servers = with_servers t 0 options servers (choosing.started redundant)

abbrev pub started_with : Transports → RedundantSettings → CacheSettings → ResolvConf → Whole
started_with t redundant cache conf = record {
  use_vc = conf.options.use_vc;
  transports = t;
  count = length conf.servers;
  layer = caching.started cache (servers_of t redundant conf.options conf.servers);
  asked = nothing_asked;
  timeout = conf.options.timeout;
  now = 0;
  board = [];
  timers = record { next = 0; set = [] };
  ticket = 0;
  place = 0;
  failed = false;
}

-- the same with the default settings of transports
abbrev pub started : RedundantSettings → CacheSettings → ResolvConf → Whole
started = started_with default_transports

-- a client with one more server, which has the next number
abbrev pub with_one_more : ServerConf → Whole → Whole
with_one_more server s = record s { count = s.count + 1; layer = with_upstream s.layer (and_server s.transports s.count (by_streams_alone s.use_vc server) s.layer.upstream) }

-- what one event makes of it: a row, and the client as it begins the next; none where a number would pass 64 bits
abbrev pub plain_step : (ℕ → ℕ) → Event → Whole → Option (Row × Client)
plain_step words e s = plain.row_step machine s.timeout e (client_with words s)

-- The plain trace of some events.
abbrev pub plain_trace_with : Transports → RedundantSettings → CacheSettings → ResolvConf → (ℕ → ℕ) → List Event → Option (List Row)
plain_trace_with t redundant cache conf words events = plain_rows machine conf.options.timeout events (client_with words (started_with t redundant cache conf))

-- the same with the default settings of transports
abbrev pub plain_trace : RedundantSettings → CacheSettings → ResolvConf → (ℕ → ℕ) → List Event → Option (List Row)
plain_trace = plain_trace_with default_transports

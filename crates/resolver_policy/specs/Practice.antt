-- What a client is given in practice.
use Rattle.std.specs.Prelude.{ℕ, ◌*◌, ◌/◌, ◌^◌, zero, suc, Option, None, Some, true, List, [], ◌++◌, length, take, drop, min, max, if◌then◌else◌}
use Rattle.client_request.specs.Words.{rest_of}
use Rattle.std.specs.Ordering.{nat_cmp}
use Rattle.client_request.specs.Limits.{limited}
use Rattle.client_settings.specs.Dgram as dgram
use Rattle.client_settings.specs.MultiStream.{over_stream}
use Rattle.client_settings.specs.Settings.{RedundantSettings}
use Rattle.client_settings.specs.Stream as stream
use Rattle.client_settings.specs.declared.settings.Transports.{Transports}
use Rattle.resolv_conf.specs.Conf.{default_options}
use Rattle.resolv_conf.specs.declared.conf.ResolvConf.{ResolvConf}
use Rattle.resolv_conf.specs.declared.options.ResolvOptions.{ResolvOptions}
use Rattle.resolv_conf.specs.declared.server.ServerConf.{ServerConf}

-- an error of a transport, REFUSED and SERVFAIL of one server wait for what the others say
abbrev pub practical_choice : RedundantSettings
practical_choice = record { defer_transport_error = true; defer_refused = true; defer_servfail = true }

-- the options of a configuration that says none: a second for a round, and three of them
abbrev pub practical_options : ResolvOptions
practical_options = record default_options { timeout = 1000000; attempts = 3 }

-- how often each server is named: as `attempts` says, from 1 to 5
abbrev pub rounds_of : ResolvOptions → ℕ
rounds_of options = max 1 (min 5 options.attempts)

-- how long each round may take, in microseconds: as `timeout` says, from a second to half a minute
abbrev pub time_of_round : ResolvOptions → ℕ
time_of_round options = max 1000000 (min 30000000 options.timeout)

-- all servers, once in each round
abbrev pub in_rounds : ℕ → List ServerConf → List ServerConf
in_rounds zero servers = []
in_rounds (suc n) servers = in_rounds n servers ++ servers

-- the servers from a place on, and then those before it
abbrev pub from_place : ℕ → List ServerConf → List ServerConf
from_place place servers = drop place servers ++ take place servers

-- one of so many places, which a word of 64 bits says
abbrev pub place_drawn : ℕ → ℕ → ℕ
place_drawn count word = word * count / 2 ^ 64

-- where the first round begins: at a drawn server, where they take turns
abbrev pub first_place : (words : ℕ → ℕ) → ResolvConf → ℕ
first_place words conf = if conf.options.rotate then place_drawn (length conf.servers) (words 0) else 0

-- the words that are left
abbrev pub words_left : (words : ℕ → ℕ) → ResolvConf → ℕ → ℕ
words_left words conf = if conf.options.rotate then rest_of words else words

-- each server in each round, and the deadline is as long as all rounds
abbrev pub practical : (words : ℕ → ℕ) → ResolvConf → ResolvConf
practical words conf = record {
  servers = in_rounds (rounds_of conf.options) (from_place (first_place words conf) conf.servers);
  options = record conf.options { timeout = time_of_round conf.options * rounds_of conf.options };
}

-- how long a round may take of a configuration that is given so, in whole thousandths of a second, which scripts tell: ten minutes at most
abbrev pub round_time : ResolvOptions → ℕ
round_time options = min 600000 (options.timeout / rounds_of options / 1000) * 1000

-- How servers are asked of a configuration that is given so: none is asked again by a transport, since the rounds ask again; an answer by datagram counts as long as the
-- request may take, and a stream waits for one as long as a round.
abbrev pub practical_transports : ResolvConf → Transports
practical_transports conf = record {
  dgram = record dgram.default_settings { max_parallel = 1000; max_retries = 0; read_timeout = limited nat_cmp 1000 60000000 conf.options.timeout };
  multi_stream = over_stream (record stream.default_settings {
    response_timeout = limited nat_cmp 1000 600000000 (round_time conf.options);
    streaming_response_timeout = limited nat_cmp 1000 600000000 (round_time conf.options);
  });
}

-- a payload size is announced, and at least so many octets of an answer are read; or none is announced
abbrev pub announcing : Option ℕ → Transports → Transports
announcing None t = record t { dgram = record t.dgram { udp_payload_size = None } }
announcing (Some size) t = record t { dgram = record t.dgram { udp_payload_size = Some size; recv_size = max size (t.dgram).recv_size } }

-- so many places at a server at most
abbrev pub with_places : ℕ → Transports → Transports
with_places n t = record t { dgram = record t.dgram { max_parallel = limited nat_cmp 1 1000 n } }

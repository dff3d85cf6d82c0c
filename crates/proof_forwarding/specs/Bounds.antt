-- How many streams of DNS clients a forwarder has.
use Rattle.std.specs.Prelude.{ℕ, ◌≤◌, List, length}
use Rattle.client_request.specs.declared.event.Row.{Row}
use Rattle.client_settings.specs.Settings.{CacheSettings, RedundantSettings}
use Rattle.client_settings.specs.declared.settings.Transports.{Transports}
use Rattle.client_steps.specs.Whole.{Whole, started_with}
use Rattle.front_core.specs.Forwarded.{Forwards}
use Rattle.front_peers.specs.declared.event.FrontRow.{FrontRow}
use Rattle.front_steps.specs.Steps.{Forwarding, beginning}
use Rattle.resolv_conf.specs.declared.conf.ResolvConf.{ResolvConf}

-- Whatever comes, behind each event at most 100 are open.
abbrev pub StreamsAreFew : Type 0
StreamsAreFew = (given : Transports) (redundant : RedundantSettings) (cache : CacheSettings) (conf : ResolvConf) (words : ℕ → ℕ) (rows : List FrontRow) (trace : List Row) (last : Forwarding Whole) (left : ℕ → ℕ)
    → Forwards (beginning (started_with given redundant cache conf)) words rows trace last left → length last.desk.streams.streams ≤ 100

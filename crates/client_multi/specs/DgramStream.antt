-- One server by datagrams and streams: its settings, and the machine over that of its datagrams and that of its streams.
use Rattle.std.specs.Prelude.{ℕ}
use Rattle.client_dgram.specs.Plain as dgram
use Rattle.client_settings.specs.Dgram as dgram_settings
use Rattle.client_stream.specs.Plain as stream
use Rattle.client_multi.specs.Fallback as fallback
use Rattle.client_multi.specs.Links.{Link}
use Rattle.client_multi.specs.MultiStream as multi_stream
use Rattle.client_settings.specs.MultiStream as stream_settings

pub record Settings : Type 0 where
  pub dgram : dgram_settings.Settings
  pub stream : stream_settings.Settings

abbrev pub default_settings : Settings
default_settings = record { dgram = dgram_settings.default_settings; stream = stream_settings.default_settings }

abbrev pub with_dgram : Settings → dgram_settings.Settings → Settings
with_dgram s dgram = record s { dgram = dgram }

abbrev pub with_stream : Settings → stream_settings.Settings → Settings
with_stream s stream = record s { stream = stream }

abbrev pub DgramStream : Type 0 → Type 0
DgramStream R = fallback.Fallback R (dgram.Dgram R) (multi_stream.MultiStream R (Link R)) dgram.Asked stream.Asked

abbrev pub started : {R : Type 0} → ℕ → Settings → DgramStream R
started server settings = fallback.started server (dgram.started server settings.dgram) (multi_stream.started server settings.stream)

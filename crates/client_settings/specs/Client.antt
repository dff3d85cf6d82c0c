-- All that a client may be set to.
use Rattle.client_settings.specs.Dgram as dgram
use Rattle.client_settings.specs.MultiStream as multi_stream
use Rattle.client_settings.specs.Settings.{default_cache, default_redundant}
use Rattle.client_settings.specs.declared.settings.Settings.{Settings}
use Rattle.client_settings.specs.declared.settings.Transports.{Transports}

-- each transport as by default
abbrev pub default_transports : Transports
default_transports = record { dgram = dgram.default_settings; multi_stream = multi_stream.default_settings }

-- a client as by default, with these settings of its choice and of its cache
abbrev pub default_settings : Settings
default_settings = record { redundant = default_redundant; cache = default_cache; transports = default_transports }

-- what all settings of transports have
abbrev pub AreLimited : Transports → Type 0
AreLimited t = dgram.AreLimited t.dgram × multi_stream.AreLimited t.multi_stream

-- How worked traces are written.
use Rattle.std.specs.Prelude.{ℕ, true, List, [], ◌∷◌, take}
use Rattle.client_request.specs.declared.event.What.{What}
use Rattle.client_request.specs.declared.event.Out.{Out}
use Rattle.client_request.specs.declared.event.Row.{Row}
use Rattle.right_trace.specs.Trace.{History, Conf, ByDatagrams, ByStreams, after, first_transports}
use Rattle.right_trace.specs.Settings.{Settings, first_settings}

-- a row: at a moment something happens, and this is put out
abbrev pub at : ℕ → What → List Out → Row
at moment what outs = record { event = record { moment = record { 0 = moment }; what = what }; outs = outs }

-- what happened after these rows
abbrev pub after_all : List Row → History → History
after_all [] h = h
after_all (row ∷ rows) h = after_all rows (after row h)

abbrev pub so_far : ℕ → List Row → History
so_far n rows = after_all (take n rows) []

-- one server by datagrams, one by streams, and two by datagrams; a request has 5 s
abbrev pub by_datagrams : Conf
by_datagrams = record { servers = ByDatagrams ∷ []; timeout = 5000000; transports = first_transports }

abbrev pub by_streams : Conf
by_streams = record { servers = ByStreams ∷ []; timeout = 5000000; transports = first_transports }

abbrev pub two_servers : Conf
two_servers = record { servers = ByDatagrams ∷ ByDatagrams ∷ []; timeout = 5000000; transports = first_transports }

-- SERVFAIL and errors are deferred
abbrev pub deferring : Settings
deferring = record first_settings { defers_errors = true; defers_servfail = true }

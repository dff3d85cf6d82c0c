-- A transfer on a stream connection of its own.
use Rattle.std.specs.Prelude.{◌≡◌, ℕ, Bool, false, List, [], Option, None, option_map}
use Rattle.client_request.specs.Request.{Request}
use Rattle.client_request.specs.Requests.{for_one, for_several}
use Rattle.client_request.specs.Timers.{TimerList}
use Rattle.client_request.specs.View.{View}
use Rattle.client_request.specs.Words.{IsGivenOn}
use Rattle.client_request.specs.declared.board.Posted.{Posted}
use Rattle.client_request.specs.declared.event.Event.{Event}
use Rattle.client_request.specs.declared.event.Out.{Out}
use Rattle.client_request.specs.declared.event.Row.{Row}
use Rattle.client_steps.specs.Client as plain
use Rattle.client_steps.specs.Client.{Machine, nothing_asked}
use Rattle.client_steps.specs.Machines.{machine_of}
use Rattle.client_stream.specs.Plain as stream
use Rattle.client_stream.specs.Plain.{Asked}
use Rattle.client_settings.specs.Stream.{default_settings}
use Rattle.client_stream.specs.declared.request.AnyRequest.TheVariants.{Transfer}
use Rattle.stream_turns.specs.Apart.{on_own_board, transport, stale}
use Rattle.stream_turns.specs.declared.apart.Apart.{Apart}

-- the connection between two rows
pub record Held : Type 0 where
  pub layer : Apart
  pub asked : plain.Asked Asked
  pub board : List Posted
  pub timers : TimerList
  pub now : ℕ
  pub ticket : ℕ
  pub place : ℕ
  pub failed : Bool

-- as it begins a row, with the words that come
abbrev pub Client : Type 0
Client = plain.Client Apart Asked

abbrev pub view_with : (ℕ → ℕ) → Held → View
view_with words t = record {
  now = t.now;
  words = words;
  outs = [];
  board = t.board;
  timers = t.timers;
  ticket = t.ticket;
  place = t.place;
  request = 0;
  more = false;
}

abbrev pub client_with : (ℕ → ℕ) → Held → Client
client_with words t = record { layer = t.layer; asked = t.asked; view = view_with words t }

-- at a place that was opened at a moment
abbrev pub started : (place opened : ℕ) → Held
started place opened = record {
  layer = record { line = stream.started place default_settings; board = [] };
  asked = nothing_asked;
  board = [];
  timers = record { next = 0; set = [] };
  now = opened;
  ticket = 0;
  place = 0;
  failed = false;
}

-- The steps are those of a client over this one connection: of due timers, the event, further frames, and due timers.
abbrev pub machine : Machine Apart Asked
machine = machine_of transport (λ r. r.ticket) stale

abbrev pub steps : (ℕ → ℕ) → Event → Held → Option (Row × Client)
steps words event t = plain.row_step machine 0 event (client_with words t)

abbrev pub begun_of : Held → Apart × View → List Out × Client
begun_of t x = (x.1.outs, plain.rested (plain.client_of x.0 (t.asked, x.1)))

-- A transfer is asked for: what is put out, and the connection as it begins a row.
abbrev pub begins : (ℕ → ℕ) → Request → Held → Option (List Out × Client)
begins words request t = option_map (begun_of t) (on_own_board (stream.plain_send for_one for_several (Transfer request)) t.layer (view_with words t))

-- the results that were not taken
abbrev pub results_of : Held → List Posted
results_of t = t.layer.board

-- with these results that were not taken
abbrev pub with_board : List Posted → Held → Held
with_board board t = record t { layer = record t.layer { board = board } }

-- A number would pass 64 bits at some event, at the moment that a clock gave.
pub record StopsAt (words : ℕ → ℕ) (held : Held) (old new : Option (List ℕ)) : Type 0 where
  pub event : Event
  pub stops : steps words event held ≡ None
  pub moment : IsGivenOn old new event.moment.0

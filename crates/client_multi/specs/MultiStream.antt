-- The plain machine of reconnection, over any machine of one connection.
--
--   a request      taken on ──a connection has room──► Held ──message, wrong reply──► result
--                   │  ▲  │                              │
--                   │  │  └──none can be opened now──► Resting ◄──any other error
--                   │  └───────────timer────────────────┘ ▲
--                   └──one opens, or is to be opened──► Waiting ──OpenFailed──┘
--                        (Opened: as if taken on anew)
--                  at any stage ──its time is over──► result
--   a connection   OpenStream ──Opened──► in the table until it ends
--                       └──OpenFailed──► none is opened until a moment
use Rattle.std.specs.Prelude.{ℕ, ◌+◌, ◌==◌, nat_lt, Bool, true, false, if◌then◌else◌, List, [], ◌∷◌, Option, None, Some, option_and_then, option_map, Ok, Err}
use Rattle.std.specs.Ordering.{nat_cmp}
use Rattle.std.specs.BTreeMap.{is_at}
use Rattle.std.specs.BTreeSet.{insert_key}
use Rattle.std.specs.Set.{remove_key}
use Rattle.dns_values.specs.Source.{one_more}
use Rattle.client_request.specs.Board.{Part}
use Rattle.client_request.specs.Numbered.{puts, frees, entry_at}
use Rattle.client_request.specs.View.{View, Heard, Step, Transport, told, more_at, due_timer, word, drawn, asks, answers, sets_timer, drops_timer, draws_ticket, draws_place}
use Rattle.client_request.specs.declared.board.Posted.{Posted}
use Rattle.client_request.specs.declared.error.Error.TheVariants as errors
use Rattle.client_request.specs.declared.event.Out.TheVariants.{OpenStream}
use Rattle.client_request.specs.declared.event.What.{What}
use Rattle.client_request.specs.declared.event.What.TheVariants.{Opened, OpenFailed, Bytes, Wrote, WriteFailed, ReadFailed, Ended}
use Rattle.client_stream.specs.Plain.{Asked, asked}
use Rattle.client_settings.specs.Stream.{Settings as StreamSettings}
use Rattle.client_multi.specs.Retry.{retry_time}
use Rattle.client_settings.specs.MultiStream.{Settings}
use Rattle.client_multi.specs.declared.multi_stream.job.Job.{Job}
use Rattle.client_multi.specs.declared.multi_stream.job.Stage.{Stage}
use Rattle.client_multi.specs.declared.multi_stream.job.Stage.TheVariants.{Waiting, Resting, Held}

-- What reconnection asks of one connection: its calls, what it is at a place that was opened, whether it has ended, whether it has no room, and the timer
-- that it has set.
pub record OneStream (R S : Type 0) : Type 0 where
  pub calls : Transport R S Asked
  pub opened : ℕ → StreamSettings → S
  pub has_ended : S → Bool
  pub is_full : S → Bool
  pub timer_of : S → Option ℕ

-- The requests by ticket; the ticket of each timer, and of each ticket at a connection; those that wait for a connection to open; the connections by
-- place, the place of each timer of a connection, and the place that opens; how often none was opened since one was; and the moment before which none is to be opened.
pub record Tables (R S : Type 0) : Type 0 where
  pub jobs : List (ℕ × Job R)
  pub timers : List (ℕ × ℕ)
  pub inner : List (ℕ × ℕ)
  pub waiting : List ℕ
  pub connections : List (ℕ × S)
  pub watches : List (ℕ × ℕ)
  pub opening : Option ℕ
  pub refusals : ℕ
  pub calm : ℕ

-- what a step leaves of the tables and of the view
abbrev pub After : Type 0 → Type 0 → Type 0
After R S = Option (Tables R S × View)

-- what a call of a connection sees, on whose board nothing stands, and what is seen after it, with the board of before
abbrev pub lent : View → View
lent v = record v { board = [] }

abbrev pub taken_back : View → View → View
taken_back v w = record w { board = v.board }

-- A message is a result, and so is the one error after which the connection goes on.
abbrev pub is_result : Part → Bool
is_result (Ok message) = true
is_result (Err errors.WrongReplyForQuery) = true
is_result (Err error) = false

-- the place that an event of a stream names
abbrev pub stream_place : What → Option ℕ
stream_place (Bytes place _) = Some place
stream_place (Wrote place _) = Some place
stream_place (WriteFailed place _) = Some place
stream_place (ReadFailed place _) = Some place
stream_place (Ended place) = Some place
stream_place _ = None

abbrev pub is_number : ℕ → Option ℕ → Bool
is_number n None = false
is_number n (Some own) = n == own

-- the place of a timer is kept, or no more
abbrev pub watched : ℕ → Option ℕ → List (ℕ × ℕ) → List (ℕ × ℕ)
watched place None watches = watches
watched place (Some timer) watches = puts timer place watches

abbrev pub unwatched : Option ℕ → List (ℕ × ℕ) → List (ℕ × ℕ)
unwatched None watches = watches
unwatched (Some timer) watches = frees timer watches

-- it backs off once more
abbrev pub once_more : {R : Type 0} → Job R → Job R
once_more job = record job { back_offs = one_more job.back_offs }

module _ {R S : Type 0} where
  -- A request waits for the connection that opens.
  abbrev pub waits : ℕ → Job R → Tables R S → Tables R S
  waits ticket job s = record s { jobs = puts ticket (record job { stage = Waiting }) s.jobs; waiting = insert_key nat_cmp s.waiting ticket }

  -- It backs off, for a time that the next word gives.
  abbrev pub rests : ℕ → Job R → ℕ → Tables R S → Tables R S
  rests ticket job timer s = record s { jobs = puts ticket (record job { stage = Resting timer }) s.jobs; timers = puts timer ticket s.timers }

  abbrev pub backs_off : ℕ → Job R → Tables R S → View → After R S
  backs_off ticket job s v =
      option_and_then (λ w. Some (rests ticket (once_more job) v.timers.next s, w)) (sets_timer (v.now + retry_time (one_more job.back_offs) (word v)) (drawn v))

  -- A connection posted something for a request that it holds.
  abbrev pub gets_part : Bool → ℕ → Job R → Part → Tables R S → View → After R S
  gets_part true ticket job part s v = Some (record s { timers = frees job.end s.timers }, answers ticket part (drops_timer job.end v))
  gets_part false ticket job part s v = backs_off ticket job s v

  abbrev pub gets : ℕ → Part → Tables R S → View → Option (Job R) → After R S
  gets ticket part s v None = Some (s, v)
  gets ticket part s v (Some job) = gets_part (is_result part) ticket job part (record s { jobs = frees ticket s.jobs }) v

  abbrev pub gets_at : Part → Tables R S → View → Option ℕ → After R S
  gets_at part s v None = Some (s, v)
  gets_at part s v (Some ticket) = gets ticket part s v (entry_at ticket s.jobs)

  abbrev pub collects_one : Posted → Tables R S → View → After R S
  collects_one p s v = gets_at p.part (record s { inner = frees p.ticket s.inner }) v (entry_at p.ticket s.inner)

  -- All that it posted, in order.
  abbrev pub collects : List Posted → Tables R S → View → After R S
  collects [] s v = Some (s, v)
  collects (p ∷ ps) s v = option_and_then (λ x. collects ps x.0 x.1) (collects_one p s v)

  -- What goes on with the request of a ticket, which is in no table then.
  abbrev pub with_job : (ℕ → Job R → Tables R S → View → After R S) → ℕ → Tables R S → View → Option (Job R) → After R S
  with_job f ticket s v None = Some (s, v)
  with_job f ticket s v (Some job) = f ticket job (record s { jobs = frees ticket s.jobs }) v

  abbrev pub at_ticket : (ℕ → Job R → Tables R S → View → After R S) → ℕ → Tables R S → View → After R S
  at_ticket f ticket s v = with_job f ticket s v (entry_at ticket s.jobs)

  -- what goes on with each of several, in order
  abbrev pub each : (ℕ → Job R → Tables R S → View → After R S) → List ℕ → Tables R S → View → After R S
  each f [] s v = Some (s, v)
  each f (ticket ∷ tickets) s v = option_and_then (λ x. each f tickets x.0 x.1) (at_ticket f ticket s v)

  -- No connection could be opened: none is to be opened for a time, and those that wait back off in order of tickets.
  abbrev pub refused : Tables R S → View → Tables R S
  refused s v = record s { waiting = []; opening = None; refusals = one_more s.refusals; calm = v.now + retry_time s.refusals (word v) }

  abbrev pub open_fails : ℕ → Tables R S → View → After R S
  open_fails place s v = if is_number place s.opening then each backs_off s.waiting (refused s v) (drawn v) else Some (s, v)

module _ {R S : Type 0} (below : OneStream R S) where
  -- of the connections that have room the one that was opened last
  abbrev pub newest : Option ℕ → List (ℕ × S) → Option ℕ
  newest found [] = found
  newest found (e ∷ es) = newest (if below.is_full e.1 then found else Some e.0) es

  -- the connection that a request is handed to, with its place
  abbrev pub with_room : List (ℕ × S) → Option (ℕ × S)
  with_room connections = option_and_then (λ place. option_map (λ c. (place, c)) (entry_at place connections)) (newest None connections)

  -- a connection is kept at its place, and taken out
  abbrev pub keeps : ℕ → S → Tables R S → Tables R S
  keeps place c s = record s { connections = puts place c s.connections; watches = watched place (below.timer_of c) s.watches }

  abbrev pub taken : ℕ → S → Tables R S → Tables R S
  taken place c s = record s { connections = frees place s.connections; watches = unwatched (below.timer_of c) s.watches }

  -- the tables once the connection of a place, or one that was found, was taken out, if there was one
  abbrev pub without_at : ℕ → Option S → Tables R S → Tables R S
  without_at place None s = s
  without_at place (Some c) s = taken place c s

  abbrev pub without_found : Option (ℕ × S) → Tables R S → Tables R S
  without_found None s = s
  without_found (Some found) s = taken found.0 found.1 s

  -- A connection is put back, unless it has ended.
  abbrev pub with_connection : ℕ → S → Tables R S → Tables R S
  with_connection place c s = if below.has_ended c then s else keeps place c s

  -- A call of a connection, which was taken out of the tables, is over.
  abbrev pub returns : ℕ → Tables R S → View → S × View → After R S
  returns place s v x = collects x.1.board (with_connection place x.0 s) (taken_back v x.1)

  abbrev pub calls : ℕ → Step S → Tables R S → View → Option S → After R S
  calls place step s v None = Some (s, v)
  calls place step s v (Some c) = option_and_then (returns place (taken place c s) v) (step c (lent v))

  abbrev pub calls_at : ℕ → Step S → Tables R S → View → After R S
  calls_at place step s v = calls place step s v (entry_at place s.connections)

  -- The connection of a place hears what happened, if there is one.
  abbrev pub hears_at : Heard → Tables R S → View → Option ℕ → After R S
  hears_at h s v None = Some (s, v)
  hears_at h s v (Some place) = calls_at place (below.calls.step h) s v

  -- A connection takes a request on.
  abbrev pub holds : ℕ → Job R → ℕ → S → Tables R S → View → After R S
  holds ticket job place c s v =
      option_and_then (returns place (record s { jobs = puts ticket (record job { stage = Held place (asked v.ticket) }) s.jobs; inner = puts v.ticket ticket s.inner }) v)
      (below.calls.send job.request c (lent (record v { request = job.number })))

  -- A request is given up at the connection that has it.
  abbrev pub gives_up_at : ℕ → Asked → Tables R S → View → After R S
  gives_up_at place response s v = calls_at place (below.calls.cancel response) (record s { inner = frees response.ticket s.inner }) v

  -- A request is given up where it is.
  abbrev pub leaves : ℕ → Stage → Tables R S → View → After R S
  leaves ticket Waiting s v = Some (record s { waiting = remove_key (is_at (nat_cmp ticket)) s.waiting }, v)
  leaves ticket (Resting timer) s v = Some (record s { timers = frees timer s.timers }, drops_timer timer v)
  leaves ticket (Held place response) s v = gives_up_at place response s v

  abbrev pub drops_job : ℕ → Job R → Tables R S → View → After R S
  drops_job ticket job s v = leaves ticket job.stage (record s { timers = frees job.end s.timers }) (drops_timer job.end v)

  abbrev pub drops : ℕ → Tables R S → View → After R S
  drops ticket s v = at_ticket drops_job ticket s v

  -- Its time is over.
  abbrev pub times_out : ℕ → Job R → Tables R S → View → After R S
  times_out ticket job s v = option_and_then (λ x. Some (x.0, answers ticket (Err errors.StreamReadTimeout) x.1)) (leaves ticket job.stage s v)

module _ {R S : Type 0} (below : OneStream R S) (server : ℕ) where
  -- A connection is to be opened, and the request waits for it.
  abbrev pub opens : ℕ → Job R → Tables R S → View → After R S
  opens ticket job s v = option_and_then (λ w. Some (record (waits ticket job s) { opening = Some v.place }, asks (OpenStream v.place server) w)) (draws_place v)

  -- No connection has room: the request waits for the one that opens, or backs off, or has one opened.
  abbrev pub goes_on : ℕ → Job R → Tables R S → View → Option ℕ → After R S
  goes_on ticket job s v (Some place) = Some (waits ticket job s, v)
  goes_on ticket job s v None = if nat_lt v.now s.calm then backs_off ticket job s v else opens ticket job s v

  abbrev pub hands_at : ℕ → Job R → Tables R S → View → Option (ℕ × S) → After R S
  hands_at ticket job s v None = goes_on ticket job s v s.opening
  hands_at ticket job s v (Some found) = holds below ticket job found.0 found.1 s v

  -- A request is handed to the newest connection that has room.
  abbrev pub hands : ℕ → Job R → Tables R S → View → After R S
  hands ticket job s v = hands_at ticket job (without_found below (with_room below s.connections) s) v (with_room below s.connections)

  -- A connection is open: those that wait are handed on in order of tickets.
  abbrev pub opened : StreamSettings → ℕ → Tables R S → Tables R S
  opened settings place s = record (keeps below place (below.opened place settings) s) { waiting = []; opening = None; refusals = 0; calm = 0 }

  abbrev pub is_open : StreamSettings → ℕ → Tables R S → View → After R S
  is_open settings place s v = if is_number place s.opening then each hands s.waiting (opened settings place s) v else Some (s, v)

  -- A timer fired: a request's time is over, or it backed off long enough; or it is the one of a connection.
  abbrev pub fires : ℕ → ℕ → Job R → Tables R S → View → After R S
  fires timer ticket job s v = if timer == job.end then times_out below ticket job s v else hands ticket job s v

  abbrev pub due_at : ℕ → Tables R S → View → Option ℕ → After R S
  due_at timer s v None = hears_at below (due_timer timer) s v (entry_at timer s.watches)
  due_at timer s v (Some ticket) = at_ticket (fires timer) ticket (record s { timers = frees timer s.timers }) v

  abbrev pub due : ℕ → Tables R S → View → After R S
  due timer s v = due_at timer s v (entry_at timer s.timers)

  module _ (settings : Settings) where
    abbrev pub tells : What → Tables R S → View → After R S
    tells (Opened place) s v = is_open settings.stream place s v
    tells (OpenFailed place _) s v = open_fails place s v
    tells what s v = hears_at below (told what) s v (stream_place what)

    abbrev pub hears : Heard → Tables R S → View → After R S
    hears (told what) s v = tells what s v
    hears (more_at place) s v = hears_at below (more_at place) s v (Some place)
    hears (due_timer timer) s v = due timer s v

    -- A request is taken on, and its time runs, unless no more are.
    abbrev pub newcomer : R → ℕ → View → Job R
    newcomer request end v = record { number = v.request; request = request; back_offs = 0; end = end; stage = Waiting }

    abbrev pub takes_on : Bool → ℕ → R → Tables R S → View → After R S
    takes_on true ticket request s v = Some (s, answers ticket (Err errors.ConnectionClosed) v)
    takes_on false ticket request s v =
        option_and_then (λ w. hands ticket (newcomer request v.timers.next v) (record s { timers = puts v.timers.next ticket s.timers }) w)
        (sets_timer (v.now + settings.response_timeout) v)

    abbrev pub takes : Bool → R → Tables R S → View → After R S
    takes shut request s v = option_and_then (λ w. takes_on shut v.ticket request s w) (draws_ticket v)

-- The whole machine: a server's number, the settings and the tables; whether no more requests are taken on; and whether it gave up.
pub record MultiStream (R S : Type 0) : Type 0 where
  pub server : ℕ
  pub settings : Settings
  pub tables : Tables R S
  pub shut : Bool
  pub failed : Bool

module _ {R S : Type 0} where
  abbrev pub fresh : Tables R S
  fresh = record { jobs = []; timers = []; inner = []; waiting = []; connections = []; watches = []; opening = None; refusals = 0; calm = 0 }

  abbrev pub started : ℕ → Settings → MultiStream R S
  started server settings = record { server = server; settings = settings; tables = fresh; shut = false; failed = false }

  abbrev pub with_tables : MultiStream R S → After R S → Option (MultiStream R S × View)
  with_tables s after = option_and_then (λ x. Some (record s { tables = x.0 }, x.1)) after

  module _ (below : OneStream R S) where
    abbrev pub plain_send : R → MultiStream R S → View → Option (MultiStream R S × View)
    plain_send request s v = with_tables s (takes below s.server s.settings s.shut request s.tables v)

    abbrev pub plain_step : Heard → MultiStream R S → View → Option (MultiStream R S × View)
    plain_step h s v = with_tables s (hears below s.server s.settings h s.tables v)

    abbrev pub plain_cancel : ℕ → MultiStream R S → View → Option (MultiStream R S × View)
    plain_cancel ticket s v = with_tables s (drops below ticket s.tables v)

    abbrev pub transport : Transport R (MultiStream R S) Asked
    transport = record {
      send = plain_send;
      step = plain_step;
      cancel = λ response. plain_cancel response.ticket;
      response = λ request s v. asked v.ticket;
    }

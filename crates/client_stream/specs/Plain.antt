-- The plain machine of a stream connection.
--
--   a request     queue ──nothing is being written──► written under an id ──frame with the id──► result
--                                    └── no id is free, it is too long ──► result
--   a transfer    queue ──nothing is being written──► written under an id ──last message──► None, its end
--                                    │                      │  ▲──message, more are to come──┘
--                                    └── it asks for no zone, no id is free, it is too long ──► result
--   a connection  New ──request or frame──► Active ──last frame that is waited for──► Idle ──idle time──► Ended
--                                            │  ▲──────────request or frame──────────────┘
--                                            └──read timer, fault, end, short frame──► Ended
--
-- A request is one that a message answers, or a transfer; the types R and M are theirs.
use Rattle.std.specs.Prelude.{ℕ, ◌+◌, ◌/◌, ◌%◌, ◌==◌, ◌&&◌, ◌||◌, not, nat_le, Bool, true, false, if◌then◌else◌, List, [], ◌∷◌, ◌++◌, length, drop, Option, Some, None, option_and_then, option_map, is_some, Result, Ok, Err}
use Rattle.std.specs.Option.{unwrap_or}
use Rattle.dns_base.specs.Header.{id_of}
use Rattle.dns_base.specs.Message.{header_of, sole_question}
use Rattle.client_request.specs.Board.{Part, posted}
use Rattle.client_request.specs.declared.board.Posted.{Posted}
use Rattle.client_request.specs.Numbered.{puts, frees, entry_at}
use Rattle.client_request.specs.Requests.{Requests}
use Rattle.client_request.specs.Response as response
use Rattle.client_request.specs.View.{View, Transport, Heard, told, more_at, due_timer, asks, answers, sets_timer, drops_timer, draws_ticket}
use Rattle.client_request.specs.declared.error.Error.{Error}
use Rattle.client_request.specs.declared.error.Error.TheVariants as errors
use Rattle.client_request.specs.declared.fault.Fault.TheVariants as fault
use Rattle.client_request.specs.declared.event.Out.TheVariants.{Write, Resume, Close}
use Rattle.client_request.specs.declared.event.What.{What}
use Rattle.client_request.specs.declared.event.What.TheVariants.{Bytes, Wrote, WriteFailed, ReadFailed, Ended}
use Rattle.client_transfer.specs.States.{checked}
use Rattle.client_transfer.specs.Transfers.{part_given}
use Rattle.client_transfer.specs.declared.state.XfrState.{XfrState}
use Rattle.client_transfer.specs.declared.state.XfrState.TheVariants.{AxfrInit, IxfrInit}
use Rattle.client_stream.specs.Frames.{first_frame, behind_frame, has_frame, is_in_body}
use Rattle.client_stream.specs.IdTable.{IdTable, no_ids, next_id, inserted, inserted_at, removed, items_of}
use Rattle.client_stream.specs.Keepalive.{idle_time_told}
use Rattle.client_settings.specs.Stream.{Settings}
use Rattle.client_stream.specs.declared.request.AnyRequest.{AnyRequest}
use Rattle.client_stream.specs.declared.request.AnyRequest.TheVariants.{Single, Transfer}
use Rattle.client_stream.specs.declared.request.QueuedRequest.{QueuedRequest}
use Rattle.client_stream.specs.declared.request.Holder.{Holder}
use Rattle.client_stream.specs.declared.request.Holder.TheVariants.{Waits, Transfers, GivenUp}
use Rattle.client_stream.specs.declared.line.LineStage.{LineStage}
use Rattle.client_stream.specs.declared.line.LineStage.TheVariants as stage

-- Who holds each id, the id of each request that waits for its answer, the requests that were not written yet (both by ticket), what is outstanding of
-- the frame that is being written, where the connection is, how long it waits for a frame by the request taken last and while idle (in microseconds),
-- and whether a request had the empty option 11.
pub record Line (R M : Type 0) : Type 0 where
  pub held : IdTable (Holder R M)
  pub ids : List (ℕ × ℕ)
  pub queue : List (ℕ × QueuedRequest R M)
  pub writing : Option (List ℕ)
  pub stage : LineStage
  pub timeout : ℕ
  pub idle_time : ℕ
  pub had_keepalive : Bool

-- what a step leaves of a connection and of the view
abbrev pub After : Type 0 → Type 0 → Type 0
After R M = Option (Line R M × View)

abbrev pub has_ended : LineStage → Bool
has_ended stage.Ended = true
has_ended stage.New = false
has_ended (stage.Active _ _) = false
has_ended (stage.Idle _) = false

-- the timer that is set at a stage
abbrev pub timer_at : LineStage → Option ℕ
timer_at stage.New = None
timer_at (stage.Active timer _) = Some timer
timer_at (stage.Idle timer) = Some timer
timer_at stage.Ended = None

-- it is dropped
abbrev pub drops_own_timer : LineStage → View → View
drops_own_timer stage.New v = v
drops_own_timer (stage.Active timer _) v = drops_timer timer v
drops_own_timer (stage.Idle timer) v = drops_timer timer v
drops_own_timer stage.Ended v = v

module _ {R M : Type 0} where
  abbrev pub fresh_line : Settings → Line R M
  fresh_line settings = record {
    held = no_ids;
    ids = [];
    queue = [];
    writing = None;
    stage = stage.New;
    timeout = settings.response_timeout;
    idle_time = settings.idle_timeout;
    had_keepalive = false;
  }

  -- Those who hold an id get an error in order of ids, then the queued ones theirs.
  abbrev pub fails_holder : Error → List Posted → Holder R M → List Posted
  fails_holder error board (Waits ticket _) = posted ticket (Err error) board
  fails_holder error board (Transfers ticket _ _) = posted ticket (Err error) board
  fails_holder error board GivenUp = board

  abbrev pub fails_holders : Error → List (Holder R M) → List Posted → List Posted
  fails_holders error [] board = board
  fails_holders error (holder ∷ holders) board = fails_holders error holders (fails_holder error board holder)

  abbrev pub fails_queued : List (ℕ × QueuedRequest R M) → List Posted → List Posted
  fails_queued [] board = board
  fails_queued (entry ∷ entries) board = fails_queued entries (posted entry.0 (Err errors.StreamReceiveError) board)

  abbrev pub fails_all : Error → Line R M → View → View
  fails_all error s v = record v { board = fails_queued s.queue (fails_holders error (items_of s.held) v.board) }

  -- the connection ends
  abbrev pub ended : Line R M → Line R M
  ended s = record s { held = no_ids; ids = []; queue = []; writing = None; stage = stage.Ended }

  abbrev pub ends_with : ℕ → Error → Line R M → View → Line R M × View
  ends_with place error s v = (ended s, fails_all error s (drops_own_timer s.stage (asks (Close place) v)))

  abbrev pub ends : ℕ → Error → Line R M → View → After R M
  ends place error s v = Some (ends_with place error s v)

  -- It becomes active or idle, with a timer anew.
  abbrev pub becomes : (ℕ → LineStage) → ℕ → Line R M → View → After R M
  becomes to due s v = option_and_then (λ w. Some (record s { stage = to v.timers.next }, w)) (sets_timer due (drops_own_timer s.stage v))

  -- It is active, and waits for a frame from a moment on.
  abbrev pub awaits_frame_since : ℕ → Line R M → View → After R M
  awaits_frame_since since s v = becomes (λ timer. stage.Active timer since) (since + s.timeout + 1) s v

  abbrev pub becomes_active : Line R M → View → After R M
  becomes_active s v = awaits_frame_since v.now s v

  abbrev pub becomes_idle : Line R M → View → After R M
  becomes_idle s v = becomes stage.Idle (v.now + s.idle_time) s v

  -- how long an active connection waits for a frame, by the request taken last
  abbrev pub timeout_by : Settings → AnyRequest R M → ℕ
  timeout_by settings (Single _) = settings.response_timeout
  timeout_by settings (Transfer _) = settings.streaming_response_timeout

  abbrev pub retimes : ℕ → ℕ → Line R M → View → After R M
  retimes timeout since s v = if timeout == s.timeout then Some (s, v) else awaits_frame_since since (record s { timeout = timeout }) v

  -- a request on a connection that is active sets a timer anew only where it waits for another time from then on
  abbrev pub becomes_active_for : ℕ → Line R M → View → LineStage → After R M
  becomes_active_for timeout s v stage.New = becomes_active (record s { timeout = timeout }) v
  becomes_active_for timeout s v (stage.Idle _) = becomes_active (record s { timeout = timeout }) v
  becomes_active_for timeout s v (stage.Active _ since) = retimes timeout since s v
  becomes_active_for timeout s v stage.Ended = Some (s, v)

  -- Nobody waits for a frame: the connection is idle, or ends where it has no idle time. Nobody gets the error.
  abbrev pub has_nothing : Line R M → Bool
  has_nothing s = length s.held.held == 0 && length s.queue == 0

  abbrev pub becomes_idle_if_unused : ℕ → Line R M → View → After R M
  becomes_idle_if_unused place s v = if has_nothing s then (if s.idle_time == 0 then ends place errors.StreamReceiveError s v else becomes_idle s v) else Some (s, v)

  -- a timer fired
  abbrev pub fires : ℕ → ℕ → Line R M → View → LineStage → After R M
  fires place timer s v (stage.Active own _) = if timer == own then ends place errors.StreamReadTimeout s v else Some (s, v)
  fires place timer s v (stage.Idle own) = if timer == own then ends place errors.StreamReceiveError s v else Some (s, v)
  fires place timer s v stage.New = Some (s, v)
  fires place timer s v stage.Ended = Some (s, v)

  -- A request is given up: a queued one is dropped, and the id of one that was written stays held.
  abbrev pub leaves_id : ℕ → IdTable (Holder R M) → Option (Holder R M) → IdTable (Holder R M)
  leaves_id id held None = held
  leaves_id id held (Some _) = inserted_at id GivenUp (removed id held)

  abbrev pub gives_up_id : ℕ → Line R M → Option ℕ → Line R M
  gives_up_id ticket s None = s
  gives_up_id ticket s (Some id) = record s { ids = frees ticket s.ids; held = leaves_id id s.held (entry_at id s.held.held) }

  abbrev pub gives_up : ℕ → Line R M → Line R M
  gives_up ticket s = if is_some (entry_at ticket s.queue) then record s { queue = frees ticket s.queue } else gives_up_id ticket s (entry_at ticket s.ids)

-- the id in the header of a message
abbrev pub message_id : List ℕ → ℕ
message_id message = id_of (header_of message)

-- a message behind its two octets of length
abbrev pub framed : List ℕ → List ℕ
framed message = length message / 256 ∷ length message % 256 ∷ message

abbrev pub if_short : Result (List ℕ) Error → Option (List ℕ)
if_short (Ok message) = if nat_le (length message) 65535 then Some message else None
if_short (Err _) = None

module _ {T : Type 0} (requests : Requests T) where
  -- the frame of a request, where its message has at most 65535 octets
  abbrev pub frame_of : T → Option (List ℕ)
  frame_of request = option_map framed (if_short (requests.composed request))

  -- The empty option 11 is added where none was added on this connection before, and where it has room.
  abbrev pub adds_keepalive : Bool → T → Bool
  adds_keepalive had request = not had && not (requests.is_full_for 0 request)

  abbrev pub with_keepalive : Bool → T → T
  with_keepalive had request = if adds_keepalive had request then requests.with_option 11 [] request else request

  -- a request as it is written under an id, and whether the option was added by then
  abbrev pub readied : ℕ → Bool → T → T
  readied id had request = with_keepalive had (requests.with_id id request)

  abbrev pub had_by : ℕ → Bool → T → Bool
  had_by id had request = had || adds_keepalive had (requests.with_id id request)

-- How a transfer begins, by the type of its message's one question, or why it does not.
abbrev pub state_for : Option ℕ → Result XfrState Error
state_for None = Err errors.MessageParseError
state_for (Some rtype) = if rtype == 252 then Ok AxfrInit else if rtype == 251 then Ok IxfrInit else Err errors.FormError

abbrev pub first_state : Result (List ℕ) Error → Result XfrState Error
first_state (Err error) = Err error
first_state (Ok message) = state_for (option_map (λ q. q.rtype) (sole_question message))

module _ {R M : Type 0} where
  -- the id that comes next, where fewer than 32768 are held
  abbrev pub free_id : Line R M → Option ℕ
  free_id s = if length s.held.held == 32768 then None else Some (next_id s.held)

  -- Behind a message of a transfer comes its end, or the id is held again at its place.
  abbrev pub ends_or_holds_again : List ℕ → ℕ → M → XfrState → Line R M → View → (ends : Bool) → Line R M × View
  ends_or_holds_again message ticket request state s v true = (record s { ids = frees ticket s.ids }, answers ticket (Ok None) v)
  ends_or_holds_again message ticket request state s v false = (record s { held = inserted_at (message_id message) (Transfers ticket request state) s.held }, v)

module _ {R M : Type 0} (one : Requests R) (several : Requests M) where
  abbrev pub part_of : List ℕ → R → Part
  part_of message request = if one.is_answered message request then Ok (Some message) else Err errors.WrongReplyForQuery

  -- Who held the id of a message gets it where it answers the request, or as the transfer's state says.
  abbrev pub delivers : List ℕ → Line R M → View → Holder R M → Line R M × View
  delivers message s v GivenUp = (s, v)
  delivers message s v (Waits ticket request) = (record s { ids = frees ticket s.ids }, answers ticket (part_of message request) v)
  delivers message s v (Transfers ticket request state) =
      let c = checked several request state message in ends_or_holds_again message ticket request c.1 s (answers ticket (part_given message c.2) v) c.0

  module _ (place : ℕ) where
    -- A request is written under an id, or its message is too long, and the id is free again.
    abbrev pub writes : ℕ → ℕ → ℕ → Holder R M → Line R M → View → Option (List ℕ) → Line R M × View
    writes ticket number id holder s v (Some octets) = (
      record s { held = inserted holder s.held; ids = puts ticket id s.ids; writing = Some octets },
      asks (Write place number id octets) v,
    )
    writes ticket number id holder s v None = (record s { held = removed id (inserted GivenUp s.held) }, answers ticket (Err errors.StreamLongMessage) v)

    -- a request of either kind, with what holds the id for it
    module _ {T : Type 0} (requests : Requests T) (holding : T → Holder R M) where
      abbrev pub composes : ℕ → ℕ → ℕ → T → Line R M → View → Line R M × View
      composes ticket number id request s v =
          writes ticket number id (holding (readied requests id s.had_keepalive request)) (record s { had_keepalive = had_by requests id s.had_keepalive request }) v
          (frame_of requests (readied requests id s.had_keepalive request))

      abbrev pub takes_free_id : ℕ → ℕ → T → Line R M → View → Option ℕ → Line R M × View
      takes_free_id ticket number request s v None = (s, answers ticket (Err errors.StreamTooManyOutstandingQueries) v)
      takes_free_id ticket number request s v (Some id) = composes ticket number id request s v

    abbrev pub starts_transfer : ℕ → ℕ → M → Line R M → View → Result XfrState Error → Line R M × View
    starts_transfer ticket number request s v (Err error) = (s, answers ticket (Err error) v)
    starts_transfer ticket number request s v (Ok state) = takes_free_id several (λ r. Transfers ticket r state) ticket number request s v (free_id s)

    abbrev pub prepares : ℕ → ℕ → AnyRequest R M → Line R M → View → Line R M × View
    prepares ticket number (Single request) s v = takes_free_id one (λ r. Waits ticket r) ticket number request s v (free_id s)
    prepares ticket number (Transfer request) s v = starts_transfer ticket number request s v (first_state (several.composed request))

    -- a request is taken from the queue
    abbrev pub takes_queued : Settings → ℕ → QueuedRequest R M → Line R M → View → After R M
    takes_queued settings ticket waiting s v =
        option_and_then (λ x. Some (prepares ticket waiting.number waiting.request x.0 x.1)) (becomes_active_for (timeout_by settings waiting.request) s v s.stage)

    -- Requests are taken from the queue in order until one is being written.
    abbrev pub pumps : Settings → List (ℕ × QueuedRequest R M) → Line R M → View → After R M
    pumps settings [] s v = Some (s, v)
    pumps settings (entry ∷ queue) s v =
        if is_some s.writing then Some (s, v)
        else option_and_then (λ x. pumps settings queue x.0 x.1) (takes_queued settings entry.0 entry.1 (record s { queue = queue }) v)

    -- A request is taken on: it is queued, or its result is that the connection has ended.
    abbrev pub queues : Settings → ℕ → QueuedRequest R M → Line R M → View → After R M
    queues settings ticket waiting s v =
        if has_ended s.stage then Some (s, answers ticket (Err errors.ConnectionClosed) v)
        else pumps settings (puts ticket waiting s.queue) (record s { queue = puts ticket waiting s.queue }) v

    abbrev pub takes_on : Settings → AnyRequest R M → Line R M → View → After R M
    takes_on settings request s v =
        option_and_then (λ w. queues settings v.ticket (record { number = v.request; request = request }) s w) (draws_ticket v)

    -- A message came: the connection is active, and the id of the message is free.
    abbrev pub frees_id : List ℕ → Line R M → View → Option (Holder R M) → After R M
    frees_id message s v None = Some (s, v)
    frees_id message s v (Some holder) =
        let x = delivers message (record s { held = removed (message_id message) s.held }) v holder in becomes_idle_if_unused place x.0 x.1

    abbrev pub releases : List ℕ → Line R M → View → After R M
    releases message s v = frees_id message s v (entry_at (message_id message) s.held.held)

    abbrev pub message_comes : List ℕ → Line R M → View → After R M
    message_comes message s v =
        option_and_then (λ x. releases message x.0 x.1) (becomes_active (record s { idle_time = unwrap_or (idle_time_told message) s.idle_time }) v)

    -- a frame came
    abbrev pub frame_comes : List ℕ → Line R M → View → After R M
    frame_comes frame s v = if nat_le 12 (length frame) then message_comes frame s v else ends place errors.ShortMessage s v

    -- so many octets of what was outstanding were taken
    abbrev pub wrote_of : Settings → ℕ → Line R M → View → List ℕ → After R M
    wrote_of settings count s v octets =
        if count == 0 then ends place (errors.StreamWriteError fault.NothingTaken) s v
        else if nat_le (length octets) count then pumps settings s.queue (record s { writing = None }) v
        else Some (record s { writing = Some (drop count octets) }, asks (Resume place (drop count octets)) v)

    abbrev pub wrote : Settings → ℕ → Line R M → View → Option (List ℕ) → After R M
    wrote settings count s v None = Some (s, v)
    wrote settings count s v (Some octets) = wrote_of settings count s v octets

-- the whole machine: a place, the settings, the connection, the octets that no frame has taken; and whether it gave up
pub record Stream (R M : Type 0) : Type 0 where
  pub place : ℕ
  pub settings : Settings
  pub line : Line R M
  pub octets : List ℕ
  pub failed : Bool

-- what stands for the result of a request
abbrev pub Asked : Type 0
Asked = response.Asked

abbrev pub asked : ℕ → Asked
asked ticket = record { ticket = ticket; given = false }

-- what stands for the results of a transfer
pub record Begun : Type 0 where
  pub ticket : ℕ
  pub ended : Bool

abbrev pub begun : ℕ → Begun
begun ticket = record { ticket = ticket; ended = false }

-- why a connection whose server ends it does so
abbrev pub end_error : List ℕ → Error
end_error octets = if is_in_body octets then errors.StreamUnexpectedEndOfData else errors.StreamReadError fault.EndOfData

-- whether an event is of a stream place
abbrev pub is_at : ℕ → What → Bool
is_at place (Bytes at _) = place == at
is_at place (Wrote at _) = place == at
is_at place (WriteFailed at _) = place == at
is_at place (ReadFailed at _) = place == at
is_at place (Ended at) = place == at
is_at place _ = false

-- what a step leaves of the whole
abbrev pub AfterAll : Type 0 → Type 0 → Type 0
AfterAll R M = Option (Stream R M × View)

-- the octets of a connection that has ended are dropped
abbrev pub octets_left : LineStage → List ℕ → List ℕ
octets_left at octets = if has_ended at then [] else octets

module _ {R M : Type 0} where
  abbrev pub started : ℕ → Settings → Stream R M
  started place settings = record { place = place; settings = settings; line = fresh_line settings; octets = []; failed = false }

  -- whether it gave up
  abbrev pub has_failed : Stream R M → Bool
  has_failed s = s.failed

  -- what its line leaves, with octets that no frame has taken, unless it has ended
  abbrev pub with_line : Stream R M → List ℕ → After R M → AfterAll R M
  with_line s octets after = option_and_then (λ x. Some (record s { line = x.0; octets = octets_left x.0.stage octets }, x.1)) after

  -- Whether another whole frame stands is said.
  abbrev pub says_more : Stream R M → View → View
  says_more s v = if has_frame s.octets then record v { more = true } else v

  abbrev pub says_if_more : AfterAll R M → AfterAll R M
  says_if_more after = option_and_then (λ x. Some (x.0, says_more x.0 x.1)) after

  abbrev pub plain_cancel : ℕ → Stream R M → View → AfterAll R M
  plain_cancel ticket s v = Some (record s { line = gives_up ticket s.line }, v)

  abbrev pub closes : Error → Stream R M → View → AfterAll R M
  closes error s v = with_line s s.octets (ends s.place error s.line v)

  module _ (one : Requests R) (several : Requests M) where
    -- the first frame is taken, if it is whole
    abbrev pub takes_frame : Stream R M → View → Option (List ℕ) → AfterAll R M
    takes_frame s v None = Some (s, v)
    takes_frame s v (Some frame) = with_line s (behind_frame s.octets) (frame_comes one several s.place frame s.line v)

    abbrev pub frame_taken : Stream R M → View → AfterAll R M
    frame_taken s v = takes_frame s v (first_frame s.octets)

    abbrev pub reads : Stream R M → View → AfterAll R M
    reads s v = says_if_more (frame_taken s v)

    -- an event at its own place
    abbrev pub tells : What → Stream R M → View → AfterAll R M
    tells (Bytes _ octets) s v = reads (record s { octets = s.octets ++ octets }) v
    tells (Wrote _ count) s v = with_line s s.octets (wrote one several s.place s.settings count s.line v s.line.writing)
    tells (WriteFailed _ f) s v = closes (errors.StreamWriteError f) s v
    tells (ReadFailed _ f) s v = closes (errors.StreamReadError f) s v
    tells (Ended _) s v = closes (end_error s.octets) s v
    tells _ s v = Some (s, v)

    abbrev pub hears : Heard → Stream R M → View → AfterAll R M
    hears (told what) s v = if is_at s.place what then tells what s v else Some (s, v)
    hears (more_at place) s v = if s.place == place then reads s v else Some (s, v)
    hears (due_timer timer) s v = with_line s s.octets (fires s.place timer s.line v s.line.stage)

    abbrev pub plain_step : Heard → Stream R M → View → AfterAll R M
    plain_step h s v = if has_ended s.line.stage then Some (s, v) else hears h s v

    abbrev pub plain_send : AnyRequest R M → Stream R M → View → AfterAll R M
    plain_send request s v = option_and_then (λ x. Some (record s { line = x.0 }, x.1)) (takes_on one several s.place s.settings request s.line v)

    -- the transport of requests that one message answers, and that of transfers
    abbrev pub transport : Transport R (Stream R M) Asked
    transport = record {
      send = λ request. plain_send (Single request);
      step = plain_step;
      cancel = λ asked. plain_cancel asked.ticket;
      response = λ request s v. asked v.ticket;
    }

    abbrev pub transfers : Transport M (Stream R M) Begun
    transfers = record {
      send = λ request. plain_send (Transfer request);
      step = plain_step;
      cancel = λ begun. plain_cancel begun.ticket;
      response = λ request s v. begun v.ticket;
    }

-- The plain client over any transport: deadlines, replies, and one step for each event.
use Rattle.std.specs.Prelude.{ℕ, zero, suc, ◌+◌, ◌-◌, ◌^◌, max, Bool, true, false, List, [], ◌∷◌, length, if◌then◌else◌, Option, Some, None, option_and_then, option_map, Result, Ok, Err}
use Rattle.client_request.specs.Board.{Part}
use Rattle.client_request.specs.Numbered.{puts, frees, entry_at}
use Rattle.client_request.specs.Request.{Request}
use Rattle.client_request.specs.Timers.{can_draw, due_now, fired}
use Rattle.client_request.specs.View.{View, Heard, Step, told, more_at, due_timer, asks, sets_timer, drops_timer}
use Rattle.client_request.specs.declared.board.Posted.{Posted}
use Rattle.client_request.specs.declared.error.Error.{Error}
use Rattle.client_request.specs.declared.error.Error.TheVariants.{TimedOut, ConnectionClosed}
use Rattle.client_request.specs.declared.event.Event.{Event}
use Rattle.client_request.specs.declared.event.Out.TheVariants.{Stale, Reply}
use Rattle.client_request.specs.declared.event.Row.{Row}
use Rattle.client_request.specs.declared.event.What.{What}
use Rattle.client_request.specs.declared.event.What.TheVariants.{Ask, Bytes, Tick}
use Rattle.client_request.specs.declared.timers.Timer.{Timer}
use Rattle.client_steps.specs.declared.asked.Waiting.{Waiting}

-- The requests that wait, by the ticket that the transport gave them; the ticket of each deadline's timer; and the number of the next request.
pub record Asked (P : Type 0) : Type 0 where
  pub waiting : List (ℕ × Waiting P)
  pub deadlines : List (ℕ × ℕ)
  pub next : ℕ

-- a transport as plain functions, and what stands in for the result of a request that waits: a message that has expired
pub record Machine (U P : Type 0) : Type 0 where
  pub send : Request → Step U
  pub step : Heard → Step U
  pub cancel : P → Step U
  pub response : Request → U → View → P
  pub ticket : P → ℕ
  pub stale : P → U → View → Option (List ℕ)

-- a result of one message
abbrev pub result_of : Part → Result (List ℕ) Error
result_of (Ok (Some message)) = Ok message
result_of (Ok None) = Err ConnectionClosed
result_of (Err error) = Err error

-- The reply that follows to this request is stale, or not.
abbrev pub marks : Bool → (number : ℕ) → View → View
marks true number v = asks (Stale number) v
marks false number v = v

-- the reply to a request whose deadline passed: what stands in for it, or that it timed out
abbrev pub late_reply : (number : ℕ) → Option (List ℕ) → View → View
late_reply number None v = asks (Reply number (Err TimedOut)) v
late_reply number (Some message) v = asks (Reply number (Ok message)) (asks (Stale number) v)

module _ {P : Type 0} where
  abbrev pub nothing_asked : Asked P
  nothing_asked = record { waiting = []; deadlines = []; next = 0 }

  -- without a request that waits, and its deadline
  abbrev pub without_request : ℕ → Option (Waiting P) → Asked P → Asked P
  without_request ticket None a = record a { waiting = frees ticket a.waiting }
  without_request ticket (Some w) a = record a { waiting = frees ticket a.waiting; deadlines = frees w.timer a.deadlines }

  -- without the request of a deadline that has passed
  abbrev pub without_late : ℕ → Option ℕ → Asked P → Asked P
  without_late timer None a = record a { deadlines = frees timer a.deadlines }
  without_late timer (Some ticket) a = record a { waiting = frees ticket a.waiting; deadlines = frees timer a.deadlines }

  -- a request waits, with its deadline
  abbrev pub waits : ℕ → ℕ → Waiting P → Asked P → Asked P
  waits ticket timer w a = record { waiting = puts ticket w a.waiting; deadlines = puts timer ticket a.deadlines; next = w.number + 1 }

  -- A request that has its result gets its reply, marked where that is stale, and its deadline goes.
  abbrev pub replies_to : Posted → Asked P → View → Option (Waiting P) → Asked P × View
  replies_to p a v None = (without_request p.ticket None a, v)
  replies_to p a v (Some w) = (
    without_request p.ticket (Some w) a,
    asks (Reply w.number (result_of p.part)) (marks p.is_stale w.number (drops_timer w.timer v)),
  )

  -- the result that was put first, of those on the board
  abbrev pub replies_one : Asked P → View → List Posted → Asked P × View
  replies_one a v [] = (a, v)
  replies_one a v (first ∷ rest) = replies_to first a (record v { board = rest }) (entry_at first.ticket a.waiting)

  abbrev pub replies_first : Asked P × View → Asked P × View
  replies_first x = replies_one x.0 x.1 x.1.board

  -- so many results, in the order in which they were put
  abbrev pub replies_many : ℕ → Asked P × View → Asked P × View
  replies_many zero x = x
  replies_many (suc n) x = replies_many n (replies_first x)

  abbrev pub replies : Asked P × View → Asked P × View
  replies x = replies_many (length x.1.board) x

-- the client while a row is made
pub record Client (U P : Type 0) : Type 0 where
  pub layer : U
  pub asked : Asked P
  pub view : View

-- As many timers as can fire: each has a number of 64 bits of its own, so where these are not enough, numbers have run out.
unfoldable pub most_timers : ℕ
most_timers = 2 ^ 64 - 1

module _ {U P : Type 0} where
  abbrev pub client_of : U → Asked P × View → Client U P
  client_of u x = record { layer = u; asked = x.0; view = x.1 }

  -- after a call of the transport, its results
  abbrev pub settles : Asked P → Option (U × View) → Option (Client U P)
  settles a after = option_and_then (λ x. Some (client_of x.0 (replies (a, x.1)))) after

  abbrev pub at_moment : ℕ → Client U P → Client U P
  at_moment moment c = record c { view = record c.view { now = max c.view.now moment } }

  -- a new row begins
  abbrev pub rested : Client U P → Client U P
  rested c = record c { view = record c.view { outs = []; request = 0; more = false } }

  -- no frame is known to stand
  abbrev pub calm : Client U P → Client U P
  calm c = record c { view = record c.view { more = false } }

  abbrev pub row_of : Event → Client U P → Row
  row_of e c = record { event = e; outs = c.view.outs }

  -- a row is made, and a new one begins
  abbrev pub row_and_rest : Event → Client U P → Row × Client U P
  row_and_rest e c = (row_of e c, rested c)

  abbrev pub then_rows : (Client U P → Option (List Row)) → Row × Client U P → Option (List Row)
  then_rows rows x = option_map (λ rest. x.0 ∷ rest) (rows x.1)

  module _ (m : Machine U P) where
    abbrev pub hears : Heard → Client U P → Option (Client U P)
    hears h c = settles c.asked (m.step h c.layer c.view)

    -- A request whose deadline passed gets what stands in for its result, or that it timed out, and is given up.
    abbrev pub times_out : Client U P → Option (Waiting P) → Option (Client U P)
    times_out c None = Some c
    times_out c (Some w) =
        option_and_then (λ x. Some (client_of x.0 (c.asked, x.1)))
        (m.cancel w.response c.layer (late_reply w.number (m.stale w.response c.layer c.view) c.view))

    abbrev pub fires_at : ℕ → Client U P → Option ℕ → Option (Client U P)
    fires_at timer c (Some ticket) = times_out (record c { asked = without_late timer (Some ticket) c.asked }) (entry_at ticket c.asked.waiting)
    fires_at timer c None = hears (due_timer timer) (record c { asked = without_late timer None c.asked })

    -- a timer fires: it is a deadline or the transport's
    abbrev pub fire : ℕ → Client U P → Option (Client U P)
    fire timer c = fires_at timer c (entry_at timer c.asked.deadlines)

    abbrev pub fires_first : (Client U P → Option (Client U P)) → Client U P → Option Timer → Option (Client U P)
    fires_first goes_on c None = Some c
    fires_first goes_on c (Some t) = option_and_then goes_on (fire t.id (record c { view = record c.view { timers = fired c.view.now c.view.timers } }))

    -- Timers fire until none is due. There is no client where so many are not enough.
    abbrev pub fires : ℕ → Client U P → Option (Client U P)
    fires zero c = None
    fires (suc n) c = fires_first (fires n) c (due_now c.view.now c.view.timers.set)

    abbrev pub fires_all : Client U P → Option (Client U P)
    fires_all c = fires most_timers c

    -- The transport is told what happened, or takes the next frame of a place.
    abbrev pub tells : What → Client U P → Option (Client U P)
    tells what c = hears (told what) (calm c)

    abbrev pub next_frame : ℕ → Client U P → Option (Client U P)
    next_frame place c = hears (more_at place) (calm c)

    -- The frames behind the first are taken one by one, and timers that are due fire before each, until no whole frame stands; at most so many.
    abbrev pub more_frames : ℕ → ℕ → Client U P → Option (Client U P)
    more_frames place zero c = Some c
    more_frames place (suc n) c =
        if c.view.more
        then option_and_then (more_frames place n) (option_and_then (next_frame place) (fires_all c))
        else Some c

    -- Octets come at a place: each frame that they complete has at least one of them.
    abbrev pub brings : ℕ → List ℕ → Client U P → Option (Client U P)
    brings place octets c = option_and_then (more_frames place (length octets)) (tells (Bytes place octets) c)

    -- A request is asked: it gets the next number and a deadline, and goes to the transport.
    abbrev pub accepts : ℕ → ℕ → P → Asked P → U × View → Client U P
    accepts timer number response a x =
        client_of x.0 (replies (waits (m.ticket response) timer (record { number = number; timer = timer; response = response }) a, x.1))

    abbrev pub sends : Request → Client U P → ℕ → View → Option (Client U P)
    sends request c timer v =
        option_and_then (λ x. Some (accepts timer c.asked.next (m.response request c.layer v) c.asked x)) (m.send request c.layer v)

  module _ (m : Machine U P) (timeout : ℕ) where
    abbrev pub asks_request : Request → Client U P → Option (Client U P)
    asks_request request c =
        if can_draw c.asked.next
        then option_and_then (sends m request c c.view.timers.next) (sets_timer (c.view.now + timeout) (record c.view { request = c.asked.next }))
        else None

    -- what an event does
    abbrev pub happens : What → Client U P → Option (Client U P)
    happens (Ask request) c = asks_request request c
    happens (Bytes place octets) c = brings m place octets c
    happens Tick c = Some c
    happens what c = tells m what c

    -- Timers that are due fire, then the event happens, and timers that are due fire again.
    abbrev pub client_step : Event → Client U P → Option (Client U P)
    client_step e c = option_and_then (fires_all m) (option_and_then (happens e.what) (fires_all m (at_moment e.moment.0 c)))

    abbrev pub row_step : Event → Client U P → Option (Row × Client U P)
    row_step e c = option_map (row_and_rest e) (client_step e c)

    -- the rows of a list of events; none where a number would pass 64 bits
    abbrev pub plain_rows : List Event → Client U P → Option (List Row)
    plain_rows [] c = Some []
    plain_rows (e ∷ es) c = option_and_then (then_rows (plain_rows es)) (row_step e c)

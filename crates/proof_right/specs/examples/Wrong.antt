-- Traces that no right client makes: of a request that is sent once, at place 0, under id 7; then by stream; then with the cache and with two servers.
use Rattle.right_trace.specs.Time.{recv_size}
use Rattle.std.specs.Prelude.{◌≡◌, ℕ, ◌<◌, ◌≤◌, true, false, Some, List, [], ◌∷◌, ◌++◌, length, take, Ok, Err}
use Rattle.client_request.specs.Request.{Request}
use Rattle.client_request.specs.declared.error.Error.TheVariants as errors
use Rattle.client_request.specs.declared.error.Error.TheVariants.{TimedOut, WrongReplyForQuery}
use Rattle.client_request.specs.declared.error.QueryError.TheVariants as query
use Rattle.client_request.specs.declared.fault.Fault.{Fault}
use Rattle.client_request.specs.declared.fault.Fault.TheVariants.{Refused}
use Rattle.client_request.specs.declared.event.What.TheVariants.{Ask, Opened, Datagram, RecvFailed, Bytes, Tick}
use Rattle.client_request.specs.declared.event.Out.{Out}
use Rattle.client_request.specs.declared.event.Out.TheVariants.{Start, OpenDgram, OpenStream, Send, Write, Close, Reply}
use Rattle.client_request.specs.declared.event.Row.{Row}
use Rattle.client_request.specs.declared.event.Via.TheVariants.{Dgram, Stream}
use Rattle.right_trace.specs.Trace.{Conf}
use Rattle.right_trace.specs.Messages.{Octets, CarriesBy, CarriesInFrame, answers, truncated}
use Rattle.right_trace.specs.Frames.{Length, fed, first_with}
use Rattle.right_trace.specs.Settings.{Settings}
use Rattle.right_trace.specs.Validity.{is_final}
use Rattle.proof_right.specs.examples.Messages.{plain_request, as_datagram, failing}
use Rattle.proof_right.specs.examples.Rows.{at}
use Rattle.proof_right.specs.examples.Cache.{asked_again, refused_twice}

-- By datagram

-- the request is asked, and its place opens; then it is sent, and these rows follow
abbrev pub asked : Request → List Row → List Row
asked r rows = at 0 (Ask r) (Start 0 0 Dgram ∷ OpenDgram 0 0 ∷ []) ∷ rows

abbrev pub sent : Request → Octets → List Row → List Row
sent r octets rows = asked r (at 0 (Opened 0) (Send 0 0 7 octets ∷ []) ∷ rows)

-- a request has two replies
abbrev pub replied_twice : Request → List Row
replied_twice r = at 0 (Ask r) (Start 0 0 Dgram ∷ OpenDgram 0 0 ∷ Reply 0 (Err TimedOut) ∷ Reply 0 (Err TimedOut) ∷ []) ∷ []

-- a place opens, and nothing is sent there
abbrev pub nothing_sent : Request → List Row
nothing_sent r = asked r (at 0 (Opened 0) [] ∷ [])

-- a datagram that comes at this moment is taken for the answer
abbrev pub taken : (c : Conf) → ℕ → Request → (octets message : Octets) → List Row
taken c moment r octets message = sent r octets (at moment (Datagram 0 message) (Close 0 ∷ Reply 0 (Ok (take (recv_size c) message)) ∷ []) ∷ [])

-- the place was closed after 5 s, and a datagram that comes there then is taken for the answer
abbrev pub taken_when_closed : (c : Conf) → Request → (octets message : Octets) → List Row
taken_when_closed c r octets message =
    sent r octets (at 5000000 Tick (Close 0 ∷ OpenDgram 1 0 ∷ []) ∷ at 5000001 (Datagram 0 message) (Reply 0 (Ok (take (recv_size c) message)) ∷ Close 1 ∷ []) ∷ [])

-- the request times out after 10 microseconds
abbrev pub timed_out_early : Request → Octets → List Row
timed_out_early r octets = sent r octets (at 10 Tick (Close 0 ∷ Reply 0 (Err TimedOut) ∷ []) ∷ [])

-- a datagram that comes is passed over
abbrev pub passed_over : Request → (octets message : Octets) → List Row
passed_over r octets message = sent r octets (at 0 (Datagram 0 message) [] ∷ [])

-- The request was sent as these octets to a server, and this datagram is its answer, which may not be passed over.
pub record IsItsAnswer (c : Conf) (s : Settings) (r : Request) (octets message : Octets) : Type 0 where
  pub has_server : 0 < length c.servers
  pub has_time : 0 < c.timeout
  pub carries : CarriesBy c Dgram octets r 7
  pub long : 12 ≤ length (take (recv_size c) message)
  pub answers_it : answers r 7 (take (recv_size c) message) ≡ true
  pub whole : truncated (take (recv_size c) message) ≡ false
  pub final : is_final s r (take (recv_size c) message) ≡ true

-- at this moment the request has no reply yet
abbrev pub still_waiting : ℕ → Request → Octets → List Row
still_waiting moment r octets = sent r octets (at moment Tick [] ∷ [])

-- the place is closed while its answer is waited for
abbrev pub closed_for_nothing : Request → Octets → List Row
closed_for_nothing r octets = sent r octets (at 1 Tick (Close 0 ∷ OpenDgram 1 0 ∷ []) ∷ [])

-- the request is sent before its place opened
abbrev pub sent_too_soon : Request → Octets → List Row
sent_too_soon r octets = at 0 (Ask r) (Start 0 0 Dgram ∷ OpenDgram 0 0 ∷ Send 0 0 7 octets ∷ []) ∷ []

-- it is sent at a place that no out opened
abbrev pub sent_nowhere : Request → Octets → List Row
sent_nowhere r octets = asked r (at 0 (Opened 0) (Send 5 0 7 octets ∷ []) ∷ [])

-- it is sent at a place of a server that it was not handed to
abbrev pub sent_elsewhere : Request → Octets → List Row
sent_elsewhere r octets = at 0 (Ask r) (Start 0 0 Dgram ∷ OpenDgram 0 1 ∷ []) ∷ at 0 (Opened 0) (Send 0 0 7 octets ∷ []) ∷ []

-- a failed reading is blamed on a place where nothing was sent
abbrev pub blamed_unsent : Request → Fault → List Row
blamed_unsent r f = asked r (at 0 (Opened 0) [] ∷ at 0 (RecvFailed 0 f) (Close 0 ∷ Reply 0 (Err (errors.Dgram (query.Receive f))) ∷ []) ∷ [])

-- a failed reading is blamed on a place that was closed after 5 s
abbrev pub blamed_when_closed : Request → Octets → Fault → List Row
blamed_when_closed r octets f =
    sent r octets (at 5000000 Tick (Close 0 ∷ OpenDgram 1 0 ∷ []) ∷ at 5000001 (RecvFailed 0 f) (Reply 0 (Err (errors.Dgram (query.Receive f))) ∷ Close 1 ∷ []) ∷ [])

-- the number of a place is opened twice
abbrev pub opened_twice : Request → List Row
opened_twice r = at 0 (Ask r) (Start 0 0 Dgram ∷ OpenDgram 0 0 ∷ OpenDgram 0 0 ∷ []) ∷ []

-- the place is closed twice in one row after 5 s, or again in a later row
abbrev pub closed_twice : Request → Octets → List Row
closed_twice r octets = sent r octets (at 5000000 Tick (Close 0 ∷ Close 0 ∷ OpenDgram 1 0 ∷ []) ∷ [])

abbrev pub closed_again : Request → Octets → List Row
closed_again r octets = sent r octets (at 5000000 Tick (Close 0 ∷ OpenDgram 1 0 ∷ []) ∷ at 5000001 Tick (Close 0 ∷ []) ∷ [])

-- a number is closed that no out opened
abbrev pub closed_unopened : List Row
closed_unopened = at 0 Tick (Close 0 ∷ []) ∷ []

-- the next request is handed over before it is asked
abbrev pub started_unasked : Request → List Row
started_unasked r = at 0 (Ask r) (Start 1 0 Dgram ∷ []) ∷ []

-- it is sent six times at once
abbrev pub sends_six : Octets → List Out
sends_six o = Send 0 0 7 o ∷ Send 0 0 7 o ∷ Send 0 0 7 o ∷ Send 0 0 7 o ∷ Send 0 0 7 o ∷ Send 0 0 7 o ∷ []

abbrev pub sent_at_once : Request → Octets → List Row
sent_at_once r octets = asked r (at 0 (Opened 0) (sends_six octets) ∷ [])

-- By stream

abbrev pub asked_by_stream : Request → List Row → List Row
asked_by_stream r rows = at 0 (Ask r) (Start 0 0 Stream ∷ OpenStream 0 0 ∷ []) ∷ rows

abbrev pub written : Request → Octets → List Row → List Row
written r octets rows = asked_by_stream r (at 0 (Opened 0) (Write 0 0 7 octets ∷ []) ∷ rows)

-- a message is taken from the octets that come at this moment
abbrev pub frame_taken : ℕ → Request → (octets piece message : Octets) → List Row
frame_taken moment r octets piece message = written r octets (at moment (Bytes 0 piece) (Reply 0 (Ok message) ∷ []) ∷ [])

-- the same before the request is written
abbrev pub taken_unwritten : Request → (piece message : Octets) → List Row
taken_unwritten r piece message = asked_by_stream r (at 0 (Opened 0) [] ∷ at 1 (Bytes 0 piece) (Reply 0 (Ok message) ∷ []) ∷ [])

-- octets that come are passed over
abbrev pub frame_passed_over : Request → (octets piece : Octets) → List Row
frame_passed_over r octets piece = written r octets (at 1 (Bytes 0 piece) [] ∷ [])

-- The request was written as these octets, and the first frame of the piece with its id is its answer, which may not be passed over.
pub record IsItsFrame (c : Conf) (s : Settings) (r : Request) (octets piece message : Octets) : Type 0 where
  pub has_server : 0 < length c.servers
  pub has_time : 1 < c.timeout
  pub carries : CarriesInFrame octets r 7
  pub first : first_with 7 (fed Length piece).frames ≡ Some message
  pub answers_it : answers r 7 message ≡ true
  pub final : is_final s r message ≡ true

-- a connection opens, and nothing is written there
abbrev pub nothing_written : Request → List Row
nothing_written r = asked_by_stream r (at 0 (Opened 0) [] ∷ [])

-- the connection is closed while its frame is waited for
abbrev pub stream_closed_for_nothing : Request → Octets → List Row
stream_closed_for_nothing r octets = written r octets (at 1 Tick (Close 0 ∷ []) ∷ [])

-- the request gets the error of a wrong reply, and no frame came
abbrev pub wrong_without_frame : Request → Octets → List Row
wrong_without_frame r octets = written r octets (at 1 Tick (Reply 0 (Err WrongReplyForQuery) ∷ []) ∷ [])

-- a second connection opens while the first opens; or while it is open, with one id held
abbrev pub second_while_opening : Request → List Row
second_while_opening r = at 0 (Ask r) (Start 0 0 Stream ∷ OpenStream 0 0 ∷ OpenStream 1 0 ∷ []) ∷ []

abbrev pub second_while_open : Request → Octets → List Row
second_while_open r octets = written r octets (at 1 Tick (OpenStream 1 0 ∷ []) ∷ [])

-- With the cache

-- a message is given that nobody got before
abbrev pub invented : Request → (message : Octets) → List Row
invented r message = at 0 (Ask r) (Reply 0 (Ok message) ∷ []) ∷ []

-- the answer of 100 seconds that came at 0 is followed by this asking and this reply
abbrev pub asked_then : ℕ → Request → (message : Octets) → List Row
asked_then moment r message = take 3 asked_again ++ at moment (Ask r) (Reply 1 (Ok message) ∷ []) ∷ []

-- an error that is kept for 30 s is given again at this moment
abbrev pub refused_again : ℕ → List Row
refused_again moment = take 2 refused_twice ++ at moment (Ask plain_request) (Reply 1 (Err (errors.Dgram (query.Connect Refused))) ∷ []) ∷ []

-- it is given a third time, counted from the second
abbrev pub refused_thrice : List Row
refused_thrice = refused_twice ++ at 31000000 (Ask plain_request) (Reply 2 (Err (errors.Dgram (query.Connect Refused))) ∷ []) ∷ []

-- With two servers

-- SERVFAIL, which is deferred, is given before the other server was tried
abbrev pub failing_at_once : List Row
failing_at_once =
    at 0 (Ask plain_request) (Start 0 1 Dgram ∷ OpenDgram 0 1 ∷ [])
    ∷ at 0 (Opened 0) (Send 0 0 0 (as_datagram 0 0) ∷ [])
    ∷ at 10000 (Datagram 0 failing) (Close 0 ∷ Reply 0 (Ok failing) ∷ [])
    ∷ []

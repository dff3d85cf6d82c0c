-- Worked traces by stream, and what the definitions compute of them.
use Rattle.std.specs.Prelude.{◌≡◌, true, false, Some, List, [], ◌∷◌, ◌++◌, Ok, Err}
use Rattle.client_request.specs.declared.error.Error.TheVariants.{WrongReplyForQuery}
use Rattle.client_request.specs.declared.fault.Fault.TheVariants.{Refused}
use Rattle.client_request.specs.declared.event.What.TheVariants.{Ask, Opened, OpenFailed, Datagram, Wrote, Bytes, Tick}
use Rattle.client_request.specs.declared.event.Out.TheVariants.{Start, OpenDgram, OpenStream, Send, Write, Resume, Close, Reply}
use Rattle.client_request.specs.declared.event.Row.{Row}
use Rattle.client_request.specs.declared.event.Via.TheVariants.{Dgram, Stream}
use Rattle.right_trace.specs.Time.{idle_timeout}
use Rattle.right_trace.specs.Messages.{answers, truncated, keepalive_of}
use Rattle.right_trace.specs.Requests.{start}
use Rattle.right_trace.specs.Places.{site, stand, Opening, Gone, live, demand}
use Rattle.right_trace.specs.Frames.{came, first_with, has_bad}
use Rattle.right_trace.specs.Writes.{waiting, waiting_with, writing, is_unwritten}
use Rattle.right_trace.specs.Timers.{quiet, idle, idle_with, ends_loose}
use Rattle.right_trace.specs.Exchanges.{waited_for}
use Rattle.right_trace.specs.Busy.{IsBusyAt}
use Rattle.proof_right.specs.examples.Messages.{plain_request, aaaa_request, as_datagram, frame, as_frame, as_second_frame, last_eleven, answer, cut_answer, empty_answer, second_answer, other_answer, closing_answer, no_header}
use Rattle.proof_right.specs.examples.Rows.{at, so_far, by_streams, by_datagrams}

-- an answer by datagram is cut, so the request goes on by stream; a later datagram for the closed place is nothing
abbrev pub cut_goes_on : List Row
cut_goes_on =
    at 0 (Ask plain_request) (Start 0 0 Dgram ∷ OpenDgram 0 0 ∷ [])
    ∷ at 10 (Opened 0) (Send 0 0 4660 (as_datagram 18 52) ∷ [])
    ∷ at 20000 (Datagram 0 (cut_answer 18 52)) (Close 0 ∷ Start 0 0 Stream ∷ OpenStream 1 0 ∷ [])
    ∷ at 20001 (Datagram 0 (answer 18 52 100)) []
    ∷ at 20002 (Opened 1) (Write 1 0 0 as_frame ∷ [])
    ∷ at 20003 (Wrote 1 46) []
    ∷ at 20004 (Bytes 1 (frame (answer 0 0 100))) (Reply 0 (Ok (answer 0 0 100)) ∷ [])
    ∷ []

-- two requests on one connection: the second is written once the first is, and both answers come in one piece
abbrev pub two_on_one : List Row
two_on_one =
    at 0 (Ask plain_request) (Start 0 0 Stream ∷ OpenStream 0 0 ∷ [])
    ∷ at 0 (Ask aaaa_request) (Start 1 0 Stream ∷ [])
    ∷ at 0 (Opened 0) (Write 0 0 0 as_frame ∷ [])
    ∷ at 0 (Wrote 0 46) (Write 0 1 1 as_second_frame ∷ [])
    ∷ at 0 (Wrote 0 20) (Resume 0 last_eleven ∷ [])
    ∷ at 0 (Wrote 0 11) []
    ∷ at 0 (Bytes 0 (frame (answer 0 0 100) ++ frame second_answer)) (Reply 0 (Ok (answer 0 0 100)) ∷ Reply 1 (Ok second_answer) ∷ [])
    ∷ []

-- one request is written at 0, and these rows follow
abbrev pub written : List Row → List Row
written rows =
    at 0 (Ask plain_request) (Start 0 0 Stream ∷ OpenStream 0 0 ∷ [])
    ∷ at 0 (Opened 0) (Write 0 0 0 as_frame ∷ [])
    ∷ at 0 (Wrote 0 46) []
    ∷ rows

-- a frame without a whole header: the place is closed, and another opens after the back-off
abbrev pub bad_frame_ends : List Row
bad_frame_ends = written (at 100 (Bytes 0 (frame no_header)) (Close 0 ∷ []) ∷ at 101 Tick (OpenStream 1 0 ∷ []) ∷ [])

-- a frame with another question; the true answer comes too late
abbrev pub wrong_question : List Row
wrong_question = written (at 100 (Bytes 0 (frame other_answer)) (Reply 0 (Err WrongReplyForQuery) ∷ []) ∷ at 101 (Bytes 0 (frame (answer 0 0 100))) [] ∷ [])

-- the opening is refused, and another one follows after the back-off
abbrev pub opening_refused : List Row
opening_refused =
    at 0 (Ask plain_request) (Start 0 0 Stream ∷ OpenStream 0 0 ∷ [])
    ∷ at 0 (OpenFailed 0 Refused) []
    ∷ at 1 Tick (OpenStream 1 0 ∷ [])
    ∷ []

-- an answer says an idle time of 0, so the place ends with it; the frame behind it is nobody's
abbrev pub frame_behind_the_end : List Row
frame_behind_the_end = written (at 100 (Bytes 0 (frame closing_answer ++ frame empty_answer)) (Reply 0 (Ok closing_answer) ∷ Close 0 ∷ []) ∷ [])

pub record WorkedStreams : Type 0 where
  -- the cut answer
  pub cut_opens : stand 1 (so_far 3 cut_goes_on) ≡ Opening
  pub cut_site : site 1 (so_far 3 cut_goes_on) ≡ Some (record { via = Stream; server = 0 })
  pub is_cut : truncated (cut_answer 18 52) ≡ true
  pub cut_answers : answers plain_request 4660 (cut_answer 18 52) ≡ true
  pub demand_before : demand 0 (so_far 2 cut_goes_on) ≡ 1
  pub demand_after : demand 0 (so_far 3 cut_goes_on) ≡ 0
  pub live_after : live 0 (so_far 3 cut_goes_on) ≡ 0
  pub comes_nowhere : came 0 (Datagram 0 (answer 18 52 100)) (so_far 3 cut_goes_on) ≡ []
  pub handed_at : start 0 0 Stream (so_far 3 cut_goes_on) ≡ Some 20000
  pub waits_for_a_frame : waiting 1 0 (so_far 5 cut_goes_on) ≡ record { request = 0; octets = as_frame; moment = 20002 } ∷ []
  pub unwritten : is_unwritten 1 (so_far 5 cut_goes_on) ≡ true
  pub all_written : is_unwritten 1 (so_far 6 cut_goes_on) ≡ false
  pub open_for_30_s : waited_for by_datagrams Stream plain_request 0 1 0 0 30019999 [] (so_far 6 cut_goes_on) (so_far 6 cut_goes_on) ≡ as_frame ∷ []
  pub no_longer : waited_for by_datagrams Stream plain_request 0 1 0 0 30020000 [] (so_far 6 cut_goes_on) (so_far 6 cut_goes_on) ≡ []
  pub frame_comes : came 1 (Bytes 1 (frame (answer 0 0 100))) (so_far 6 cut_goes_on) ≡ answer 0 0 100 ∷ []
  pub frame_answers : answers plain_request 0 (answer 0 0 100) ≡ true
  pub id_is_free : waiting 1 0 (so_far 7 cut_goes_on) ≡ []
  pub quiet_since : quiet 1 (so_far 7 cut_goes_on) ≡ 20004
  pub first_idle_time : idle by_datagrams 1 (so_far 7 cut_goes_on) ≡ idle_timeout by_datagrams
  pub no_loose_end : ends_loose 1 (so_far 7 cut_goes_on) ≡ false
  -- two on one connection
  pub second_write : writing 0 (so_far 4 two_on_one) ≡ record { wanted = 31; taken = 0; was_free = false; takes = 46; again = true }
  pub partly_taken : writing 0 (so_far 5 two_on_one) ≡ record { wanted = 31; taken = 20; was_free = false; takes = 20; again = false }
  pub all_taken : is_unwritten 0 (so_far 6 two_on_one) ≡ false
  pub second_waits : waiting 0 1 (so_far 6 two_on_one) ≡ record { request = 1; octets = as_second_frame; moment = 0 } ∷ []
  pub two_frames : came 0 (Bytes 0 (frame (answer 0 0 100) ++ frame second_answer)) (so_far 6 two_on_one) ≡ answer 0 0 100 ∷ second_answer ∷ []
  pub second_frame : first_with 1 (answer 0 0 100 ∷ second_answer ∷ []) ≡ Some second_answer
  -- a bad frame
  pub is_bad : has_bad (came 0 (Bytes 0 (frame no_header)) (so_far 3 bad_frame_ends)) ≡ true
  pub is_closed : stand 0 (so_far 4 bad_frame_ends) ≡ Gone
  pub backs_off : IsBusyAt by_streams 0 0 (so_far 4 bad_frame_ends)
  pub opens_again : stand 1 (so_far 5 bad_frame_ends) ≡ Opening
  -- another question
  pub is_no_answer : answers plain_request 0 other_answer ≡ false
  pub frees_the_id : waiting 0 0 (so_far 4 wrong_question) ≡ []
  pub late_frame : ends_loose 0 (so_far 5 wrong_question) ≡ true
  -- a refused opening
  pub has_ended : stand 0 (so_far 2 opening_refused) ≡ Gone
  pub backs_off_too : IsBusyAt by_streams 0 0 (so_far 2 opening_refused)
  -- frames behind an end
  pub says_zero : keepalive_of closing_answer ≡ Some 0
  pub idle_is_zero : idle_with by_datagrams (closing_answer ∷ []) 0 (so_far 4 frame_behind_the_end) ≡ 0
  pub nothing_is_held : waiting_with (closing_answer ∷ []) 0 0 (so_far 4 frame_behind_the_end) ≡ []
  pub two_came : came 0 (Bytes 0 (frame closing_answer ++ frame empty_answer)) (so_far 3 frame_behind_the_end) ≡ closing_answer ∷ empty_answer ∷ []

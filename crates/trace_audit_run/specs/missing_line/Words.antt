-- What happened and what was put out, in words.
use Rattle.std.specs.Prelude.{ℕ, ◌||◌, not, Bool, true, false, if◌then◌else◌, List, [], ◌∷◌, ◌++◌, codes, Option, Some, None, Result, Ok, Err}
use Rattle.std.specs.Fmt.{decimal}
use Rattle.client_request.specs.declared.error.Error.{Error}
use Rattle.client_request.specs.declared.event.{Event.Event, What.What, Out.Out}
use Rattle.client_request.specs.declared.event.What.TheVariants.{Ask, Opened, OpenFailed, SendFailed, ShortSend, Datagram, RecvFailed, Wrote, WriteFailed, Bytes, ReadFailed, Ended, Tick}
use Rattle.client_request.specs.declared.event.Out.TheVariants.{Start, OpenDgram, OpenStream, Send, Write, Resume, Close, Stale, Reply}
use Rattle.trace_judge.specs.declared.verdict.Clause.{Clause}
use Rattle.trace_judge.specs.declared.verdict.Clause.TheVariants.{Events, Messages, Firsts, Causes, Orders, Prompts}

-- what happened, before the number of the place
abbrev pub words_of : What → List ℕ
words_of (Ask q) = codes " a request was asked"
words_of (Opened p) = codes " a socket was opened at place "
words_of (OpenFailed p f) = codes " no socket could be opened at place "
words_of (SendFailed p f) = codes " a datagram could not be sent at place "
words_of (ShortSend p) = codes " a datagram was sent in part at place "
words_of (Datagram p o) = codes " a datagram came at place "
words_of (RecvFailed p f) = codes " no datagram could be received at place "
words_of (Wrote p n) = codes " octets were taken at place "
words_of (WriteFailed p f) = codes " nothing could be written at place "
words_of (Bytes p o) = codes " octets came at place "
words_of (ReadFailed p f) = codes " nothing could be read at place "
words_of (Ended p) = codes " the stream ended at place "
words_of Tick = codes " time went by"

abbrev pub place_of : What → Option ℕ
place_of (Ask q) = None
place_of (Opened p) = Some p
place_of (OpenFailed p f) = Some p
place_of (SendFailed p f) = Some p
place_of (ShortSend p) = Some p
place_of (Datagram p o) = Some p
place_of (RecvFailed p f) = Some p
place_of (Wrote p n) = Some p
place_of (WriteFailed p f) = Some p
place_of (Bytes p o) = Some p
place_of (ReadFailed p f) = Some p
place_of (Ended p) = Some p
place_of Tick = None

-- the number, if there is one
abbrev pub numbered : Option ℕ → List ℕ
numbered None = []
numbered (Some n) = decimal n

abbrev pub what_words : What → List ℕ
what_words w = words_of w ++ numbered (place_of w)

-- when, what and where
abbrev pub event_words : Event → List ℕ
event_words e = codes "at " ++ decimal e.moment.0 ++ what_words e.what

-- of what number something was done
unfoldable pub done : (of : List ℕ) → ℕ → (words : List ℕ) → List ℕ
done of n words = of ++ decimal n ++ words

-- and to which other one
unfoldable pub done_to : (of : List ℕ) → ℕ → (words : List ℕ) → ℕ → List ℕ
done_to of n words m = of ++ decimal n ++ words ++ decimal m

abbrev pub given : {M : Type 0} → Result M Error → List ℕ
given (Ok m) = codes " was given a message"
given (Err e) = codes " was given an error"

-- what was put out
abbrev pub out_words : Out → List ℕ
out_words (Start k s v) = done_to (codes "request ") k (codes " was handed to server ") s
out_words (OpenDgram p s) = done_to (codes "place ") p (codes " was opened to server ") s
out_words (OpenStream p s) = done_to (codes "place ") p (codes " was opened to server ") s
out_words (Send p k i o) = done_to (codes "request ") k (codes " was sent at place ") p
out_words (Write p k i o) = done_to (codes "request ") k (codes " was written at place ") p
out_words (Resume p o) = done (codes "place ") p (codes " was written to again")
out_words (Close p) = done (codes "place ") p (codes " was closed")
out_words (Stale k) = done (codes "request ") k (codes " was marked for a stale reply")
out_words (Reply k x) = done (codes "request ") k (given x)

abbrev pub is_ok : {M E : Type 0} → Result M E → Bool
is_ok (Ok m) = true
is_ok (Err e) = false

abbrev pub is_reply : Out → Bool
is_reply (Reply k x) = true
is_reply _ = false

abbrev pub gives_message : Out → Bool
gives_message (Reply k x) = is_ok x
gives_message _ = false

abbrev pub gives_error : Out → Bool
gives_error (Reply k x) = not (is_ok x)
gives_error _ = false

-- of which outs a clause is asked
abbrev pub is_asked : Clause → Out → Bool
is_asked Events o = false
is_asked Messages o = gives_message o
is_asked Firsts o = is_reply o
is_asked Causes o = gives_error o
is_asked Orders o = not (is_reply o)
is_asked Prompts o = false

abbrev pub is_asked_of_some : Clause → List Out → Bool
is_asked_of_some x [] = false
is_asked_of_some x (o ∷ os) = is_asked x o || is_asked_of_some x os

abbrev pub asked_words : Clause → Out → List ℕ
asked_words x o = if is_asked x o then codes ", " ++ out_words o else []

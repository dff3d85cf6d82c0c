-- When requests are handed on, and places opened and closed.
use Rattle.std.specs.Prelude.{◌≡◌, ℕ, ◌+◌, ◌≤◌, min, true, false, Some, List, [], ◌∷◌, zero, suc, ◌==◌, if◌then◌else◌, Option, None}
use Rattle.client_request.specs.Request.{Request}
use Rattle.client_request.specs.declared.event.What.{What}
use Rattle.client_request.specs.declared.event.Out.{Out}
use Rattle.client_request.specs.declared.event.Out.TheVariants.{Send}
use Rattle.client_request.specs.declared.event.Via.{Via}
use Rattle.client_request.specs.declared.event.Via.TheVariants.{Dgram, Stream}
use Rattle.right_trace.specs.Trace.{History, Conf, Came, Put, Use, ByDatagrams, ByStreams}
use Rattle.right_trace.specs.Time.{now, read_timeout, id_count, max_places}
use Rattle.right_trace.specs.Messages.{Octets, CarriesBy, answers, truncated, is_valid}
use Rattle.right_trace.specs.Requests.{Asking, asking, replied, started}
use Rattle.right_trace.specs.Places.{is_at, live, demand, Site, site, is_told, Opening, Alive, stand}
use Rattle.right_trace.specs.Settings.{Settings, defers_nothing}
use Rattle.right_trace.specs.Frames.{came, has_bad}
use Rattle.right_trace.specs.Writes.{waiting_with, held_with}
use Rattle.right_trace.specs.Timers.{ReadTimerIsDue, IdleTimerIsDue}
use Rattle.right_trace.specs.Exchanges.{Comes}

-- In what follows `past` is what happened before the row, `w` is the row's event, `h` is what happened up to here, and `end` is what happened when the row is done.

-- how server number s is used
abbrev pub use_at : ℕ → List Use → Option Use
use_at s [] = None
use_at zero (u ∷ us) = Some u
use_at (suc s) (u ∷ us) = use_at s us

-- a truncated datagram that answers the request came for it in this row
pub record CutAnswerCame (c : Conf) (k s : ℕ) (past : History) (w : What) (h : History) : Type 0 where
  pub request : Request
  pub place : ℕ
  pub id : ℕ
  pub message : Octets
  pub comes : Comes c request Dgram s place k id message past w h
  pub agrees : answers request id message ≡ true
  pub cut : truncated message ≡ true

-- a request is handed to a server of the configuration once by each way: as the server is used, and by stream also once its answer was cut
pub data MayStart (c : Conf) (k s : ℕ) (past : History) (w : What) (h : History) : Via → Type 0 where
  FirstDatagram : use_at s c.servers ≡ Some ByDatagrams → started k s Dgram h ≡ false → MayStart c k s past w h Dgram
  FirstStream : use_at s c.servers ≡ Some ByStreams → started k s Stream h ≡ false → MayStart c k s past w h Stream
  AfterCutAnswer : use_at s c.servers ≡ Some ByDatagrams → started k s Stream h ≡ false → CutAnswerCame c k s past w h → MayStart c k s past w h Stream

-- a stream place is opened only where none of the server opens and each that is alive holds all ids, the row's frames not counted
pub record MayOpenStream (s : ℕ) (h : History) : Type 0 where
  pub none_opens : (p : ℕ) → is_at Stream s p h ≡ true → stand p h ≡ Opening → ⊥
  pub all_full : (p : ℕ) → is_at Stream s p h ≡ true → stand p h ≡ Alive → id_count ≤ held_with [] p h

-- a send at a place: whose, and when
pub record Sending : Type 0 where
  pub request : ℕ
  pub moment : ℕ

abbrev pub sending_of : (p : ℕ) → Out → (n : ℕ) → Option Sending → Option Sending
sending_of p (Send q j i o) n x = if q == p then Some (record { request = j; moment = n }) else x
sending_of p _ n x = x

-- the last send at place p
abbrev pub sending : (p : ℕ) → History → Option Sending
sending p [] = None
sending p (Came e ∷ h) = sending p h
sending p (Put o ∷ h) = sending_of p o (now h) (sending p h)

-- What is sent or written stands at a place that is alive at that point, of its kind and of a server that has the request so, and carries the request; a datagram place had no send, and nothing waits under the id of a write, no frame of the row counted ; the request has no reply in an earlier row.
pub record MaySend (c : Conf) (k p id : ℕ) (octets : Octets) (past h : History) : Type 0 where
  pub waits : replied k past ≡ false
  pub server : ℕ
  pub at : site p h ≡ Some (record { via = Dgram; server = server })
  pub alive : stand p h ≡ Alive
  pub begun : started k server Dgram h ≡ true
  pub request : Request
  pub asked : (t : ℕ) × (asking k h ≡ Some (record { request = request; moment = t }))
  pub carries : CarriesBy c Dgram octets request id
  pub first : sending p h ≡ None

pub record MayWrite (c : Conf) (k p id : ℕ) (octets : Octets) (past h : History) : Type 0 where
  pub waits : replied k past ≡ false
  pub server : ℕ
  pub at : site p h ≡ Some (record { via = Stream; server = server })
  pub alive : stand p h ≡ Alive
  pub begun : started k server Stream h ≡ true
  pub request : Request
  pub asked : (t : ℕ) × (asking k h ≡ Some (record { request = request; moment = t }))
  pub carries : CarriesBy c Stream octets request id
  pub free : waiting_with [] p id h ≡ []

-- the request has its reply in this row, here or later
pub record RepliedHere (k : ℕ) (past end : History) : Type 0 where
  pub now : replied k end ≡ true
  pub not_before : replied k past ≡ false

-- an answer to the request came at the place in this row
pub record Answered (c : Conf) (p k : ℕ) (past : History) (w : What) (h : History) : Type 0 where
  pub request : Request
  pub server : ℕ
  pub id : ℕ
  pub message : Octets
  pub comes : Comes c request Dgram server p k id message past w h
  pub agrees : answers request id message ≡ true

-- why a datagram place is closed
pub data MayCloseDgram (c : Conf) (p : ℕ) (past : History) (w : What) (h end : History) : Type 0 where
  ItsFault : is_told p w ≡ true → MayCloseDgram c p past w h end
  ItsAnswer : (x : Sending) → sending p h ≡ Some x → Answered c p x.request past w h → MayCloseDgram c p past w h end
  ItsTimeout : (x : Sending) → sending p h ≡ Some x → x.moment + read_timeout c ≤ now h → MayCloseDgram c p past w h end
  ItsReply : (x : Sending) → sending p h ≡ Some x → RepliedHere x.request past end → MayCloseDgram c p past w h end
  ReplyBeforeItsSend : (x : Site) → site p h ≡ Some x → sending p h ≡ None → (k : ℕ) → started k x.server Dgram h ≡ true → RepliedHere k past end → MayCloseDgram c p past w h end
  InvalidBeforeItsSend : (x : Site) → site p h ≡ Some x → sending p h ≡ None → (k : ℕ) (a : Asking) → asking k h ≡ Some a → is_valid a.request ≡ false → started k x.server Dgram h ≡ true → MayCloseDgram c p past w h end

-- why a stream place is closed
pub data MayCloseStream (c : Conf) (p : ℕ) (past : History) (w : What) (h : History) : Type 0 where
  StreamFault : is_told p w ≡ true → MayCloseStream c p past w h
  BadFrame : has_bad (came p w past) ≡ true → MayCloseStream c p past w h
  ReadTimer : ReadTimerIsDue c p (now h) past → MayCloseStream c p past w h
  IdleTimer : IdleTimerIsDue c p h → MayCloseStream c p past w h

-- why a place is closed
pub data MayClose (c : Conf) (p : ℕ) (past : History) (w : What) (h end : History) : Type 0 where
  OfDgram : (s : ℕ) → is_at Dgram s p h ≡ true → MayCloseDgram c p past w h end → MayClose c p past w h end
  OfStream : (s : ℕ) → is_at Stream s p h ≡ true → MayCloseStream c p past w h → MayClose c p past w h end

-- At most as many datagram places of each server are live as requests wait there, and at most as many as are set; just so many where nothing is deferred.
abbrev pub PlacesAreMet : (c : Conf) (s : Settings) (end : History) → Type 0
PlacesAreMet c s end = (i : ℕ) → (live i end ≤ min (max_places c) (demand i end)) × (defers_nothing s ≡ true → live i end ≡ min (max_places c) (demand i end))

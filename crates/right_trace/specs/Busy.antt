-- Why a request waits.
use Rattle.std.specs.Prelude.{◌≡◌, ℕ, ◌+◌, ◌<◌, ◌≤◌, ◌⊎◌, ◌==◌, ◌&&◌, not, Bool, true, false, Option, Some, [], ◌∷◌}
use Rattle.client_request.specs.Request.{Request}
use Rattle.client_request.specs.declared.event.Event.{Event}
use Rattle.client_request.specs.declared.fault.Fault.{Fault}
use Rattle.client_request.specs.declared.event.What.TheVariants.{OpenFailed}
use Rattle.client_request.specs.declared.event.Out.TheVariants.{OpenStream, Close}
use Rattle.client_request.specs.declared.event.Via.{Via}
use Rattle.client_request.specs.declared.event.Via.TheVariants.{Dgram, Stream}
use Rattle.right_trace.specs.Trace.{History, Conf, Came, Put}
use Rattle.right_trace.specs.Time.{now, newest, row_before, Ever, back_off, count_below, id_count, max_places}
use Rattle.right_trace.specs.Requests.{started}
use Rattle.right_trace.specs.Places.{Stand, is_at, reach, stand, Unused, Opening, Alive, is_live, is_told}
use Rattle.right_trace.specs.Orderly.{Sending, sending}
use Rattle.right_trace.specs.Frames.{came_here, has_bad}
use Rattle.right_trace.specs.Writes.{held_with, is_unwritten}
use Rattle.right_trace.specs.Timers.{ReadTimerIsDue, IdleTimerIsDue}
use Rattle.right_trace.specs.Exchanges.{IsLeftOpen}

-- why a connection that is closed makes its requests back off
pub data EndsBadly (c : Conf) (p : ℕ) (h : History) : Type 0 where
  ByFault : is_told p (newest h) ≡ true → EndsBadly c p h
  ByBadFrame : has_bad (came_here p h) ≡ true → EndsBadly c p h
  ByReadTimer : ReadTimerIsDue c p (now h) (row_before h) → EndsBadly c p h
  IdleAmidWriting : IdleTimerIsDue c p h → (is_unwritten p (row_before h) ≡ true) ⊎ (is_unwritten p h ≡ true) → EndsBadly c p h

-- what makes requests by stream back off at server s: said at the point where it happened
pub data BreaksOff (c : Conf) (s : ℕ) (h : History) : Type 0 where
  OpeningFailed : (e : Event) (p : ℕ) (f : Fault) (before : History) → h ≡ Came e ∷ before → e.what ≡ OpenFailed p f → is_at Stream s p before ≡ true → stand p before ≡ Opening → BreaksOff c s h
  OpeningFailedAtOnce : (p : ℕ) (f : Fault) (before : History) → h ≡ Put (OpenStream p s) ∷ before → newest before ≡ OpenFailed p f → stand p before ≡ Unused → BreaksOff c s h
  IdsAreUsed : (p : ℕ) → is_at Stream s p h ≡ true → stand p h ≡ Alive → id_count ≤ held_with [] p h → BreaksOff c s h
  ConnectionEnded : (p : ℕ) (before : History) → h ≡ Put (Close p) ∷ before → is_at Stream s p before ≡ true → is_live (stand p before) ≡ true → EndsBadly c p before → BreaksOff c s h

-- it happened at server s, less than so long before moment n
pub record HappenedWithin (c : Conf) (time s n : ℕ) (h : History) : Type 0 where
  pub recent : n < now h + time
  pub broke : BreaksOff c s h

-- a datagram place that opens, or where another request than k was sent
abbrev pub is_taken : (k : ℕ) → Stand → Option Sending → Bool
is_taken k Opening x = true
is_taken k Alive (Some x) = not (x.request == k)
is_taken k _ x = false

-- how many datagram places of server s are so
abbrev pub taken_from : (s k : ℕ) → History → ℕ
taken_from s k h = count_below (λ p. is_at Dgram s p h && is_taken k (stand p h) (sending p h)) (reach h)

-- Request k waits for something at server s, which it was handed to: an answer, a place that opens, one of the places that others have all taken, a write that is under way, or the end of a back-off.
pub data IsBusyAt (c : Conf) (s k : ℕ) (h : History) : Type 0 where
  Exchanging : (r : Request) (v u : Via) (p id : ℕ) → started k s u h ≡ true → IsLeftOpen c r v s p k id h → IsBusyAt c s k h
  PlaceIsOpening : (p : ℕ) → started k s Dgram h ≡ true → is_at Dgram s p h ≡ true → stand p h ≡ Opening → IsBusyAt c s k h
  PlacesAreTaken : started k s Dgram h ≡ true → max_places c ≤ taken_from s k h → IsBusyAt c s k h
  StreamIsOpening : (p : ℕ) → started k s Stream h ≡ true → is_at Stream s p h ≡ true → stand p h ≡ Opening → IsBusyAt c s k h
  StreamIsWriting : (p : ℕ) → started k s Stream h ≡ true → is_at Stream s p h ≡ true → stand p h ≡ Alive → is_unwritten p h ≡ true → IsBusyAt c s k h
  BackingOff : started k s Stream h ≡ true → Ever (HappenedWithin c (back_off + back_off) s (now h)) h → IsBusyAt c s k h

-- Request k is busy at some server.
abbrev pub IsBusy : (c : Conf) (k : ℕ) (h : History) → Type 0
IsBusy c k h = (s : ℕ) × IsBusyAt c s k h

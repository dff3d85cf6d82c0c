-- Since when a stream place is quiet, how long it may be idle, and when its two timers are due.
use Rattle.right_trace.specs.Writes.{IsWritten, Written, is_any, is_unwritten, waiting, waiting_with}
use Rattle.right_trace.specs.Frames.{but_last, came_here, has_frame, is_bad, last_of}
use Rattle.std.specs.Prelude.{◌≡◌, ℕ, ◌+◌, ◌<◌, ◌≤◌, Bool, true, false, not, ◌&&◌, ◌||◌, ◌==◌, if◌then◌else◌, Option, Some, None, List, [], ◌∷◌, ◌++◌}
use Rattle.client_request.specs.declared.event.What.{What}
use Rattle.client_request.specs.declared.event.What.TheVariants.{Opened}
use Rattle.client_request.specs.declared.event.Out.{Out}
use Rattle.client_request.specs.declared.event.Out.TheVariants.{OpenStream}
use Rattle.client_request.specs.declared.event.Via.TheVariants.{Stream}
use Rattle.right_trace.specs.Trace.{History, Conf, Came, Put}
use Rattle.right_trace.specs.Time.{now, newest, response_timeout, idle_timeout}
use Rattle.right_trace.specs.Messages.{Octets, is_valid, id_in, keepalive_of}
use Rattle.right_trace.specs.Requests.{Asking, asking, started}
use Rattle.right_trace.specs.Places.{site, Alive, stand, is_unused, is_opening}

-- In what follows `ms` are the frames of the newest row that count. Each fold has two names: one with `ms`, and one in which all count.

-- an event says that p opened
abbrev pub is_opened : (p : ℕ) → What → Bool
is_opened p (Opened q) = q == p
is_opened p _ = false

-- an out opens p as a stream place
abbrev pub is_open_of : (p : ℕ) → Out → Bool
is_open_of p (OpenStream q s) = q == p
is_open_of p _ = false

-- since when p is quiet: the moment of its last frame, else of its opening
abbrev pub quiet_with : (ms : List Octets) → (p : ℕ) → History → ℕ
quiet_with ms p [] = 0
quiet_with ms p (Came e ∷ h) = if (is_opened p e.what && is_opening (stand p h)) || has_frame ms then now (Came e ∷ h) else quiet_with (came_here p h) p h
quiet_with ms p (Put o ∷ h) = if is_open_of p o && (is_opened p (newest h) && is_unused (stand p h)) then now h else quiet_with ms p h

abbrev pub quiet : (p : ℕ) → History → ℕ
quiet p h = quiet_with (came_here p h) p h

-- the idle time that a frame says, if it says one
abbrev pub told_idle : Option ℕ → (before : ℕ) → ℕ
told_idle (Some t) n = t
told_idle None n = n

-- the last that these frames say
abbrev pub last_keepalive : List Octets → (before : ℕ) → ℕ
last_keepalive [] n = n
last_keepalive (m ∷ ms) n = last_keepalive ms (if is_bad m then n else told_idle (keepalive_of m) n)

-- how long p may be idle: what the last keepalive option of two octets said there (RFC 7828 3.4)
abbrev pub idle_with : (c : Conf) (ms : List Octets) → (p : ℕ) → History → ℕ
idle_with c ms p [] = idle_timeout c
idle_with c ms p (Came e ∷ h) = last_keepalive ms (idle_with c (came_here p h) p h)
idle_with c ms p (Put o ∷ h) = idle_with c ms p h

abbrev pub idle : (c : Conf) (p : ℕ) → History → ℕ
idle c p h = idle_with c (came_here p h) p h

-- The idle timer of p is due in the newest row: before its event, or after some of the frames that came, the later ones not counted.
pub record IdleTimerIsDue (c : Conf) (p : ℕ) (h : History) : Type 0 where
  pub counted : List Octets
  pub later : List Octets
  pub came : came_here p h ≡ counted ++ later
  pub alive : stand p h ≡ Alive
  pub unheld : (id : ℕ) → waiting_with counted p id h ≡ []
  pub passed : quiet_with counted p h + idle_with c counted p h ≤ now h

-- The last of the row's frames left the place unwritten, or had an id that nothing held.
abbrev pub is_loose_end : List Octets → (p : ℕ) → History → Bool
is_loose_end [] p h = false
is_loose_end (m ∷ ms) p h = is_unwritten p h || not (is_any (waiting_with (but_last m ms) p (id_in (last_of m ms)) h))

-- so it was in the row of the last frame at p before the newest row
abbrev pub ended_loose : (p : ℕ) → History → Bool
ended_loose p [] = false
ended_loose p (Came e ∷ h) = if has_frame (came_here p h) then is_loose_end (came_here p h) p h else ended_loose p h
ended_loose p (Put o ∷ h) = ended_loose p h

-- so it is in the row of the last frame at p
abbrev pub ends_loose_with : (ms : List Octets) → (p : ℕ) → History → Bool
ends_loose_with ms p h = if has_frame ms then is_loose_end ms p h else ended_loose p h

abbrev pub ends_loose : (p : ℕ) → History → Bool
ends_loose p h = ends_loose_with (came_here p h) p h

-- why the read timer may be due as soon as p is quiet for long
pub data MayBeQuiet (c : Conf) (p t : ℕ) (h : History) : Type 0 where
  HeldForLong : (id : ℕ) (x : Written) → IsWritten x (waiting p id h) → x.moment + response_timeout c < t → MayBeQuiet c p t h
  EndsLoose : ends_loose p h ≡ true → MayBeQuiet c p t h
  InvalidRequest : (s : ℕ) → site p h ≡ Some (record { via = Stream; server = s }) → (k : ℕ) (a : Asking) → asking k h ≡ Some a → is_valid a.request ≡ false → started k s Stream h ≡ true → MayBeQuiet c p t h

-- The read timer of p is due at moment t.
pub record ReadTimerIsDue (c : Conf) (p t : ℕ) (h : History) : Type 0 where
  pub alive : stand p h ≡ Alive
  pub passed : quiet p h + response_timeout c < t
  pub may : MayBeQuiet c p t h

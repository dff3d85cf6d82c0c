-- What ties the connections of server s to the history, at each point between two small moves.
use Rattle.std.proofs.Common.{◌≡◌, ◌≢◌, ℕ, ◌+◌, ◌<◌, ◌≤◌, Bool, true, false, ◌⊎◌, Option, Some, None, List, [], ◌∷◌, ◌++◌, ◌==◌}
use Rattle.std.specs.Prelude.{if◌then◌else◌}
use Rattle.client_request.specs.Request.{Request}
use Rattle.client_request.specs.declared.event.What.{What}
use Rattle.client_request.specs.declared.event.What.TheVariants.{OpenFailed, Bytes}
use Rattle.client_request.specs.declared.fault.Fault.{Fault}
use Rattle.client_request.specs.declared.event.Via.TheVariants.{Stream}
use Rattle.right_trace.specs.Trace.{History, Conf}
use Rattle.right_trace.specs.Time.{now, newest, row_before, Ever, response_timeout, idle_timeout, back_off}
use Rattle.right_trace.specs.Messages.{Octets, CarriesInFrame, is_valid}
use Rattle.right_trace.specs.Requests.{Asking, asking, start, started}
use Rattle.right_trace.specs.Places.{Site, site, is_at, Unused, Opening, Alive, on_event, stand, is_live, reach}
use Rattle.right_trace.specs.Frames.{Length, fed, reading, came, came_here, has_bad}
use Rattle.right_trace.specs.Writes.{Written, waiting_with, writing, taken_by, taken_first, is_unwritten}
use Rattle.right_trace.specs.Timers.{quiet_with, idle_with, ends_loose_with, ReadTimerIsDue}
use Rattle.right_trace.specs.Busy.{HappenedWithin}
use Rattle.proof_right.specs.machine.Streams.{Phase, Free, Expecting, Lined, Holding, Broken, BackingOff, Asker, Mode, New, Active, Idle, Conn, Multi}

-- `past` is what happened before the row, `w` its event, `pend` the same until it is taken, and then `Tick`. At a place, `fr` are the row's frames that were taken, `more` those that are still to be taken.

abbrev pub stream_site : (s : ℕ) → Site
stream_site s = record { via = Stream; server = s }

-- Requests

-- something made requests back off at server s, less than so long before moment n
abbrev pub Broke : (c : Conf) → (time s n : ℕ) → History → Type 0
Broke c time s n h = Ever (HappenedWithin c time s n) h

-- request k has its id
pub record HoldsId (conns : ℕ → Option Conn) (p id k : ℕ) : Type 0 where
  pub conn : Conn
  pub is_conn : conns p ≡ Some conn
  pub written : Written
  pub is_held : conn.ids id ≡ Some written
  pub its : written.request ≡ k

abbrev pub PhaseFits : (c : Conf) → (s k : ℕ) → Request → (ℕ → Option Conn) → Option ℕ → History → Phase → Type 0
PhaseFits c s k r conns opening h Free = Unit {0}
PhaseFits c s k r conns opening h Expecting = (p : ℕ) × (opening ≡ Some p)
PhaseFits c s k r conns opening h (Lined p) = (x : Conn) × (conns p ≡ Some x)
PhaseFits c s k r conns opening h (Holding p id) = HoldsId conns p id k
PhaseFits c s k r conns opening h Broken = (is_valid r ≡ false) ⊎ Broke c 1 s (now h) h
PhaseFits c s k r conns opening h (BackingOff until) = (is_valid r ≡ false) ⊎ Broke c (back_off + back_off) s until h

pub record AskFits (c : Conf) (s k : ℕ) (a : Asker) (conns : ℕ → Option Conn) (opening : Option ℕ) (h : History) : Type 0 where
  pub asked : (t : ℕ) × (asking k h ≡ Some (record { request = a.request; moment = t }))
  pub since : start k s Stream h ≡ Some a.since
  pub phase : PhaseFits c s k a.request conns opening h a.phase

-- Connections

-- the writes that hold an id, as the machine knows them
abbrev pub listed : Option Written → List Written
listed None = []
listed (Some x) = x ∷ []

-- why an active connection ends when nothing comes
pub data Reason (s p since : ℕ) (fr : List Octets) (x : Conn) (h : History) : Type 0 where
  HoldsSince : (id : ℕ) (y : Written) → x.ids id ≡ Some y → y.moment ≤ since → Reason s p since fr x h
  EndsSo : ends_loose_with fr p h ≡ true → Reason s p since fr x h
  HasInvalid : (k : ℕ) (a : Asking) → asking k h ≡ Some a → is_valid a.request ≡ false → started k s Stream h ≡ true → Reason s p since fr x h

pub record ActiveFits (s p since : ℕ) (fr : List Octets) (x : Conn) (h : History) : Type 0 where
  pub quiet : quiet_with fr p h ≤ since
  pub reason : Reason s p since fr x h

pub record IdleFits (p since : ℕ) (past : History) (fr : List Octets) (x : Conn) (h : History) : Type 0 where
  pub quiet : quiet_with fr p h ≤ since
  pub unheld : (id : ℕ) → x.ids id ≡ None
  pub amid : 0 < x.left → (is_unwritten p past ≡ true) ⊎ (is_unwritten p h ≡ true)

abbrev pub ModeFits : (s p : ℕ) (past : History) (fr : List Octets) → Conn → History → Mode → Type 0
ModeFits s p past fr x h New = Unit {0}
ModeFits s p past fr x h (Active since) = ActiveFits s p since fr x h
ModeFits s p past fr x h (Idle since) = IdleFits p since past fr x h

-- what is left to be written, where an event that is pending says that n octets were taken
pub record LeftFits (p n : ℕ) (x : Conn) (h : History) : Type 0 where
  pub some : 0 < x.left → x.left + (writing p h).taken ≡ (writing p h).wanted + n
  pub none : x.left ≡ 0 → (writing p h).wanted + n ≤ (writing p h).taken
  pub amid : 0 < x.left → taken_first (writing p h) ≡ 0
  pub room : x.heard ≡ false → x.left ≡ 0 → taken_first (writing p h) ≡ n

abbrev pub octets_at : (p : ℕ) → What → Octets
octets_at p (Bytes q o) = if q == p then o else []
octets_at p _ = []

abbrev pub brings_to : (p : ℕ) → What → Bool
brings_to p (Bytes q o) = q == p
brings_to p _ = false

-- what was read at p, and what the pending event brings
pub record ReadFits (p : ℕ) (pend : What) (more : List Octets) (x : Conn) (h : History) : Type 0 where
  pub left : (fed x.got (octets_at p pend)).left ≡ reading p h
  pub frames : brings_to p pend ≡ true → more ≡ (fed x.got (octets_at p pend)).frames

pub record ConnFits (c : Conf) (s p : ℕ) (past : History) (pend : What) (fr more : List Octets) (x : Conn) (h : History) : Type 0 where
  pub alive : stand p h ≡ Alive
  pub at : site p h ≡ Some (stream_site s)
  pub ids : (id : ℕ) → waiting_with fr p id h ≡ listed (x.ids id)
  pub early : (id : ℕ) (y : Written) → x.ids id ≡ Some y → y.moment ≤ now h
  pub asked : (id : ℕ) (y : Written) → x.ids id ≡ Some y → (a : Asking) × (asking y.request h ≡ Some a)
  pub begun : (id : ℕ) (y : Written) → x.ids id ≡ Some y → started y.request s Stream h ≡ true
  pub carries : (id : ℕ) (y : Written) (a : Asking) → x.ids id ≡ Some y → asking y.request h ≡ Some a → CarriesInFrame y.octets a.request id
  pub idle : idle_with c fr p h ≡ x.idle
  pub mode : ModeFits s p past fr x h x.mode
  pub left : LeftFits p (taken_by p pend) x h
  pub read : ReadFits p pend more x h
  pub frames : fr ++ more ≡ came_here p h
  pub good : has_bad fr ≡ false
  pub unheard : x.heard ≡ false → fr ≡ []
  pub unread : x.heard ≡ false → brings_to p pend ≡ false → more ≡ []

-- nothing was told of a place as a connection; w is the row's event
pub record IsBlank (c : Conf) (p : ℕ) (w : What) (h : History) : Type 0 where
  pub waiting : (ms : List Octets) (id : ℕ) → waiting_with ms p id h ≡ []
  pub wanted : (writing p h).wanted ≡ 0
  pub takes : taken_first (writing p h) ≡ taken_by p w
  pub idle : idle_with c [] p h ≡ idle_timeout c
  pub reading : reading p h ≡ Length
  pub came : came_here p h ≡ []

-- p opens, as far as the machine knows: an event that it has not taken yet may have changed that
pub record OpeningFits (c : Conf) (s p : ℕ) (past : History) (w pend : What) (h : History) : Type 0 where
  pub fails : (f : Fault) → w ≡ OpenFailed p f → Broke c 1 s (now h) h
  pub stand : stand p h ≡ on_event pend p Opening
  pub at : site p h ≡ Some (stream_site s)
  pub blank : IsBlank c p w h

-- no out has opened p yet
pub record IsToCome (c : Conf) (p : ℕ) (past : History) (w : What) (m : Multi) (h : History) : Type 0 where
  pub was : stand p past ≡ Unused
  pub unheld : m.conns p ≡ None
  pub stand : stand p h ≡ Unused
  pub nowhere : site p h ≡ None
  pub blank : IsBlank c p w h

-- the row so far
pub record RowFits (past : History) (w : What) (h : History) : Type 0 where
  pub before : row_before h ≡ past
  pub event : newest h ≡ w
  pub came : (p : ℕ) → came_here p h ≡ came p w past

-- Everything of server s.
pub record Kept (c : Conf) (s : ℕ) (past : History) (w pend : What) (fr more : ℕ → List Octets) (m : Multi) (h : History) : Type 0 where
  pub row : RowFits past w h
  pub asks : (k : ℕ) (a : Asker) → m.asks k ≡ Some a → AskFits c s k a m.conns m.opening h
  pub conns : (p : ℕ) (x : Conn) → m.conns p ≡ Some x → ConnFits c s p past pend (fr p) (more p) x h
  pub owners : (p : ℕ) (x : Conn) → m.conns p ≡ Some x → (id : ℕ) (y : Written) → x.ids id ≡ Some y → (a : Asker) → m.asks y.request ≡ Some a → a.phase ≡ Holding p id
  pub opening : (p : ℕ) → m.opening ≡ Some p → OpeningFits c s p past w pend h
  pub apart : (p : ℕ) (x : Conn) → m.opening ≡ Some p → m.conns p ≡ Some x → ⊥
  pub others : (p : ℕ) → is_at Stream s p h ≡ true → m.conns p ≡ None → m.opening ≢ Some p → is_live (stand p h) ≡ false
  pub to_come : (p : ℕ) → reach h ≤ p → IsToCome c p past w m h
  pub below : (p : ℕ) → m.opening ≡ Some p → p < reach h
  pub calm : now h < m.calm → Broke c back_off s m.calm h
  pub late : (p : ℕ) (x : Conn) → m.conns p ≡ Some x → (since : ℕ) → x.mode ≡ Active since → since + response_timeout c < now h → ReadTimerIsDue c p (now h) past

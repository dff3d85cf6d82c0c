-- When the timers of a stream place are due, as walks find it.
use Rattle.std.specs.Prelude.{ℕ, ◌+◌, ◌&&◌, ◌||◌, not, nat_le, nat_lt, Bool, true, false, if◌then◌else◌, is_some, length, List, [], ◌∷◌, Option, Some, None}
use Rattle.number_table.specs.Entries.{puts, entry_at}
use Rattle.client_request.specs.declared.event.Via.TheVariants.{Stream}
use Rattle.dns_base.specs.Header.{id_of}
use Rattle.right_trace.specs.Time.{response_timeout, idle_timeout}
use Rattle.right_trace.specs.Trace.{History, Conf}
use Rattle.right_trace.specs.{Messages.Octets, Requests.same_via, Places.is_alive, Writes.Written}
use Rattle.right_trace.specs.Timers.{IdleTimerIsDue, ReadTimerIsDue}
use Rattle.trace_tables.specs.declared.places.Place.{Place}
use Rattle.trace_tables.specs.{Known.stand_of, Lists.listed}
use Rattle.trace_tables.specs.declared.frames.ledger.Ledger.{Ledger}
use Rattle.trace_tables.specs.frames.Frames.{frames_of}
use Rattle.trace_tables.specs.frames.Waiting.{AtPlace, is_empty}
use Rattle.trace_tables.specs.frames.Ledger as ledger
use Rattle.trace_tables.specs.timers.Quiet.{quiet_counted, quiet_seen}
use Rattle.trace_tables.specs.idle.Idle.{idle_seen}
use Rattle.trace_tables.specs.idle.Keepalive.{told_in, or_before}
use Rattle.trace_points.specs.declared.due.timers.Timers.{Timers}
use Rattle.trace_points.specs.due.Loose.{brings_seen, ends_loose_seen}
use Rattle.trace_points.specs.due.Invalid.{invalid_seen}
use Rattle.trace_points.specs.due.Timers as timers
use Rattle.trace_points.specs.questions.Outs.{Tells}

-- something here was written longer before a moment than a frame is waited for
abbrev pub has_old : (c : Conf) (moment : ℕ) → List Written → Bool
has_old c n [] = false
has_old c n (w ∷ ws) = nat_lt (w.moment + response_timeout c) n || has_old c n ws

-- what waits under an id is so, and no frame has the id
abbrev pub is_late_id : (c : Conf) (moment : ℕ) → List Octets → AtPlace → (id : ℕ) → Bool
is_late_id c n ms t id = has_old c n (listed id t) && not (brings_seen id ms)

-- so it is under the id of some entry of these
abbrev pub has_late : (c : Conf) (moment : ℕ) → List Octets → (t entries : AtPlace) → Bool
has_late c n ms t [] = false
has_late c n ms t (e ∷ es) = is_late_id c n ms t e.0 || has_late c n ms t es

abbrev pub is_invalid_at : Place → Timers → Bool
is_invalid_at x t = same_via x.via Stream && invalid_seen Stream x.server t.invalid

-- why a place may be quiet
abbrev pub may_be_quiet : (c : Conf) (p moment : ℕ) → Place → Ledger → Timers → Bool
may_be_quiet c p n x l t =
    has_late c n (frames_of p l.frames.brought) (listed p l.waiting) (listed p l.waiting)
    || (ends_loose_seen p l t.writing t.loose || is_invalid_at x t)

abbrev pub read_due_at : (c : Conf) (p moment : ℕ) → Option Place → Ledger → Timers → Bool
read_due_at c p n None l t = false
read_due_at c p n (Some x) l t =
    is_alive (stand_of x.stand)
    && (nat_lt (quiet_counted p (frames_of p l.frames.brought) l.books.requests.clock t.quiet + response_timeout c) n && may_be_quiet c p n x l t)

abbrev pub read_due : (c : Conf) (p moment : ℕ) → Ledger → Timers → Bool
read_due c p n l t = read_due_at c p n (entry_at p l.books.places) l t

-- ids that frames freed
abbrev pub Freed : Type 0
Freed = List (ℕ × Unit {0})

-- nothing waits under the id of some entry of these, unless it was freed
abbrev pub all_freed : Freed → (t entries : AtPlace) → Bool
all_freed f t [] = true
all_freed f t (e ∷ es) = (is_empty (listed e.0 t) || is_some (entry_at e.0 f)) && all_freed f t es

-- a frame with a whole header frees its id
abbrev pub frees_by : Octets → Freed → Freed
frees_by m f = if nat_lt (length m) 12 then f else puts (id_of m) tt f

abbrev pub is_due_now : Freed → AtPlace → (quiet idle now : ℕ) → Bool
is_due_now f t q i n = nat_le (q + i) n && all_freed f t t

-- so it is at once, or behind some of these frames
abbrev pub idle_walk : Freed → AtPlace → (quiet idle now : ℕ) → List Octets → Bool
idle_walk f t q i n [] = is_due_now f t q i n
idle_walk f t q i n (m ∷ ms) = is_due_now f t q i n || idle_walk (frees_by m f) t n (or_before (told_in m) i) n ms

abbrev pub idle_due_at : (c : Conf) (p : ℕ) → Option Place → Ledger → Timers → Bool
idle_due_at c p None l t = false
idle_due_at c p (Some x) l t =
    is_alive (stand_of x.stand)
    && idle_walk [] (listed p l.waiting) (quiet_seen p t.quiet) (idle_seen (idle_timeout c) p t.idle) l.books.requests.clock (frames_of p l.frames.brought)

abbrev pub idle_due : (c : Conf) (p : ℕ) → Ledger → Timers → Bool
idle_due c p l t = idle_due_at c p (entry_at p l.books.places) l t

-- the answers, of every history that the ledger and the timers know
abbrev pub TellsReadTimer : (c : Conf) (p moment : ℕ) → Ledger → Timers → Bool → Type 0
TellsReadTimer c p n l t b = (h : History) → ledger.Known h l → timers.Known c h t → Tells (ReadTimerIsDue c p n h) b

abbrev pub TellsIdleTimer : (c : Conf) (p : ℕ) → Ledger → Timers → Bool → Type 0
TellsIdleTimer c p l t b = (h : History) → ledger.Known h l → timers.Known c h t → Tells (IdleTimerIsDue c p h) b

-- What a forward pass keeps of how long stream places may be idle, the frames of the newest row not counted.
use Rattle.std.specs.Prelude.{◌≡◌, ℕ, List, [], ◌∷◌, Option, Some, None}
use Rattle.number_table.specs.Entries.{puts, entry_at}
use Rattle.client_request.specs.declared.event.{Event.Event, Out.Out}
use Rattle.right_trace.specs.Trace.{History, Came, Put, Conf}
use Rattle.right_trace.specs.{Messages.Octets, Time.idle_timeout, Timers.idle_with}
use Rattle.trace_tables.specs.declared.frames.frames.{Brought.Brought, Frames.Frames}
use Rattle.trace_tables.specs.frames.Frames.{Known as FramesKnown}
use Rattle.trace_tables.specs.idle.Keepalive.{last_told}

-- durations by place, in microseconds
abbrev pub Idle : Type 0
Idle = List (ℕ × ℕ)

-- the usual time, where nothing was told (RFC 7766 6.2.3)
abbrev pub time_or : (usual : ℕ) → Option ℕ → ℕ
time_or usual None = usual
time_or usual (Some n) = n

abbrev pub idle_seen : (usual p : ℕ) → Idle → ℕ
idle_seen usual p t = time_or usual (entry_at p t)

-- what came in a row that is over
abbrev pub met : (usual : ℕ) → Option Brought → Idle → Idle
met usual None t = t
met usual (Some b) t = puts b.place (last_told b.frames (idle_seen usual b.place t)) t

-- what is kept is what the definitions say
pub record Known (c : Conf) (h : History) (t : Idle) : Type 0 where
  pub times : (p : ℕ) → idle_seen (idle_timeout c) p t ≡ idle_with c [] p h

pub record GoesOn (c : Conf) : Type 0 where
  pub begins : Known c [] []
  pub event : (h : History) (f : Frames) (t : Idle) (e : Event) → FramesKnown h f → Known c h t → Known c (Came e ∷ h) (met (idle_timeout c) f.brought t)
  pub out : (h : History) (t : Idle) (o : Out) → Known c h t → Known c (Put o ∷ h) t

-- Octets of a stream as they are kept, and as they are read one by one.
use Rattle.std.specs.Prelude.{◌≡◌, ℕ, ◌<◌, ◌≤◌, ◌^◌, List, [], ◌∷◌, ◌++◌, length, Some, None}
use Rattle.std.specs.Option.{unwrap_or}
use Rattle.client_stream.specs.Frames.{first_frame, behind_frame}
use Rattle.client_stream.specs.Keepalive.{idle_time_told}
use Rattle.client_multi.specs.Retry.{retry_time}
use Rattle.right_trace.specs.Frames.{Reading, Length, fed}
use Rattle.right_trace.specs.Messages.{keepalive_of}
use Rattle.right_trace.specs.Time.{back_off}
use Rattle.right_trace.specs.Timers.{told_idle}

-- The octets that are kept, of which so many frames stand whole, leave this to be read.
abbrev pub Keeps : (octets : List ℕ) → (frames : List (List ℕ)) → Reading → Type 0
Keeps octets frames got = fed Length octets ≡ record { left = got; frames = frames }

-- What is kept is what was read: more octets bring the frames that they complete, and a frame that is taken is the first one.
pub record KeptIsRead : Type 0 where
  pub none : Keeps [] [] Length
  pub more : (a b : List ℕ) (got : Reading) → Keeps a [] got → Keeps (a ++ b) (fed got b).frames (fed got b).left
  pub some : (octets frame : List ℕ) (frames : List (List ℕ)) (got : Reading) → Keeps octets frames got → first_frame octets ≡ Some frame → (fs : List (List ℕ)) × (frames ≡ frame ∷ fs) × Keeps (behind_frame octets) fs got
  pub last : (octets : List ℕ) (frames : List (List ℕ)) (got : Reading) → Keeps octets frames got → first_frame octets ≡ None → frames ≡ []
  pub few : (got : Reading) (octets : List ℕ) → length (fed got octets).frames ≤ length octets

-- the idle time that a message tells is that of the headline
abbrev pub IdleIsTold : Type 0
IdleIsTold = (message : List ℕ) (before : ℕ) → unwrap_or (idle_time_told message) before ≡ told_idle (keepalive_of message) before

-- A back-off is some time, and shorter than 64 seconds.
abbrev pub BackOffIsShort : Type 0
BackOffIsShort = (n word : ℕ) → word < 2 ^ 64 → (0 < retry_time n word) × (retry_time n word < back_off)

-- Frames of a stream: two octets say how many follow (RFC 7766 8).
use Rattle.std.specs.Prelude.{◌≡◌, ℕ, zero, suc, ◌+◌, ◌*◌, ◌&&◌, nat_le, Bool, if◌then◌else◌, List, [], ◌∷◌, ◌++◌, length, drop, slice_index, slice_range, Option, Some, None}

-- how many octets a frame has whose two octets of length stand first
abbrev pub body_size : List ℕ → ℕ
body_size octets = 256 * slice_index octets 0 + slice_index octets 1

-- a whole frame stands first
abbrev pub has_frame : List ℕ → Bool
has_frame octets = nat_le 2 (length octets) && nat_le (2 + body_size octets) (length octets)

-- that frame, and what stands behind it
abbrev pub first_frame : List ℕ → Option (List ℕ)
first_frame octets = if has_frame octets then Some (slice_range octets 2 (2 + body_size octets)) else None

abbrev pub behind_frame : List ℕ → List ℕ
behind_frame octets = if has_frame octets then drop (2 + body_size octets) octets else octets

-- what stands behind so many whole frames, or behind all of them where there are fewer
abbrev pub behind_frames : ℕ → List ℕ → List ℕ
behind_frames zero octets = octets
behind_frames (suc n) octets = if has_frame octets then behind_frames n (drop (2 + body_size octets) octets) else octets

-- the first so many frames, or all where there are fewer
abbrev pub first_frames : ℕ → List ℕ → List (List ℕ)
first_frames zero octets = []
first_frames (suc n) octets =
    if has_frame octets then slice_range octets 2 (2 + body_size octets) ∷ first_frames n (drop (2 + body_size octets) octets) else []

-- All whole frames, and what stands behind them. A frame has two octets at least, so there are no more frames than octets.
abbrev pub frames_of : List ℕ → List (List ℕ)
frames_of octets = first_frames (length octets) octets

abbrev pub left_of : List ℕ → List ℕ
left_of octets = behind_frames (length octets) octets

-- behind all whole frames both octets of length of another one stand
abbrev pub is_in_body : List ℕ → Bool
is_in_body octets = nat_le 2 (length (left_of octets))

-- The frames are a function of the octets that came, wherever they were cut.
pub record FramesJoin : Type 0 where
  -- taken one by one
  pub one_by_one : (octets frame : List ℕ) → first_frame octets ≡ Some frame → frames_of octets ≡ frame ∷ frames_of (behind_frame octets)
  pub none_left : (octets : List ℕ) → first_frame octets ≡ None → (frames_of octets ≡ []) × (left_of octets ≡ octets)
  -- of two pieces: those of the first, and then those of what it left and the second
  pub frames : (a b : List ℕ) → frames_of (a ++ b) ≡ frames_of a ++ frames_of (left_of a ++ b)
  pub left : (a b : List ℕ) → left_of (a ++ b) ≡ left_of (left_of a ++ b)

-- What a transport owes where several of them share timers, places and the board: it leaves alone what is not its own.
use Rattle.std.specs.Prelude.{◌≡◌, ℕ, ◌<◌, ◌≤◌, ◌⊎◌, Bool, true, false, Some, List, [], ◌∷◌, ◌++◌}
use Rattle.client_request.specs.Board.{Part}
use Rattle.client_request.specs.Carries.{IsOfOctets}
use Rattle.client_request.specs.Request.{Request}
use Rattle.client_request.specs.View.{View, Transport, told, more_at, due_timer}
use Rattle.client_request.specs.declared.board.Posted.{Posted}
use Rattle.client_request.specs.declared.event.Event.{Event}
use Rattle.client_request.specs.declared.event.What.{What}
use Rattle.right_trace.specs.Trace.{Conf}
use Rattle.proof_right.specs.machine.Part.{Act, ServerPart}
use Rattle.proof_parts.specs.PartTie.{Phase, Untold, Passed, IsOpen, place_in}
use Rattle.proof_parts.specs.Sights.{Sight, sight, IsFair, NoneDue}

-- Each place that a move leaves was there before, or is a new one: `place` is the next number.
abbrev pub Opens : {U : Type 0} → (has : U → (place : ℕ) → Bool) → (place : ℕ) → U → Act U → Type 0
Opens has place a d = (place ≤ d.place) × ((p : ℕ) → has d.state p ≡ true → (has a p ≡ true) ⊎ ((place ≤ p) × (p < d.place)))

-- `has` says which places a part has open, or opens: each move opens none but the next ones.
pub record OpensNext {c : Conf} (P : ServerPart c) (has : P.State → (place : ℕ) → Bool) : Type 0 where
  pub fresh : (p : ℕ) → has P.fresh p ≡ false
  pub begins : (e : Event) (a : P.State) (p : ℕ) → has (P.begin e a) p ≡ has a p
  pub acts : (s place : ℕ) (a : P.State) (d : Act P.State) → P.Acts s place a d → Opens has place a d
  pub starts : (s place k : ℕ) (r : Request) (a : P.State) (d : Act P.State) → P.Starts s place k r a d → Opens has place a d
  pub cancels : (s place k : ℕ) (a : P.State) (d : Act P.State) → P.Cancels s place k a d → Opens has place a d

-- a board has one result more at most, which is that of this ticket
abbrev pub HasOneMore : (ticket : ℕ) → (old new : List Posted) → Type 0
HasOneMore ticket old new = (new ≡ old) ⊎ ((part : Part) × (new ≡ old ++ record { ticket = ticket; part = part; is_stale = false } ∷ []))

-- What a transport owes that is one of several, where `has` says which places its part has.
pub record IsShared {c : Conf} (P : ServerPart c) (has : P.State → (place : ℕ) → Bool) {U R : Type 0} (t : Transport Request U R)
    (Tied : Phase → U → Sight → P.State → Type 0) (Owns : U → (timer : ℕ) → Type 0) : Type 0 where
  -- it is known of each timer whose it is, and one of others is nothing to it
  pub knows : (u : U) (i : ℕ) → Owns u i ⊎ (Owns u i → ⊥)
  pub timers : (phase : Phase) (u : U) (v : View) (a : P.State) (i : ℕ) → Tied phase u (sight v) a → (Owns u i → ⊥) → t.step (due_timer i) u v ≡ Some (u, v)
  -- an event about no place of its own is nothing to it, and passes; nor are the frames that it brings
  pub ignores : (u : U) (v : View) (a : P.State) (w : What) (p : ℕ) → Tied (Untold w) u (sight v) a → place_in w ≡ Some p → has a p ≡ false → t.step (told w) u v ≡ Some (u, v)
  pub passes : (u : U) (x : Sight) (a : P.State) (w : What) (p : ℕ) → Tied (Untold w) u x a → place_in w ≡ Some p → has a p ≡ false → NoneDue (Owns u) x → Tied (Passed w) u x a
  pub frames : (u : U) (v : View) (a : P.State) (w : What) (p : ℕ) → Tied (Passed w) u (sight v) a → place_in w ≡ Some p → t.step (more_at p) u v ≡ Some (u, v)
  -- what comes at once of a request is its own result
  pub alone : (phase : Phase) (u : U) (v : View) (a : P.State) (r : Request) (w : U) (x : View) → IsOpen phase v.place → Tied phase u (sight v) a → IsFair v
      → IsOfOctets r → P.holds a v.request ≡ false → t.send r u v ≡ Some (w, x) → HasOneMore v.ticket v.board x.board
  -- a request that is started, or given up, says nothing of frames
  pub says_none : (phase : Phase) (u : U) (v : View) (a : P.State) (r : Request) (w : U) (x : View) → IsOpen phase v.place → Tied phase u (sight v) a → IsFair v
      → IsOfOctets r → P.holds a v.request ≡ false → t.send r u v ≡ Some (w, x) → x.more ≡ v.more
  pub keeps_more : (phase : Phase) (u : U) (v : View) (a : P.State) (r : R) (w : U) (x : View) → IsOpen phase v.place → Tied phase u (sight v) a
      → t.cancel r u v ≡ Some (w, x) → x.more ≡ v.more

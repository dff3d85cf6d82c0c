-- What a transport owes so that octets may come in pieces: those that come stand behind those that no frame has taken, and nothing else looks at them.
use Rattle.std.specs.Prelude.{◌≡◌, ℕ, ◌≤◌, ◌⊎◌, Bool, true, false, List, ◌++◌, Option, Some, None, option_map}
use Rattle.client_request.specs.View.{View, Transport, told, more_at, due_timer}
use Rattle.client_request.specs.declared.event.Out.{Out}
use Rattle.client_request.specs.declared.event.What.TheVariants.{Bytes}
use Rattle.client_stream.specs.Frames.{has_frame, behind_frame}

-- A view with outs before its own. Whether more stands, and whose outs were put, may differ.
abbrev pub like : (before : List Out) → (more : Bool) → (request : ℕ) → View → View
like before more request v = record v { outs = before ++ v.outs; more = more; request = request }

-- whether a whole frame stands, of the octets at a place that is open
abbrev pub stands : Option (List ℕ) → Bool
stands None = false
stands (Some octets) = has_frame octets

-- a frame can be taken, or the place is not open
abbrev pub IsReady : Option (List ℕ) → Type 0
IsReady None = Unit {0}
IsReady (Some octets) = has_frame octets ≡ true

-- Two calls agree: neither leaves anything, or what the second leaves is the first's, with longer octets, and is seen alike. Of what the first leaves this holds.
pub data Both {U : Type 0} (longer : U → U) (before : List Out) (Leaves : U → View → Type 0) : (first second : Option (U × View)) → Type 0 where
  Neither : Both longer before Leaves None None
  Each : (u : U) (v : View) (more : Bool) (request : ℕ) → Leaves u v → Both longer before Leaves (Some (u, v)) (Some (longer u, like before more request v))

module _ {U : Type 0} (octets_at : U → Option (List ℕ)) (IsFit : U → (timer : ℕ) → Type 0) where
  -- What a call leaves where a request is sent or given up: the octets stand as before.
  pub record Stays (u : U) (v : View) (w : U) (x : View) : Type 0 where
    pub fit : IsFit w x.timers.next
    pub now : x.now ≡ v.now
    pub timer : v.timers.next ≤ x.timers.next
    pub octets : octets_at w ≡ octets_at u
    pub more : x.more ≡ v.more

  -- where a timer fired: the place may have been closed
  pub record MayClose (u : U) (v : View) (w : U) (x : View) : Type 0 where
    pub fit : IsFit w x.timers.next
    pub now : x.now ≡ v.now
    pub timer : v.timers.next ≤ x.timers.next
    pub octets : (octets_at w ≡ octets_at u) ⊎ (octets_at w ≡ None)
    pub more : x.more ≡ v.more

  -- where a frame was taken: those behind it stand, or the place was closed; and it is said whether another one stands
  pub record Takes (u : U) (v : View) (w : U) (x : View) : Type 0 where
    pub fit : IsFit w x.timers.next
    pub now : x.now ≡ v.now
    pub timer : v.timers.next ≤ x.timers.next
    pub octets : (octets_at w ≡ option_map behind_frame (octets_at u)) ⊎ (octets_at w ≡ None)
    pub more : x.more ≡ stands (octets_at w)

-- What is owed at a place. `octets` has those that stand there, if it is open, `longer` puts more behind them, and calls are made of what is fit, where `timer` is the number of the next timer.
pub record IsCuttable {R U P : Type 0} (place : ℕ) (t : Transport R U P) (octets : U → Option (List ℕ)) (longer : List ℕ → U → U) (IsFit : U → (timer : ℕ) → Type 0) : Type 0 where
  pub closed : (piece : List ℕ) (u : U) → octets u ≡ None → longer piece u ≡ u
  pub behind : (piece : List ℕ) (u : U) → octets (longer piece u) ≡ option_map (λ o. o ++ piece) (octets u)
  pub twice : (a b : List ℕ) (u : U) → longer (a ++ b) u ≡ longer b (longer a u)
  pub fits : (piece : List ℕ) (u : U) (n : ℕ) → IsFit u n → IsFit (longer piece u) n
  pub later : (u : U) (n m : ℕ) → n ≤ m → IsFit u n → IsFit u m
  -- octets that come stand behind the others, and the first frame is taken
  pub bytes : (piece : List ℕ) (u : U) (v : View) → IsFit u v.timers.next → v.more ≡ false → t.step (told (Bytes place piece)) u v ≡ t.step (more_at place) (longer piece u) v
  -- octets for a place that is not open are not heard
  pub unheard : (piece : List ℕ) (u : U) (v : View) → IsFit u v.timers.next → octets u ≡ None → t.step (told (Bytes place piece)) u v ≡ Some (u, v)
  -- where no whole frame stands, nothing is taken
  pub rests : (u : U) (v : View) → IsFit u v.timers.next → stands (octets u) ≡ false → t.step (more_at place) u v ≡ Some (u, v)
  -- what is done does not depend on the octets, nor on what was put out
  pub response : (piece : List ℕ) (before : List Out) (more : Bool) (request : ℕ) (r : R) (u : U) (v : View) → t.response r (longer piece u) (like before more request v) ≡ t.response r u v
  pub sends : (piece : List ℕ) (before : List Out) (more : Bool) (r : R) (u : U) (v : View) → IsFit u v.timers.next
      → Both (longer piece) before (Stays octets IsFit u v) (t.send r u v) (t.send r (longer piece u) (like before more v.request v))
  pub cancels : (piece : List ℕ) (before : List Out) (more : Bool) (request : ℕ) (r : P) (u : U) (v : View) → IsFit u v.timers.next
      → Both (longer piece) before (Stays octets IsFit u v) (t.cancel r u v) (t.cancel r (longer piece u) (like before more request v))
  pub fires : (piece : List ℕ) (before : List Out) (more : Bool) (request timer : ℕ) (u : U) (v : View) → IsFit u v.timers.next
      → Both (longer piece) before (MayClose octets IsFit u v) (t.step (due_timer timer) u v) (t.step (due_timer timer) (longer piece u) (like before more request v))
  pub takes : (piece : List ℕ) (before : List Out) (request : ℕ) (u : U) (v : View) → IsFit u v.timers.next → IsReady (octets u) → v.more ≡ false
      → Both (longer piece) before (Takes octets IsFit u v) (t.step (more_at place) u v) (t.step (more_at place) (longer piece u) (like before false request v))

-- Of a request that is given up nothing is posted at once.
abbrev pub CancelsQuietly : {R U P : Type 0} → Transport R U P → (U → (timer : ℕ) → Type 0) → Type 0
CancelsQuietly {R} {U} {P} t IsFit = (r : P) (u : U) (v : View) (w : U) (x : View) → IsFit u v.timers.next → t.cancel r u v ≡ Some (w, x) → x.board ≡ v.board

-- What stands in for a result turns neither on the octets nor on what was put out.
abbrev pub StandsInAlike : {U P : Type 0} → (longer : List ℕ → U → U) → (stale : P → U → View → Option (List ℕ)) → Type 0
StandsInAlike {U} {P} longer stale = (piece : List ℕ) (before : List Out) (more : Bool) (request : ℕ) (r : P) (u : U) (v : View) → stale r (longer piece u) (like before more request v) ≡ stale r u v

-- Of a request that is given up nothing is posted at once, and what stands in for its result is alike.
pub record GivesUpQuietly {R U P : Type 0} (t : Transport R U P) (longer : List ℕ → U → U) (IsFit : U → (timer : ℕ) → Type 0) (stale : P → U → View → Option (List ℕ)) : Type 0 where
  pub cancelled : CancelsQuietly t IsFit
  pub alike : StandsInAlike longer stale

-- Of a request that is sent or given up nothing is posted at once.
pub record PostsNothing {R U P : Type 0} (t : Transport R U P) (IsFit : U → (timer : ℕ) → Type 0) : Type 0 where
  pub sent : (r : R) (u : U) (v : View) (w : U) (x : View) → IsFit u v.timers.next → t.send r u v ≡ Some (w, x) → x.board ≡ v.board
  pub cancelled : CancelsQuietly t IsFit

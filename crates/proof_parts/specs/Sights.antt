-- What a tie looks at of a view: the moment, when each timer is due, and the numbers that come next.
use Rattle.std.specs.Prelude.{◌≡◌, ℕ, suc, ◌<◌, ◌≤◌, ◌^◌, ◌==◌, if◌then◌else◌, List, [], ◌∷◌, Option, Some, None}
use Rattle.client_request.specs.View.{View}
use Rattle.client_request.specs.declared.timers.Timer.{Timer}

-- when the timer of this number is due
abbrev pub due_of : (id : ℕ) → List Timer → Option ℕ
due_of id [] = None
due_of id (t ∷ ts) = if t.id == id then Some t.due else due_of id ts

pub record Sight : Type 0 where
  pub now : ℕ
  pub dues : ℕ → Option ℕ
  pub timer : ℕ
  pub ticket : ℕ
  pub place : ℕ

abbrev pub sight : View → Sight
sight v = record { now = v.now; dues = λ i. due_of i v.timers.set; timer = v.timers.next; ticket = v.ticket; place = v.place }

-- keys that rise, from lo on and below hi
abbrev pub Rising : {A : Type 0} → (A → ℕ) → (lo hi : ℕ) → List A → Type 0
Rising key lo hi [] = Unit {0}
Rising key lo hi (x ∷ xs) = (lo ≤ key x) × (key x < hi) × Rising key (suc (key x)) hi xs

-- The timers stand in the order of their numbers, and words have 64 bits.
pub record IsFair (v : View) : Type 0 where
  pub order : Rising (λ t. t.id) 0 v.timers.next v.timers.set
  pub words : (i : ℕ) → v.words i < 2 ^ 64

-- no timer is due
abbrev pub IsEarly : View → Type 0
IsEarly v = (i due : ℕ) → due_of i v.timers.set ≡ Some due → v.now < due

-- none of these timers is due
abbrev pub NoneDue : (ℕ → Type 0) → Sight → Type 0
NoneDue Own x = (i due : ℕ) → Own i → x.dues i ≡ Some due → x.now < due

-- What a transport sees of the world at a call, and leaves of it.
use Rattle.std.specs.Prelude.{ℕ, ◌+◌, Bool, if◌then◌else◌, List, [], ◌∷◌, ◌++◌, Option, Some, None}
use Rattle.client_request.specs.Board.{Part, posted, posted_stale}
use Rattle.client_request.specs.Timers.{TimerList, with_timer, cancelled, can_draw}
use Rattle.client_request.specs.Words.{rest_of}
use Rattle.client_request.specs.declared.board.Posted.{Posted}
use Rattle.client_request.specs.declared.event.Out.{Out}
use Rattle.client_request.specs.declared.event.What.{What}

pub record View : Type 0 where
  pub now : ℕ
  pub words : ℕ → ℕ
  pub outs : List Out
  pub board : List Posted
  pub timers : TimerList
  pub ticket : ℕ
  pub place : ℕ
  pub request : ℕ
  pub more : Bool

-- what a transport hears
pub data Heard : Type 0 where
  told : What → Heard
  more_at : ℕ → Heard
  due_timer : ℕ → Heard

-- A step of a plain machine: what it leaves of itself and of the view. There is none where a number would pass 64 bits.
abbrev pub Step : Type 0 → Type 0
Step S = S → View → Option (S × View)

-- the word that comes next
abbrev pub word : View → ℕ
word v = v.words 0

abbrev pub drawn : View → View
drawn v = record v { words = rest_of v.words }

abbrev pub asks : Out → View → View
asks out v = record v { outs = v.outs ++ out ∷ [] }

abbrev pub answers : ℕ → Part → View → View
answers ticket part v = record v { board = posted ticket part v.board }

abbrev pub answers_stale : ℕ → List ℕ → View → View
answers_stale ticket message v = record v { board = posted_stale ticket message v.board }

-- a timer is set, where a number can be drawn for it
abbrev pub sets_timer : ℕ → View → Option View
sets_timer due v = if can_draw v.timers.next then Some (record v { timers = with_timer due v.timers }) else None

abbrev pub drops_timer : ℕ → View → View
drops_timer id v = record v { timers = cancelled id v.timers }

-- the next ticket, and the next place, are drawn
abbrev pub draws_ticket : View → Option View
draws_ticket v = if can_draw v.ticket then Some (record v { ticket = v.ticket + 1 }) else None

abbrev pub draws_place : View → Option View
draws_place v = if can_draw v.place then Some (record v { place = v.place + 1 }) else None

-- A transport as plain functions: what each call leaves, and what stands for the result of a request that is taken on.
pub record Transport (CR U P : Type 0) : Type 0 where
  pub send : CR → Step U
  pub step : Heard → Step U
  pub cancel : P → Step U
  pub response : CR → U → View → P

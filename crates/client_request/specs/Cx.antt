-- What a clause says of a `Cx` and of a `Signal`.
use Rattle.std.specs.Prelude.{◌≡◌, ℕ, List}
use Rattle.client_request.specs.View.{View, Heard, told, more_at, due_timer}
use Rattle.client_request.specs.declared.board.Posted.{Posted}
use Rattle.client_request.specs.declared.cx.Cx.{Cx}
use Rattle.client_request.specs.declared.cx.Signal.{Signal}
use Rattle.client_request.specs.declared.cx.Signal.TheVariants.{Told, More, Due}

-- what a context stands for, with the words that come from its source
abbrev pub view_of : {W : Type 0} → (W → ℕ → ℕ) → Cx W → View
view_of stream cx = record {
  now = cx.now.0;
  words = stream cx.words.now;
  outs = cx.outs.now;
  board = cx.board.now;
  timers = cx.timers.now;
  ticket = cx.ticket;
  place = cx.place;
  request = cx.request;
  more = cx.more;
}

-- what it stands for with another board
abbrev pub view_below : {W : Type 0} → (W → ℕ → ℕ) → List Posted → Cx W → View
view_below stream board cx = record (view_of stream cx) { board = board }

-- the context still lends what it lent
pub record LendsTheSame {W : Type 0} (old new : Cx W) : Type 0 where
  pub words : new.words.ghost_name ≡ old.words.ghost_name
  pub outs : new.outs.ghost_name ≡ old.outs.ghost_name
  pub board : new.board.ghost_name ≡ old.board.ghost_name
  pub timers : new.timers.ghost_name ≡ old.timers.ghost_name

abbrev pub heard : Signal → Heard
heard (Told what) = told what.now
heard (More place) = more_at place
heard (Due timer) = due_timer timer.0

-- Moves of a part, one after another, and what a transport's board has of the results that they give.
use Rattle.std.specs.Prelude.{◌≡◌, ℕ, List, [], ◌∷◌, ◌++◌, Option, Some, None, Result, Ok, Err}
use Rattle.client_request.specs.Board.{Part}
use Rattle.client_request.specs.declared.board.Posted.{Posted}
use Rattle.client_request.specs.declared.error.Error.{Error}
use Rattle.right_trace.specs.Trace.{Conf}
use Rattle.proof_right.specs.machine.Part.{Post, Act, ServerPart}
use Rattle.right_trace.specs.Updates.{with_at}

module _ {U : Type 0} where
  -- nothing was done
  abbrev pub still : (place : ℕ) → U → Act U
  still place u = record { state = u; place = place; outs = []; posts = [] }

  -- one after the other
  abbrev pub then_act : Act U → Act U → Act U
  then_act d e = record { state = e.state; place = e.place; outs = d.outs ++ e.outs; posts = d.posts ++ e.posts }

  -- A call comes first, and then what follows it.
  pub data Begins (Call : Act U → Type 0) (Follows : (place : ℕ) → U → Act U → Type 0) : Act U → Type 0 where
    Calls : (d e : Act U) → Call d → Follows d.place d.state e → Begins Call Follows (then_act d e)

module _ {c : Conf} (P : ServerPart c) (s : ℕ) where
  -- Moves of its own, one after another: of server s, `place` being the next place.
  pub data Chain : (place : ℕ) → P.State → Act P.State → Type 0 where
    Stays : (place : ℕ) (u : P.State) → Chain place u (still place u)
    Goes : (place : ℕ) (u : P.State) (d e : Act P.State) → P.Acts s place u d → Chain d.place d.state e → Chain place u (then_act d e)

-- a result of one message, as it stands on a board
abbrev pub part_of : Result (List ℕ) Error → Part
part_of (Ok message) = Ok (Some message)
part_of (Err error) = Err error

-- Each ticket on the board is that of a request, which has its result and is named no more. `names` has the number of each ticket's request.
abbrev pub Gives : (names : ℕ → Option ℕ) → List Posted → List Post → (left : ℕ → Option ℕ) → Type 0
Gives names [] [] left = (t : ℕ) → left t ≡ names t
Gives names (p ∷ ps) (x ∷ xs) left = (names p.ticket ≡ Some x.request) × (p.part ≡ part_of x.result) × Gives (with_at p.ticket None names) ps xs left
Gives names _ _ left = ⊥

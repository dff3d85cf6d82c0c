-- A request that is asked and recorded.
use Rattle.std.specs.Prelude.{ℕ, List, Option, Result}
use Rattle.client_core.specs.declared.edge.Deed.{Deed}
use Rattle.client_loop.specs.Asking.{IsAnswered, Scene, between, rows_of}
use Rattle.client_request.specs.Request.{Request}
use Rattle.client_request.specs.Words.{listed}
use Rattle.client_request.specs.declared.error.Error.{Error}
use Rattle.client_request.specs.declared.event.Row.{Row}
use Rattle.client_steps.specs.Whole.{Whole}
use Rattle.dns_record.specs.Recording.{Keeps, Recording}

-- the words that are left of those that were written, and 0 behind the last one
abbrev pub left_of : Recording → ℕ → ℕ
left_of r = listed r.words

-- What holds of the scenes before and after a call with the words that were written, by what an edge and a clock tell.
abbrev pub ahead : {E C : Type 0} {R : Type 1} → (E → Option (List Deed)) → (E → Option (List ℕ)) → (E → ℕ) → (C → Option (List ℕ)) → (old new : Whole × E × C × Recording) → (Scene → Scene → R) → R
ahead deeds waits polls given old new P = between deeds waits polls given left_of old new P

-- A request was asked and answered so, and this holds of the rows that the client put out for it.
pub record IsAnsweredAnd (Holds : List Row → Type 0) (number most : ℕ) (request : Request) (answer : Option (Result (List ℕ) Error)) (old new : Scene) : Type 0 where
  pub answered : IsAnswered number most request old new answer
  pub holds : Holds (rows_of answered.asked.asking answered.asked.turns)

-- the same with the words that were written, where these rows are recorded
abbrev pub IsAskedSo : {E C K : Type 0} → (E → Option (List Deed)) → (E → Option (List ℕ)) → (E → ℕ) → (C → Option (List ℕ)) → (K → Option (List ℕ)) → (old new : Whole × E × C × Recording × K)
    → ℕ → Request → Option (Result (List ℕ) Error) → Type 0
IsAskedSo deeds waits polls given held old new number request answer =
    ahead deeds waits polls given (old.0, old.1, old.2, old.3) (new.0, new.1, new.2, new.3) (IsAnsweredAnd (λ rows. Keeps rows (held old.4) old.3 old.0 (held new.4) new.3 new.0) number 1000000 request answer)

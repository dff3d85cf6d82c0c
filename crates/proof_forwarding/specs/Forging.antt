-- How often datagrams that were made up are taken for an answer.
use Rattle.std.specs.Prelude.{ℕ, ◌≤◌, Bool, List, length}
use Rattle.std.specs.List.{list_any}
use Rattle.client_request.specs.Request.{Request}
use Rattle.right_trace.specs.Messages.{Octets, answers}
use Rattle.right_trace.specs.Time.{count_below}

-- one of these answers a request that was sent under this id
abbrev pub one_answers : Request → List Octets → (id : ℕ) → Bool
one_answers r forged id = list_any (answers r id) forged

-- Of datagrams that were made up before the id was drawn, one answers under at most as many of the ids below any number, as 65,536, as they are.
abbrev pub ForgedAnswersAreFew : Type 0
ForgedAnswersAreFew = (r : Request) (forged : List Octets) (ids : ℕ) → count_below (one_answers r forged) ids ≤ length forged

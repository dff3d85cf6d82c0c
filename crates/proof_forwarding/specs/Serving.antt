-- Of traces alone: what the rows of a forwarder, and those of the clients within it, have to do with each other.
use Rattle.std.specs.Prelude.{◌≡◌, ℕ, List, [], ◌∷◌, ◌++◌, ◌⊎◌, map, Option, Some, Result}
use Rattle.std.specs.List.{AllByRecursion, flat_map}
use Rattle.client_request.specs.declared.error.Error.{Error}
use Rattle.client_request.specs.declared.event.Out.{Out}
use Rattle.client_request.specs.declared.event.Out.TheVariants.{Reply}
use Rattle.client_request.specs.declared.event.Row.{Row}
use Rattle.front_queries.specs.Query.{Query, key_of}
use Rattle.front_queries.specs.Requests.{request_of}
use Rattle.front_peers.specs.declared.event.FrontRow.{FrontRow}
use Rattle.right_trace.specs.Requests.{Asking, asking}
use Rattle.right_trace.specs.Right.{Among}
use Rattle.right_trace.specs.Trace.{History, after}
use Rattle.front_peers.specs.declared.items.Item.{Item}
use Rattle.proof_forwarding.specs.Heard.{Comes, Heard, after_row, nothing_heard, told_by}
use Rattle.proof_forwarding.specs.Owing.{AreYoung, Owed, Pays, due}

-- what happened once these rows were made
abbrev pub behind : List Row → History → History
behind [] h = h
behind (row ∷ rows) h = behind rows (after row h)

abbrev pub outs_of : List Row → List Out
outs_of rows = flat_map (λ row. row.outs) rows

-- of a client within, the rows that it made before one of the forwarder's, and those that it made in it
pub record Turn : Type 0 where
  pub before : List Row
  pub made : List Row

-- In these rows a client replied to the request of a query that asks the same.
pub record IsReply (q : Query) (reply : Result (List ℕ) Error) (turn : Turn) : Type 0 where
  pub number : ℕ
  pub asked : Asking
  pub first : Query
  pub is_asked : asking number (behind (turn.before ++ turn.made) []) ≡ Some asked
  pub request : asked.request ≡ request_of first
  pub same : key_of first ≡ key_of q
  pub put : Among (Reply number reply) (outs_of turn.made)

-- One of the clients did.
abbrev pub IsReplied : List Turn → Query → Result (List ℕ) Error → Type 0
IsReplied [] q reply = ⊥
IsReplied (turn ∷ turns) q reply = IsReply q reply turn ⊎ IsReplied turns q reply

module _ (timeout : ℕ) (own : Query → Option (List ℕ)) where
  -- A row: the things that came are done, what is put out is put out for one of them or for a query that waits, and those that wait then were taken less than the timeout ago.
  pub record RowServes (row : FrontRow) (turns : List Turn) (heard : Heard) (owing left : List Owed) : Type 0 where
    pub items : List Item
    pub come : Comes row.event.what heard items
    pub pays : Pays (IsReplied turns) own (due (told_by row.event heard) items owing) row.outs (due (after_row row heard) [] left)
    pub young : AreYoung timeout (after_row row heard).now left

  -- Rows of a forwarder from its beginning on, with those of the clients within it: what they tell of peers, and what is owed behind them.
  pub data Serves : (rows : List FrontRow) → (traces : List (List Row)) → Heard → (owing : List Owed) → Type 0 where
    begins : (traces : List (List Row)) → AllByRecursion (λ trace. trace ≡ []) traces → Serves [] traces nothing_heard []
    goes_on : (rows all : List FrontRow) (row : FrontRow) (turns : List Turn) (traces : List (List Row)) (heard : Heard) (owing left : List Owed)
        → Serves rows (map (λ turn. turn.before) turns) heard owing → RowServes row turns heard owing left
        → all ≡ rows ++ row ∷ [] → traces ≡ map (λ turn. turn.before ++ turn.made) turns
        → Serves all traces (after_row row heard) left

  -- Such rows.
  pub record ServesAll (rows : List FrontRow) (traces : List (List Row)) : Type 0 where
    pub heard : Heard
    pub owing : List Owed
    pub serves : Serves rows traces heard owing

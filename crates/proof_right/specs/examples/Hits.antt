-- A worked hit: the second asking of a trace is answered from the cache, as it must be.
use Rattle.std.specs.Prelude.{◌≡◌, ℕ, ◌+◌, ◌*◌, true, false, Some, List, [], ◌∷◌, ◌++◌, take, Ok}
use Rattle.client_request.specs.Composed.{composed}
use Rattle.client_request.specs.declared.event.What.TheVariants.{Ask}
use Rattle.client_request.specs.declared.event.Out.TheVariants.{Start, OpenDgram, Reply}
use Rattle.client_request.specs.declared.event.Row.{Row}
use Rattle.client_request.specs.declared.event.Via.TheVariants.{Dgram}
use Rattle.right_trace.specs.Trace.{History, Came, after}
use Rattle.right_trace.specs.Time.{now, Ever}
use Rattle.right_trace.specs.Messages.{Octets}
use Rattle.right_trace.specs.Requests.{asking, handed}
use Rattle.right_trace.specs.Settings.{first_settings}
use Rattle.right_trace.specs.Keys.{is_cacheable}
use Rattle.right_trace.specs.Validity.{validity_of_message}
use Rattle.right_trace.specs.Replies.{IsFreshReply}
use Rattle.right_trace.specs.Hit.{asks_since, replies_since, other_replies, AllAreViews, IsHit}
use Rattle.proof_right.specs.examples.Messages.{plain_request, answer}
use Rattle.proof_right.specs.examples.Rows.{at, so_far, by_datagrams}
use Rattle.proof_right.specs.examples.Cache.{asked_again}

-- what happened before the second asking, and its row
abbrev pub before_it : History
before_it = so_far 3 asked_again

abbrev pub its_row : Row
its_row = at 30000000 (Ask plain_request) (Reply 1 (Ok (answer 18 52 70)) ∷ [])

-- in place of the view the server is asked
abbrev pub missed : List Row
missed = take 3 asked_again ++ at 30000000 (Ask plain_request) (Start 1 0 Dgram ∷ OpenDgram 1 0 ∷ []) ∷ []

-- All that makes it a hit holds, where at least one entry is kept; and it is one.
pub record WorkedHit : Type 0 where
  pub asked : asking 0 before_it ≡ Some (record { request = plain_request; moment = 0 })
  pub got : Ever (IsFreshReply by_datagrams first_settings 0 (answer 18 52 100) 0) before_it
  pub valid : validity_of_message first_settings (answer 18 52 100) ≡ Some 100000000
  pub cacheable : is_cacheable plain_request ≡ true
  pub is_composed : (o : Octets) × (composed plain_request ≡ Ok o)
  pub age : 0 + 30000000 ≡ now (Came its_row.event ∷ before_it)
  pub views : AllAreViews plain_request (answer 18 52 100) 0 0 1 (after its_row before_it)
  pub none_between : 3 * asks_since 0 before_it + (replies_since 0 before_it + other_replies 1 its_row.outs) ≡ 0
  pub hit : IsHit plain_request plain_request (answer 18 52 100) 30000000 1 its_row.outs
  pub handed_to_none : (i : ℕ) → handed 1 i (after its_row before_it) ≡ false

-- A call of one connection whose posts, if any, are errors: what it leaves once they are collected.
use Rattle.std.proofs.Common.{◌≡◌, ℕ, ◌≤◌, List, [], ◌++◌, Some, None, sym, subst}
use Rattle.client_request.specs.Request.{Request}
use Rattle.client_request.specs.Requests.{for_one}
use Rattle.client_request.specs.View.{View}
use Rattle.client_request.specs.declared.board.Posted.{Posted}
use Rattle.client_request.specs.declared.event.Out.{Out}
use Rattle.client_multi.specs.Links.{Link, one_stream}
use Rattle.client_multi.specs.MultiStream.{taken, with_connection, taken_back, returns, collects}
use Rattle.right_trace.specs.Messages.{Octets}
use Rattle.proof_right.specs.machine.Part.{Act}
use Rattle.proof_right.specs.machine.Streams.{Multi}
use Rattle.proof_parts.specs.Connections.{timer_of, dues}
use Rattle.proof_parts.specs.PartTie.{Leads}
use Rattle.proof_parts.specs.Runs.{Runs}
use Rattle.proof_parts.specs.Sights.{sight, IsFair}
use Rattle.proof_multi.specs.Servers.{Server, desk_of, names_at, UnderWay, LinkFits, AreTables, AreOrderly, NoneHeard}
use Rattle.proof_multi.proofs.Calling.{CallLeft, call_so}
use Rattle.proof_multi.proofs.Collecting.{failing_errors, collects_so}
use Rattle.proof_multi.proofs.Going.{Went, went_then, leads_as}
use Rattle.right_trace.specs.Trace.{Conf}

module _ (conf : Conf) (server p : ℕ) (posts : List Posted) (frames fs : ℕ → List Octets) (y : UnderWay) (s : Server) (l : Link Request) (m n : Multi) (v w : View) (rq tk : ℕ) (c : Link Request)
    (none_failed : y.failed ≡ []) (same_frames : (q : ℕ) → (p ≡ q → ⊥) → fs q ≡ frames q)
    (tables : AreTables conf y (desk_of s) m (dues v))
    (links : (q : ℕ) → (p ≡ q → ⊥) → LinkFits conf (desk_of s) m frames (dues v) tk q)
    (watched_now : (q : ℕ) (k : Link Request) (i : ℕ) → (desk_of s).links q ≡ Some k → timer_of k.line.stage ≡ Some i → ((desk_of s).watches i ≡ Some q) × ((desk_of s).timers i ≡ None))
    (order : AreOrderly s (record (sight v) { ticket = tk })) (fair : IsFair v)
    (is : (desk_of s).links p ≡ Some l) (x : CallLeft conf p posts fs s l m n (record v { board = []; request = rq; ticket = tk }) w c)
    (m0 : Multi) (outs0 : List Out) (made : Act Multi) (state : made.state ≡ n) (runs : Runs conf server v.now v.place m0 made) (nothing : made.posts ≡ []) (outs : w.outs ≡ outs0 ++ made.outs) (place : w.place ≡ made.place) (more : w.more ≡ v.more) (le : v.ticket ≤ tk) (quiet : NoneHeard m0 → NoneHeard n) where
  abbrev v0 : View
  v0 = record v { outs = outs0 }

  abbrev r : Server
  r = with_connection (one_stream for_one) p c (taken (one_stream for_one) p l s)

  first_half : Went conf server fs (record { todo = y.todo; failed = posts }) (desk_of s) m0 v0 r (taken_back v w)
  first_half = (call_so conf server p posts frames fs y s l m n v w rq tk c none_failed same_frames tables links watched_now order fair is x m0 outs0 made state runs nothing outs place more le quiet).0

  pub returns_so : w.board ≡ posts → Leads (Went conf server fs (record { todo = y.todo; failed = [] }) (desk_of s) m0 v0) (returns (one_stream for_one) p (taken (one_stream for_one) p l s) v (c, w))
  returns_so board = subst (λ ps. Leads (Went conf server fs (record { todo = y.todo; failed = [] }) (desk_of s) m0 v0) (collects ps r (taken_back v w))) (sym board)
      (leads_as (Went conf server fs (record { todo = y.todo; failed = [] }) (desk_of r) first_half.made.state (taken_back v w)) (Went conf server fs (record { todo = y.todo; failed = [] }) (desk_of s) m0 v0) (collects posts r (taken_back v w))
      (collects_so conf server fs y.todo posts r first_half.made.state (taken_back v w) first_half.stands (failing_errors (names_at (desk_of s)) n.asks posts x.failing))
      (λ r2 u b. went_then conf server fs (record { todo = y.todo; failed = posts }) (record { todo = y.todo; failed = [] }) (desk_of s) m0 v0 r (taken_back v w) r2 u (record { order = fair.order; words = fair.words }) first_half b))

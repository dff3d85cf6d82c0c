-- Whether an out of a row is right where it is put, replies not asked.
use Rattle.std.specs.Prelude.{ℕ, ◌&&◌, Bool, is_none, nat_lt, length}
use Rattle.number_table.specs.Entries.{entry_at}
use Rattle.client_request.specs.declared.event.{What.What, Out.Out}
use Rattle.client_request.specs.declared.event.Out.TheVariants.{Reply, Stale}
use Rattle.right_trace.specs.Trace.{History, Conf}
use Rattle.right_trace.specs.Right.{HasServer, ServerOutRight}
use Rattle.trace_points.specs.questions.Outs.{Tells}
use Rattle.trace_outs.specs.declared.reasons.point.Point.{Point}
use Rattle.trace_outs.specs.reasons.Point.{Known}
use Rattle.trace_outs.specs.declared.loads.loads.Loads.{Loads}
use Rattle.trace_outs.specs.declared.loads.held.Held.{Held}
use Rattle.trace_outs.specs.loads.Loads as loads
use Rattle.trace_outs.specs.loads.Held as held

-- what an out owes; what a reply owes is not asked
abbrev pub OutOwes : Conf → (past : History) → What → (h end : History) → Out → Type 0
OutOwes c past w h end (Reply k x) = Unit {0}
OutOwes c past w h end (Stale k) = HasServer c
OutOwes c past w h end o = ServerOutRight c past w h end o

-- a place is unopened, and of a server
abbrev pub may_open_seen : (p s : ℕ) → Point → Bool
may_open_seen p s t = nat_lt s (length t.servers.now) && is_none (entry_at p t.here.now.books.places)

-- the answer, of all that is known at the point
abbrev pub TellsOut : Point → Loads → Held → Out → Bool → Type 0
TellsOut t l d o b = (c : Conf) (x h end : History) → Known c x h end t → loads.Known c h l → held.Known h d → Tells (OutOwes c x t.row.now.event.what h end o) b

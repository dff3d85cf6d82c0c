-- Whether a request may be handed to a server.
use Rattle.std.specs.Prelude.{ℕ, ◌==◌, ◌&&◌, ◌||◌, not, Bool, true, false, is_some, slice_get, List, [], ◌∷◌, Option, Some, None}
use Rattle.number_table.specs.Entries.{entry_at}
use Rattle.client_request.specs.declared.event.{Via.Via, What.What}
use Rattle.client_request.specs.declared.event.Via.TheVariants.{Dgram, Stream}
use Rattle.dns_base.specs.Header.{tc_of}
use Rattle.right_trace.specs.Trace.{History, Conf}
use Rattle.right_trace.specs.{Requests.same_via, Orderly.MayStart}
use Rattle.right_trace.specs.Right.{HasServer, IsAsked}
use Rattle.trace_tables.specs.declared.requests.Requests.{Requests}
use Rattle.trace_tables.specs.Requests.{started_seen}
use Rattle.trace_points.specs.declared.questions.configured.ServerUse.{ServerUse}
use Rattle.trace_points.specs.declared.questions.configured.ServerUse.TheVariants as uses
use Rattle.trace_points.specs.questions.Outs.{Tells}
use Rattle.trace_points.specs.declared.exchanges.coming.Coming.{Coming}
use Rattle.trace_outs.specs.declared.reasons.point.Point.{Point}
use Rattle.trace_outs.specs.reasons.Point.{Known}

abbrev pub by_datagrams : Option ServerUse → Bool
by_datagrams (Some uses.Datagrams) = true
by_datagrams _ = false

abbrev pub by_streams : Option ServerUse → Bool
by_streams (Some uses.Streams) = true
by_streams _ = false

-- a truncated datagram that answers request k came from server s
abbrev pub is_cut_answer : (k s : ℕ) → Coming → Bool
is_cut_answer k s x = (x.request == k) && (same_via x.via Dgram && ((x.server == s) && (x.agrees && tc_of x.message)))

abbrev pub some_cut_answer : (k s : ℕ) → List Coming → Bool
some_cut_answer k s [] = false
some_cut_answer k s (x ∷ xs) = is_cut_answer k s x || some_cut_answer k s xs

-- the server is used so, or it is after a truncated answer
abbrev pub is_used_for : (k s : ℕ) → Via → List ServerUse → List Coming → Bool
is_used_for k s Dgram us xs = by_datagrams (slice_get us s)
is_used_for k s Stream us xs = by_streams (slice_get us s) || (by_datagrams (slice_get us s) && some_cut_answer k s xs)

abbrev pub starts_so : (k s : ℕ) → Via → List ServerUse → Requests → List Coming → Bool
starts_so k s v us r xs = is_some (entry_at k r.askings) && (not (started_seen k s v r) && is_used_for k s v us xs)

abbrev pub start_seen : (k s : ℕ) → Via → Point → Bool
start_seen k s v p = starts_so k s v p.servers.now p.here.now.books.requests p.comings.now

-- what the definitions want of an out that hands a request to a server
abbrev pub StartIsRight : Conf → (k s : ℕ) → Via → (past : History) → What → (h : History) → Type 0
StartIsRight c k s v past w h = HasServer c × MayStart c k s past w h v × IsAsked k h

-- the answer, of all that is known at the point
abbrev pub TellsStart : (k s : ℕ) → Via → Point → Bool → Type 0
TellsStart k s v p b = (c : Conf) (x h end : History) → Known c x h end p → Tells (StartIsRight c k s v x p.row.now.event.what h) b

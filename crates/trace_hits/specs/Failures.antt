-- When requests failed, where what has expired should have stood in the place of the reply.
use Rattle.std.specs.Prelude.{ℕ, Bool, false, ◌||◌, if◌then◌else◌, is_some, List, [], ◌∷◌, Option, Some, None}
use Rattle.number_table.specs.Entries.{puts, entry_at}
use Rattle.client_request.specs.declared.event.{Event.Event, What.What, Out.Out, Out.TheVariants.Reply, Row.Row}
use Rattle.right_trace.specs.{Trace.Conf, Settings.Settings}
use Rattle.trace_points.specs.declared.pass.pass.Pass.{Pass}
use Rattle.trace_points.specs.pass.Pass as pass
use Rattle.trace_hits.specs.declared.failures.Failures.{Failures}
use Rattle.trace_hits.specs.{Failing.fails_by, Point.is_number}

abbrev pub nothing : Failures
nothing = record { past = pass.nothing; here = pass.nothing; moments = [] }

abbrev pub clock_of : Pass → ℕ
clock_of p = p.ledger.books.requests.clock

-- the request that an out lets fail, in a row with this event: p is known before the row, q where the out is put
abbrev pub failing : Conf → Settings → (p q : Pass) → What → Out → Option ℕ
failing c v p q w (Reply k x) = if fails_by c v p q w k x then Some k else None
failing c v p q w _ = None

abbrev pub noted : (k n : ℕ) → List (ℕ × ℕ) → List (ℕ × ℕ)
noted k n ms = if is_some (entry_at k ms) then ms else puts k n ms

abbrev pub noted_of : Option ℕ → (n : ℕ) → List (ℕ × ℕ) → List (ℕ × ℕ)
noted_of None n ms = ms
noted_of (Some k) n ms = noted k n ms

abbrev pub has_put : Conf → Settings → What → Out → Failures → Failures
has_put c v w o t = record {
  past = t.past;
  here = pass.has_put w o t.here;
  moments = noted_of (failing c v t.past t.here w o) (clock_of t.here) t.moments;
}

abbrev pub have_put : Conf → Settings → What → List Out → Failures → Failures
have_put c v w [] t = t
have_put c v w (o ∷ os) t = have_put c v w os (has_put c v w o t)

-- a row begins, and is done
abbrev pub begins : Conf → Event → Failures → Failures
begins c e t = record { past = t.past; here = pass.met c e t.here; moments = t.moments }

abbrev pub is_done : Conf → Row → Failures → Failures
is_done c row t = record { past = pass.after_row c row t.past; here = t.here; moments = t.moments }

abbrev pub after_row : Conf → Settings → Row → Failures → Failures
after_row c v row t = is_done c row (have_put c v row.event.what row.outs (begins c row.event t))

abbrev pub after_rows : Conf → Settings → List Row → Failures → Failures
after_rows c v [] t = t
after_rows c v (row ∷ rows) t = after_rows c v rows (after_row c v row t)

-- request k fails among these outs, the first of which is put where q is known
abbrev pub fails_in : Conf → Settings → (p q : Pass) → What → (k : ℕ) → List Out → Bool
fails_in c v p q w k [] = false
fails_in c v p q w k (o ∷ os) = is_number k (failing c v p q w o) || fails_in c v p (pass.has_put w o q) w k os

-- when it first fails in these rows, before which p is known
abbrev pub first_failure : Conf → Settings → (k : ℕ) → Pass → List Row → Option ℕ
first_failure c v k p [] = None
first_failure c v k p (row ∷ rows) =
    if fails_in c v p (pass.met c row.event p) row.event.what k row.outs then Some (clock_of (pass.met c row.event p))
    else first_failure c v k (pass.after_row c row p) rows

-- The request that waits longest, and that it is late where a row is not timely.
use Rattle.std.proofs.Common.{◌≡◌, ℕ, zero, suc, not, Bool, true, false, List, [], ◌∷◌, take, Option, Some, None, refl, sym, ap, subst}
use Rattle.client_request.specs.declared.event.Row.{Row}
use Rattle.right_trace.specs.Trace.{History, Conf, after}
use Rattle.right_trace.specs.Timely.{InTime}
use Rattle.trace_tables.specs.Requests.{deadline_seen}
use Rattle.trace_tables.proofs.Asking.{deadline_decides}
use Rattle.trace_hits.specs.declared.timely.waiting.Waiting.{Waiting}
use Rattle.trace_hits.specs.timely.Waiting.{Known, nothing, after_row, after_rows, first_of, in_time_of}
use Rattle.trace_hits.specs.timely.Timely.{FailsAt}
use Rattle.trace_hits.specs.timely.Longest.{IsLongest, IsNamed, LateAreNamed, behind, longest}
use Rattle.trace_hits.proofs.lemmas.timely.Keeping.{decides, first_waits, known_nothing, row_known}

rows_known : (rows : List Row) (h : History) (t : Waiting) → Known h t → Known (behind rows h) (after_rows rows t)
rows_known [] h t is = is
rows_known (row ∷ rows) h t is = rows_known rows (after row h) (after_row row t) (row_known row h t is)

pub waits_longest : (rows : List Row) (o : Option ℕ) → o ≡ longest rows → IsLongest rows o
waits_longest rows o e = subst (λ o. IsLongest rows o) (sym e) (first_waits (behind rows []) (after_rows rows nothing) (rows_known rows [] nothing known_nothing))

fails_behind : (n : ℕ) (c : Conf) (h : History) (rows : List Row) → FailsAt n c h rows → InTime c (behind (take (suc n) rows) h) → ⊥
fails_behind zero c h [] f i = f
fails_behind (suc n) c h [] f i = f
fails_behind zero c h (row ∷ rows) f i = f i
fails_behind (suc n) c h (row ∷ rows) f i = fails_behind n c (after row h) rows f.1 i

pub late_named : LateAreNamed
late_named c rows n f = go (first_of t.numbers) refl (λ e. fails_behind n c [] rows f ((decides c h t known).0 e))
  where
    h : History
    h = behind (take (suc n) rows) []

    t : Waiting
    t = after_rows (take (suc n) rows) nothing

    known : Known h t
    known = rows_known (take (suc n) rows) [] nothing known_nothing

    by : (k : ℕ) → first_of t.numbers ≡ Some k → (b : Bool) → deadline_seen c.timeout k t.requests ≡ b → (not (deadline_seen c.timeout k t.requests) ≡ true → ⊥) → IsNamed c rows n
    by k i true d late = record { request = k; waits_longest = i; late = (deadline_decides c h t.requests k known.requests).0 d }
    by k i false d late = absurd (late (ap not d))

    go : (o : Option ℕ) → first_of t.numbers ≡ o → (in_time_of c.timeout o t.requests ≡ true → ⊥) → IsNamed c rows n
    go None i late = absurd (late refl)
    go (Some k) i late = by k i (deadline_seen c.timeout k t.requests) refl late

-- When requests first fail, as one pass over the rows finds it.
use Rattle.std.proofs.Common.{◌≡◌, ℕ, ◌==◌, ◌||◌, Bool, true, false, Option, Some, None, List, [], ◌∷◌, refl, sym, ap, ap₂, ◌∙◌}
use Rattle.std.specs.Prelude.{if◌then◌else◌, is_some}
use Rattle.number_table.specs.Entries.{puts, entry_at}
use Rattle.client_request.specs.declared.event.{What.What, Out.Out, Row.Row}
use Rattle.client_request.specs.declared.event.Out.TheVariants.{Start, OpenDgram, OpenStream, Send, Write, Resume, Close, Stale, Reply}
use Rattle.right_trace.specs.{Trace.Conf, Settings.Settings}
use Rattle.trace_tables.proofs.Tables.{at_puts}
use Rattle.trace_points.specs.declared.pass.pass.Pass.{Pass}
use Rattle.trace_points.specs.pass.Pass as pass
use Rattle.trace_hits.specs.declared.failures.Failures.{Failures}
use Rattle.trace_hits.specs.Point.{is_number}
use Rattle.trace_hits.specs.Failures.{nothing, clock_of, failing, noted, noted_of, has_put, have_put, begins, after_row, after_rows, fails_in, first_failure}
use Rattle.trace_hits.proofs.Behind.{same_number}

abbrev or_first : Option ℕ → Option ℕ → Option ℕ
or_first (Some n) o = Some n
or_first None o = o

or_none : (o : Option ℕ) → or_first o None ≡ o
or_none (Some n) = refl
or_none None = refl

-- an out
module _ (k n : ℕ) (ms : List (ℕ × ℕ)) where
  note_at : (j : ℕ) → entry_at k (noted j n ms) ≡ or_first (entry_at k ms) (if j == k then Some n else None)
  note_at j = go (j == k) refl (entry_at j ms) refl (entry_at k ms) refl
    where
      written : entry_at k (puts j n ms) ≡ (if j == k then Some n else entry_at k ms)
      written = at_puts j n k ms

      go : (b : Bool) → (j == k) ≡ b → (p : Option ℕ) → entry_at j ms ≡ p → (o : Option ℕ) → entry_at k ms ≡ o → entry_at k (if is_some p then ms else puts j n ms) ≡ or_first o (if b then Some n else None)
      go true i (Some a) e (Some m) f = f
      go true i (Some a) e None f = absurd (let z : Some a ≡ None = sym e ∙ (ap (λ j. entry_at j ms) (same_number j k i) ∙ f) in cc)
      go true i None e (Some m) f = absurd (let z : None ≡ Some m = sym e ∙ (ap (λ j. entry_at j ms) (same_number j k i) ∙ f) in cc)
      go true i None e None f = written ∙ ap (λ b. if b then Some n else entry_at k ms) i
      go false i (Some a) e o f = f ∙ sym (or_none o)
      go false i None e o f = written ∙ (ap (λ b. if b then Some n else entry_at k ms) i ∙ (f ∙ sym (or_none o)))

  note_if_at : (p : Option ℕ) → entry_at k (noted_of p n ms) ≡ or_first (entry_at k ms) (if is_number k p then Some n else None)
  note_if_at None = sym (or_none (entry_at k ms))
  note_if_at (Some j) = note_at j

-- an out leaves the clock
clock_stays : (w : What) (o : Out) (q : Pass) → clock_of (pass.has_put w o q) ≡ clock_of q
clock_stays w (Start j t u) q = refl
clock_stays w (OpenDgram p t) q = refl
clock_stays w (OpenStream p t) q = refl
clock_stays w (Send p j i o) q = refl
clock_stays w (Write p j i o) q = refl
clock_stays w (Resume p o) q = refl
clock_stays w (Close p) q = refl
clock_stays w (Stale j) q = refl
clock_stays w (Reply j x) q = refl

module _ (c : Conf) (v : Settings) (w : What) where
  puts_at : (k : ℕ) (os : List Out) (t : Failures) → entry_at k (have_put c v w os t).moments ≡ or_first (entry_at k t.moments) (if fails_in c v t.past t.here w k os then Some (clock_of t.here) else None)
  puts_at k [] t = sym (or_none (entry_at k t.moments))
  puts_at k (o ∷ os) t =
      puts_at k os (has_put c v w o t)
      ∙ (ap₂ (λ p n. or_first p (if fails_in c v t.past (pass.has_put w o t.here) w k os then Some n else None)) (note_if_at k (clock_of t.here) t.moments (failing c v t.past t.here w o)) (clock_stays w o t.here)
      ∙ go (entry_at k t.moments) (is_number k (failing c v t.past t.here w o)) (fails_in c v t.past (pass.has_put w o t.here) w k os))
    where
      go : (p : Option ℕ) (a b : Bool) → or_first (or_first p (if a then Some (clock_of t.here) else None)) (if b then Some (clock_of t.here) else None) ≡ or_first p (if a || b then Some (clock_of t.here) else None)
      go (Some n) a b = refl
      go None true b = refl
      go None false b = refl

  puts_past : (os : List Out) (t : Failures) → (have_put c v w os t).past ≡ t.past
  puts_past [] t = refl
  puts_past (o ∷ os) t = puts_past os (has_put c v w o t)

  puts_here : (os : List Out) (t : Failures) → (have_put c v w os t).here ≡ pass.have_put w os t.here
  puts_here [] t = refl
  puts_here (o ∷ os) t = puts_here os (has_put c v w o t)

-- all rows, before which one thing is known
module _ (c : Conf) (v : Settings) where
  abbrev told : ℕ → Row → (p q : Pass) → Option ℕ
  told k row p q = if fails_in c v p (pass.met c row.event q) row.event.what k row.outs then Some (clock_of (pass.met c row.event q)) else None

  rows_at : (k : ℕ) (rows : List Row) (t : Failures) → t.past ≡ t.here → entry_at k (after_rows c v rows t).moments ≡ or_first (entry_at k t.moments) (first_failure c v k t.past rows)
  rows_at k [] t same = sym (or_none (entry_at k t.moments))
  rows_at k (row ∷ rows) t same =
      rows_at k rows (after_row c v row t) (past_is ∙ (ap (pass.after_row c row) same ∙ sym here_is))
      ∙ (ap₂ (λ o p. or_first o (first_failure c v k p rows)) (puts_at c v row.event.what k row.outs (begins c row.event t) ∙ ap (λ q. or_first (entry_at k t.moments) (told k row t.past q)) (sym same)) past_is
      ∙ go (entry_at k t.moments) (fails_in c v t.past (pass.met c row.event t.past) row.event.what k row.outs))
    where
      past_is : (after_row c v row t).past ≡ pass.after_row c row t.past
      past_is = ap (pass.after_row c row) (puts_past c v row.event.what row.outs (begins c row.event t))

      here_is : (after_row c v row t).here ≡ pass.after_row c row t.here
      here_is = puts_here c v row.event.what row.outs (begins c row.event t)

      go : (p : Option ℕ) (b : Bool) → or_first (or_first p (if b then Some (clock_of (pass.met c row.event t.past)) else None)) (first_failure c v k (pass.after_row c row t.past) rows)
          ≡ or_first p (if b then Some (clock_of (pass.met c row.event t.past)) else first_failure c v k (pass.after_row c row t.past) rows)
      go (Some n) b = refl
      go None true = refl
      go None false = refl

  pub from_nothing : (k : ℕ) (rows : List Row) → entry_at k (after_rows c v rows nothing).moments ≡ first_failure c v k pass.nothing rows
  from_nothing k rows = rows_at k rows nothing refl

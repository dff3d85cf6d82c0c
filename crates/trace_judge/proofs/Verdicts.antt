-- Rows and events, one after another, and what is said of all.
use Rattle.std.proofs.Common.{◌≡◌, ◌+◌, ◌<◌, ◌≤◌, ℕ, zero, suc, List, [], ◌∷◌, length, drop, Some, None, refl, sym, ap, subst, arith}
use Rattle.std.specs.Prelude.{◌↔◌}
use Rattle.client_request.specs.declared.event.{Event.Event, Row.Row}
use Rattle.right_trace.specs.Trace.{History, Conf, after}
use Rattle.right_trace.specs.Settings.{Settings}
use Rattle.trace_judge.specs.clauses.Clauses as clauses
use Rattle.trace_judge.specs.clauses.Verdicts.{Verdict, Right, Wrong, IsVerdict, KeepsAll}
use Rattle.trace_judge.specs.declared.judge.Judge.{Judge}
use Rattle.trace_judge.specs.declared.rules.Rules.{Rules}
use Rattle.trace_judge.specs.declared.verdict.{Clause.Clause, Verdict.Verdict as Said}
use Rattle.trace_judge.specs.Judge.{IsJudged, Judges, Known}
use Rattle.trace_judge.specs.Judge as plain
use Rattle.trace_judge.specs.Known.{BehindRight}
use Rattle.trace_judge.specs.Verdict.{clause_of, verdict_of}
use Rattle.trace_judge.specs.declared.verdict.Verdict.TheVariants as said
use Rattle.right_trace.specs.Right as right
use Rattle.trace_judge.specs.clauses.Laws.{HaveEvents}
use Rattle.trace_judge.proofs.lemmas.clauses.Verdicts.{kept_is_right, one_verdict}
use Rattle.trace_judge.proofs.Judging.{judge_begins, nothing_behind}
use Rattle.trace_judge.proofs.Listing.{none_left, some_left}

-- a verdict on rows behind so many
abbrev pub behind : (n : ℕ) → Verdict → Verdict
behind n Right = Right
behind n (Wrong x m) = Wrong x (n + m)

-- rows are judged up to a point: what is said of those that are left is said of all
pub record IsAmid (r : Rules) (es left : List Event) (rows rest : List Row) (n : ℕ) (j : Judge) : Type 0 where
  pub x : History
  pub so_far : BehindRight r.conf r.settings x
  pub known : Known r.conf r.settings x j
  pub said : (v : Verdict) → IsVerdict v r.conf r.settings x left rest → IsVerdict (behind n v) r.conf r.settings [] es rows

zero_behind : (v : Verdict) → behind 0 v ≡ v
zero_behind Right = refl
zero_behind (Wrong x m) = ap (Wrong x) (omega arith)

pub begins : (r : Rules) (es : List Event) (rows : List Row) (j : Judge) → plain.IsBegun r j → IsAmid r es es rows rows 0 j
begins r es rows j b = record {
  x = [];
  so_far = nothing_behind r.conf r.settings;
  known = judge_begins r j b;
  said = λ v i. subst (λ v. IsVerdict v r.conf r.settings [] es rows) (sym (zero_behind v)) i;
}

-- one row more
one_more : (c : Conf) (s : Settings) (x : History) (e : Event) (row : Row) (es : List Event) (rows : List Row) (v : Verdict) → KeepsAll c s x e row → IsVerdict v c s (after row x) es rows → IsVerdict (behind 1 v) c s x (e ∷ es) (row ∷ rows)
one_more c s x e row es rows Right k i = (k, i)
one_more c s x e row es rows (Wrong y m) k i = subst (λ n. IsVerdict (Wrong y n) c s x (e ∷ es) (row ∷ rows)) (next m) (k, i)
  where
    next : (m : ℕ) → suc m ≡ 1 + m
    next m = omega arith

two_behind : (n : ℕ) (v : Verdict) → behind n (behind 1 v) ≡ behind (n + 1) v
two_behind n Right = refl
two_behind n (Wrong y m) = ap (Wrong y) (omega arith)

pub goes_on : (r : Rules) (es left : List Event) (rows rest : List Row) (n : ℕ) (e : Event) (row : Row) (old new : Judge) → IsAmid r es (e ∷ left) rows (row ∷ rest) n old → Judges r e row old new None → IsAmid r es left rows rest (n + 1) new
goes_on r es left rows rest n e row old new a f =
    let d = f a.x a.so_far a.known in
    record {
      x = after row a.x;
      so_far = d.1;
      known = d.2;
      said = λ v i. subst (λ v. IsVerdict v r.conf r.settings [] es rows) (two_behind n v) (a.said (behind 1 v) (one_more r.conf r.settings a.x e row left rest v d.0 i));
    }

pub stops : (r : Rules) (es left : List Event) (rows rest : List Row) (n : ℕ) (e : Event) (row : Row) (old new : Judge) (y : Clause) → IsAmid r es (e ∷ left) rows (row ∷ rest) n old → Judges r e row old new (Some y) → IsVerdict (Wrong (clause_of y) n) r.conf r.settings [] es rows
stops r es left rows rest n e row old new y a f =
    subst (λ m. IsVerdict (Wrong (clause_of y) m) r.conf r.settings [] es rows) (same n) (a.said (Wrong (clause_of y) zero) (f a.x a.so_far a.known))
  where
    same : (n : ℕ) → n + zero ≡ n
    same n = omega arith

pub no_event : (r : Rules) (es : List Event) (rows rest : List Row) (n : ℕ) (row : Row) (j : Judge) → IsAmid r es [] rows (row ∷ rest) n j → IsVerdict (Wrong clauses.Events n) r.conf r.settings [] es rows
no_event r es rows rest n row j a = subst (λ m. IsVerdict (Wrong clauses.Events m) r.conf r.settings [] es rows) (same n) (a.said (Wrong clauses.Events zero) refl)
  where
    same : (n : ℕ) → n + zero ≡ n
    same n = omega arith

pub no_row : (r : Rules) (es left : List Event) (rows : List Row) (n : ℕ) (e : Event) (j : Judge) → IsAmid r es (e ∷ left) rows [] n j → IsVerdict (Wrong clauses.Events n) r.conf r.settings [] es rows
no_row r es left rows n e j a = subst (λ m. IsVerdict (Wrong clauses.Events m) r.conf r.settings [] es rows) (same n) (a.said (Wrong clauses.Events zero) refl)
  where
    same : (n : ℕ) → n + zero ≡ n
    same n = omega arith

pub all_right : (r : Rules) (es : List Event) (rows : List Row) (n : ℕ) (j : Judge) → IsAmid r es [] rows [] n j → IsVerdict Right r.conf r.settings [] es rows
all_right r es rows n j a = a.said Right tt

-- up to a point, by the place there
pub at_row : (r : Rules) (es : List Event) (rows : List Row) (n : ℕ) (e : Event) (row : Row) (j : Judge) → drop n es ≡ e ∷ drop (n + 1) es → drop n rows ≡ row ∷ drop (n + 1) rows → IsAmid r es (drop n es) rows (drop n rows) n j
    → IsAmid r es (e ∷ drop (n + 1) es) rows (row ∷ drop (n + 1) rows) n j
at_row r es rows n e row j a b i = subst (λ left. IsAmid r es left rows (row ∷ drop (n + 1) rows) n j) a (subst (λ rest. IsAmid r es (drop n es) rows rest n j) b i)

pub no_event_at : (r : Rules) (es : List Event) (rows : List Row) (n : ℕ) (row : Row) (j : Judge) → length es ≤ n → drop n rows ≡ row ∷ drop (n + 1) rows → IsAmid r es (drop n es) rows (drop n rows) n j → IsVerdict (Wrong clauses.Events n) r.conf r.settings [] es rows
no_event_at r es rows n row j h b i =
    no_event r es rows (drop (n + 1) rows) n row j (subst (λ left. IsAmid r es left rows (row ∷ drop (n + 1) rows) n j) (none_left n es h) (subst (λ rest. IsAmid r es (drop n es) rows rest n j) b i))

no_row_left : (r : Rules) (es left : List Event) (rows : List Row) (n : ℕ) (j : Judge) → 0 < length left → IsAmid r es left rows [] n j → IsVerdict (Wrong clauses.Events n) r.conf r.settings [] es rows
no_row_left r es [] rows n j h i = absurd (omega arith)
no_row_left r es (e ∷ left) rows n j h i = no_row r es left rows n e j i

pub no_row_at : (r : Rules) (es : List Event) (rows : List Row) (n : ℕ) (j : Judge) → n ≡ length rows → length rows < length es → IsAmid r es (drop n es) rows (drop n rows) n j → IsVerdict (Wrong clauses.Events (length rows)) r.conf r.settings [] es rows
no_row_at r es rows n j same h i =
    subst (λ m. IsVerdict (Wrong clauses.Events m) r.conf r.settings [] es rows) same
    (no_row_left r es (drop n es) rows n j (some_left n es (omega (arith, same, h))) (subst (λ rest. IsAmid r es (drop n es) rows rest n j) (none_left n rows (omega (arith, same))) i))

pub all_right_at : (r : Rules) (es : List Event) (rows : List Row) (n : ℕ) (j : Judge) → length rows ≤ n → length es ≤ length rows → IsAmid r es (drop n es) rows (drop n rows) n j → IsVerdict Right r.conf r.settings [] es rows
all_right_at r es rows n j g h i =
    all_right r es rows n j (subst (λ left. IsAmid r es left rows [] n j) (none_left n es (omega arith)) (subst (λ rest. IsAmid r es (drop n es) rows rest n j) (none_left n rows g) i))

-- the same under other names
pub audited : (c d : Conf) (s t : Settings) (es fs : List Event) (rows qs : List Row) (v : Said) → c ≡ d → s ≡ t → es ≡ fs → rows ≡ qs → IsVerdict (verdict_of v) c s [] es rows → IsVerdict (verdict_of v) d t [] fs qs
audited c d s t es fs rows qs v a b e f i =
    subst (λ c. IsVerdict (verdict_of v) c t [] fs qs) a (subst (λ s. IsVerdict (verdict_of v) c s [] fs qs) b (subst (λ es. IsVerdict (verdict_of v) c s [] es qs) e (subst (λ rows. IsVerdict (verdict_of v) c s [] es rows) f i)))

-- what is right of a verdict
pub right_said : (c : Conf) (s : Settings) (es : List Event) (rows : List Row) (v : Said) → IsVerdict (verdict_of v) c s [] es rows → (v ≡ said.Right) ↔ (HaveEvents es rows × right.Right c s rows)
right_said c s es rows v i = (λ e. kept_is_right.kept_right c s es rows (subst (λ v. IsVerdict (verdict_of v) c s [] es rows) e i), λ r. is_right v (one_verdict c s es rows (verdict_of v) Right i (kept_is_right.right_kept c s es rows r.0 r.1)))
  where
    is_right : (v : Said) → verdict_of v ≡ Right → v ≡ said.Right
    is_right said.Right e = refl
    is_right (said.Wrong x n) e = absurd (cc)

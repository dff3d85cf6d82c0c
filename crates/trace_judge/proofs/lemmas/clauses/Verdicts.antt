-- All clauses are kept exactly in right traces of a script's events, and one verdict alone is so.
use Rattle.std.proofs.Common.{◌≡◌, ℕ, zero, suc, List, [], ◌∷◌, refl, sym, ap, ◌∙◌}
use Rattle.std.specs.Prelude.{map}
use Rattle.client_request.specs.declared.event.{Event.Event, Row.Row}
use Rattle.right_trace.specs.Trace.{History, Conf, after}
use Rattle.right_trace.specs.Settings.{Settings}
use Rattle.right_trace.specs.Right as right
use Rattle.trace_judge.specs.clauses.Clauses.{Clause, Events, Messages, Firsts, Causes, Orders, Prompts, Keeps}
use Rattle.trace_judge.specs.clauses.Verdicts.{KeepsAll, KeepsBefore, BreaksFirst, AllKept, FailsAt, Verdict, Right, Wrong, IsVerdict}
use Rattle.trace_judge.specs.clauses.Laws.{HaveEvents, KeptIsRight, OneVerdict}
use Rattle.trace_judge.proofs.lemmas.clauses.Rows.{row_right, right_row}

module _ (c : Conf) (s : Settings) where
  kept_right : (past : History) (es : List Event) (rows : List Row) → AllKept c s past es rows → HaveEvents es rows × right.RightAfter c s past rows
  kept_right past [] [] k = (refl, tt)
  kept_right past [] (row ∷ rows) k = absurd k
  kept_right past (e ∷ es) [] k = absurd k
  kept_right past (e ∷ es) (row ∷ rows) k =
      let more = kept_right (after row past) es rows k.1 in
      (let here = k.0 Events in let there = more.0 in cc, (row_right c s past e row k.0, more.1))

  right_kept : (past : History) (es : List Event) (rows : List Row) → HaveEvents es rows → right.RightAfter c s past rows → AllKept c s past es rows
  right_kept past [] [] h r = tt
  right_kept past [] (row ∷ rows) h r = absurd (cc)
  right_kept past (e ∷ es) [] h r = absurd (cc)
  right_kept past (e ∷ es) (row ∷ rows) h r = (right_row c s past e row (cc) r.0, right_kept (after row past) es rows (cc) r.1)

  -- what is asked before a clause that a row does not keep is kept, so no two are the first
  before : (past : History) (e : Event) (row : Row) (x y : Clause) → KeepsBefore x c s past e row → BreaksFirst y c s past e row → (Keeps x c s past e row → ⊥) → x ≡ y
  before past e row Events Events k b not_kept = refl
  before past e row Events Messages k b not_kept = absurd (not_kept b.0)
  before past e row Events Firsts k b not_kept = absurd (not_kept b.0.0)
  before past e row Events Causes k b not_kept = absurd (not_kept b.0.0)
  before past e row Events Orders k b not_kept = absurd (not_kept b.0.0)
  before past e row Events Prompts k b not_kept = absurd (not_kept b.0.0)
  before past e row Messages Events k b not_kept = absurd (b.1 k)
  before past e row Messages Messages k b not_kept = refl
  before past e row Messages Firsts k b not_kept = absurd (not_kept b.0.1)
  before past e row Messages Causes k b not_kept = absurd (not_kept b.0.1)
  before past e row Messages Orders k b not_kept = absurd (not_kept b.0.1)
  before past e row Messages Prompts k b not_kept = absurd (not_kept b.0.1)
  before past e row Firsts Events k b not_kept = absurd (b.1 k.0)
  before past e row Firsts Messages k b not_kept = absurd (b.1 k.1)
  before past e row Firsts Firsts k b not_kept = refl
  before past e row Firsts Causes k b not_kept = absurd (not_kept b.0.2)
  before past e row Firsts Orders k b not_kept = absurd (not_kept b.0.2)
  before past e row Firsts Prompts k b not_kept = absurd (not_kept b.0.2)
  before past e row Causes Events k b not_kept = absurd (b.1 k.0)
  before past e row Causes Messages k b not_kept = absurd (b.1 k.1)
  before past e row Causes Firsts k b not_kept = absurd (b.1 k.2)
  before past e row Causes Causes k b not_kept = refl
  before past e row Causes Orders k b not_kept = absurd (not_kept b.0.3)
  before past e row Causes Prompts k b not_kept = absurd (not_kept b.0.3)
  before past e row Orders Events k b not_kept = absurd (b.1 k.0)
  before past e row Orders Messages k b not_kept = absurd (b.1 k.1)
  before past e row Orders Firsts k b not_kept = absurd (b.1 k.2)
  before past e row Orders Causes k b not_kept = absurd (b.1 k.3)
  before past e row Orders Orders k b not_kept = refl
  before past e row Orders Prompts k b not_kept = absurd (not_kept b.0.4)
  before past e row Prompts Events k b not_kept = absurd (b.1 k.0)
  before past e row Prompts Messages k b not_kept = absurd (b.1 k.1)
  before past e row Prompts Firsts k b not_kept = absurd (b.1 k.2)
  before past e row Prompts Causes k b not_kept = absurd (b.1 k.3)
  before past e row Prompts Orders k b not_kept = absurd (b.1 k.4)
  before past e row Prompts Prompts k b not_kept = refl

  fails_once : (past : History) (es : List Event) (rows : List Row) (x y : Clause) (n m : ℕ) → FailsAt x n c s past es rows → FailsAt y m c s past es rows → (x ≡ y) × (n ≡ m)
  fails_once past (e ∷ es) (row ∷ rows) x y zero zero a b = (before past e row x y a.0 b a.1, refl)
  fails_once past (e ∷ es) (row ∷ rows) x y zero (suc m) a b = absurd (a.1 (b.0 x))
  fails_once past (e ∷ es) (row ∷ rows) x y (suc n) zero a b = absurd (b.1 (a.0 y))
  fails_once past (e ∷ es) (row ∷ rows) x y (suc n) (suc m) a b = let more = fails_once (after row past) es rows x y n m a.1 b.1 in (more.0, ap suc more.1)
  fails_once past (e ∷ es) [] x y zero zero a b = (a ∙ sym b, refl)
  fails_once past (e ∷ es) [] x y zero (suc m) a b = absurd b
  fails_once past (e ∷ es) [] x y (suc n) m a b = absurd a
  fails_once past [] (row ∷ rows) x y zero zero a b = (a ∙ sym b, refl)
  fails_once past [] (row ∷ rows) x y zero (suc m) a b = absurd b
  fails_once past [] (row ∷ rows) x y (suc n) m a b = absurd a
  fails_once past [] [] x y zero m a b = absurd a
  fails_once past [] [] x y (suc n) m a b = absurd a

  kept_or_fails : (past : History) (es : List Event) (rows : List Row) (x : Clause) (n : ℕ) → AllKept c s past es rows → FailsAt x n c s past es rows → ⊥
  kept_or_fails past [] [] x zero k f = f
  kept_or_fails past [] [] x (suc n) k f = f
  kept_or_fails past [] (row ∷ rows) x n k f = k
  kept_or_fails past (e ∷ es) [] x n k f = k
  kept_or_fails past (e ∷ es) (row ∷ rows) x zero k f = f.1 (k.0 x)
  kept_or_fails past (e ∷ es) (row ∷ rows) x (suc n) k f = kept_or_fails (after row past) es rows x n k.1 f.1

pub kept_is_right : KeptIsRight
kept_is_right = record { kept_right = λ c s es rows k. kept_right c s [] es rows k; right_kept = λ c s es rows h r. right_kept c s [] es rows h r }

pub one_verdict : OneVerdict
one_verdict c s es rows Right Right k l = refl
one_verdict c s es rows Right (Wrong x n) k f = absurd (kept_or_fails c s [] es rows x n k f)
one_verdict c s es rows (Wrong x n) Right f k = absurd (kept_or_fails c s [] es rows x n k f)
one_verdict c s es rows (Wrong x n) (Wrong y m) f g = let both = fails_once c s [] es rows x y n m f g in (let x = both.0 in let y = both.1 in cc)

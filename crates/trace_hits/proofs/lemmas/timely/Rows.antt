-- Rows, one after another, and which of them is the first that is not timely.
use Rattle.std.proofs.Common.{◌≡◌, ◌+◌, ℕ, zero, suc, Bool, true, false, List, [], ◌∷◌, Option, Some, None, refl, sym, ap, ◌∙◌, subst, arith}
use Rattle.std.specs.Prelude.{◌↔◌, if◌then◌else◌, Result, Ok, Err, IfOk}
use Rattle.client_request.specs.declared.event.Row.{Row}
use Rattle.right_trace.specs.Trace.{History, Conf, after}
use Rattle.right_trace.specs.Timely.{InTime, Timely, TimelyAfter}
use Rattle.trace_hits.specs.declared.timely.waiting.Waiting.{Waiting}
use Rattle.trace_hits.specs.timely.Waiting.{Known, nothing, after_row, in_time_seen}
use Rattle.trace_hits.specs.timely.Timely.{FailsAt, IsUntimely, TellsUntimely, first_late}
use Rattle.trace_hits.proofs.lemmas.timely.Keeping.{row_known, known_nothing, decides}

-- what is said of rows, counted from n
abbrev Judged : Conf → (past : History) → List Row → (n : ℕ) → Option ℕ → Type 0
Judged c past rows n None = TimelyAfter c past rows
Judged c past rows n (Some m) = (k : ℕ) × (m ≡ n + k) × FailsAt k c past rows

later : (c : Conf) (past : History) (rows : List Row) (row : Row) (n : ℕ) (o : Option ℕ) → InTime c (after row past) → Judged c (after row past) rows (n + 1) o → Judged c past (row ∷ rows) n o
later c past rows row n None r j = (r, j)
later c past rows row n (Some m) r j = (suc j.0, (let e : m ≡ (n + 1) + j.0 = j.1 in omega arith), (r, j.2))

judged : (c : Conf) (past : History) (t : Waiting) (rows : List Row) (n : ℕ) → Known past t → Judged c past rows n (first_late c.timeout n rows t)
judged c past t [] n is = tt
judged c past t (row ∷ rows) n is = go known (judged c (after row past) (after_row row t) rows (n + 1) known) (in_time_seen c.timeout (after_row row t)) refl
  where
    known : Known (after row past) (after_row row t)
    known = row_known row past t is

    go : Known (after row past) (after_row row t) → Judged c (after row past) rows (n + 1) (first_late c.timeout (n + 1) rows (after_row row t)) → (b : Bool) → in_time_seen c.timeout (after_row row t) ≡ b
        → Judged c past (row ∷ rows) n (if b then first_late c.timeout (n + 1) rows (after_row row t) else Some n)
    go k rest true e = later c past rows row n (first_late c.timeout (n + 1) rows (after_row row t)) ((decides c (after row past) (after_row row t) k).0 e) rest
    go k rest false e = (zero, omega arith, λ f. absurd (let z = (decides c (after row past) (after_row row t) k).1 f in let y : false ≡ true = sym e ∙ z in cc))

named : (c : Conf) (rows : List Row) (o : Option ℕ) → Judged c [] rows 0 o → IsUntimely o c [] rows
named c rows None j = j
named c rows (Some m) j = subst (λ m. FailsAt m c [] rows) (let e : m ≡ 0 + j.0 = j.1 in omega arith) j.2

pub untimely : (timeout : ℕ) (rows : List Row) (o : Option ℕ) → o ≡ first_late timeout 0 rows nothing → TellsUntimely timeout rows o
untimely timeout rows o e c same = named c rows o (subst (λ o. Judged c [] rows 0 o) (ap (λ n. first_late n 0 rows nothing) same ∙ sym e) (judged c [] nothing rows 0 known_nothing))

-- the same under other names
pub told : (timeout : ℕ) (c : Conf) (rows qs : List Row) (o : Option ℕ) → c.timeout ≡ timeout → qs ≡ rows → TellsUntimely timeout qs o → IsUntimely o c [] rows
told timeout c rows qs o same e f = subst (λ rows. IsUntimely o c [] rows) e (f c same)

-- no row is said, exactly where all are timely
not_both : (n : ℕ) (c : Conf) (x : History) (rows : List Row) → FailsAt n c x rows → TimelyAfter c x rows → ⊥
not_both zero c x [] f t = f
not_both (suc n) c x [] f t = f
not_both zero c x (row ∷ rows) f t = f t.0
not_both (suc n) c x (row ∷ rows) f t = not_both n c (after row x) rows f.1 t.1

pub none_is_timely : (c : Conf) (rows : List Row) (o : Option ℕ) → IsUntimely o c [] rows → (o ≡ None) ↔ Timely c rows
none_is_timely c rows None i = (λ e. i, λ t. refl)
none_is_timely c rows (Some n) i = (λ e. absurd (cc), λ t. absurd (not_both n c [] rows i t))

pub if_ok : {A E : Type 0} {P Q : A → Type 0} (r : Result A E) → ((a : A) → P a → Q a) → IfOk r P → IfOk r Q
if_ok (Ok a) f h = f a h
if_ok (Err x) f h = tt

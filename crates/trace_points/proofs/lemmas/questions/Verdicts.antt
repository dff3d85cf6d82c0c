-- What the forward pass says of replies is what the definitions say.
use Rattle.std.proofs.Common.{◌≡◌, ℕ, zero, suc, ◌+◌, ◌&&◌, Bool, true, false, Option, Some, None, List, [], ◌∷◌, refl, sym, ap, ◌∙◌, subst, arith}
use Rattle.std.specs.Prelude.{if◌then◌else◌}
use Rattle.client_request.specs.declared.event.{What.What, Out.Out, Row.Row}
use Rattle.client_request.specs.declared.event.Out.TheVariants.{Start, OpenDgram, OpenStream, Send, Write, Resume, Close, Stale, Reply}
use Rattle.right_trace.specs.Trace.{History, Came, Put, put_all, after}
use Rattle.right_trace.specs.Time.{newest}
use Rattle.trace_tables.specs.declared.books.Books.{Books}
use Rattle.trace_tables.specs.Books.{Known, nothing, met, has_put, have_put, after_row}
use Rattle.trace_tables.proofs.Keeping.{goes_on}
use Rattle.trace_points.specs.questions.Judging.{out_first, outs_first, row_first, least_from, OutIsFirst, OutsAreFirst, RowIsFirst, AllAreFirst, FailsFirst, IsVerdict}
use Rattle.trace_points.proofs.lemmas.questions.Deciding.{first, is_first}

out_is : (h : History) (o : Out) (b : Books) → Known h b → out_first o b ≡ true → OutIsFirst h o
out_is h (Reply k x) b is e = first h b k is e
out_is h (Start k t v) b is e = tt
out_is h (OpenDgram p t) b is e = tt
out_is h (OpenStream p t) b is e = tt
out_is h (Send p k i o) b is e = tt
out_is h (Write p k i o) b is e = tt
out_is h (Resume p o) b is e = tt
out_is h (Close p) b is e = tt
out_is h (Stale k) b is e = tt

is_out : (h : History) (o : Out) (b : Books) → Known h b → OutIsFirst h o → out_first o b ≡ true
is_out h (Reply k x) b is f = is_first h b k is f
is_out h (Start k t v) b is f = refl
is_out h (OpenDgram p t) b is f = refl
is_out h (OpenStream p t) b is f = refl
is_out h (Send p k i o) b is f = refl
is_out h (Write p k i o) b is f = refl
is_out h (Resume p o) b is f = refl
is_out h (Close p) b is f = refl
is_out h (Stale k) b is f = refl

-- the outs of a row
module _ (w : What) where
  next : (h : History) (b : Books) (o : Out) → newest h ≡ w → Known h b → Known (Put o ∷ h) (has_put w o b)
  next h b o e is = subst (λ w. Known (Put o ∷ h) (has_put w o b)) e (goes_on.out h b o is)

  outs_are : (h : History) (b : Books) (os : List Out) → newest h ≡ w → Known h b → outs_first w os b ≡ true → OutsAreFirst h os
  outs_are h b [] e is t = tt
  outs_are h b (o ∷ os) e is t = go (outs_are (Put o ∷ h) (has_put w o b) os e (next h b o e is)) (out_first o b) refl t
    where
      go : (outs_first w os (has_put w o b) ≡ true → OutsAreFirst (Put o ∷ h) os) → (c : Bool) → out_first o b ≡ c → (c && outs_first w os (has_put w o b)) ≡ true → OutsAreFirst h (o ∷ os)
      go rest true ec t = (out_is h o b is ec, rest t)
      go rest false ec t = absurd (cc)

  are_outs : (h : History) (b : Books) (os : List Out) → newest h ≡ w → Known h b → OutsAreFirst h os → outs_first w os b ≡ true
  are_outs h b [] e is f = refl
  are_outs h b (o ∷ os) e is f = ap (λ c. c && outs_first w os (has_put w o b)) (is_out h o b is f.0) ∙ are_outs (Put o ∷ h) (has_put w o b) os e (next h b o e is) f.1

row_is : (past : History) (b : Books) (row : Row) → Known past b → row_first row b ≡ true → RowIsFirst past row
row_is past b row is t = outs_are row.event.what (Came row.event ∷ past) (met row.event b) row.outs refl (goes_on.event past b row.event is) t

row_is_not : (past : History) (b : Books) (row : Row) → Known past b → row_first row b ≡ false → RowIsFirst past row → ⊥
row_is_not past b row is t f = let yes : row_first row b ≡ true = are_outs row.event.what (Came row.event ∷ past) (met row.event b) row.outs refl (goes_on.event past b row.event is) f in cc

-- the least row
abbrev Judged : (past : History) (rows : List Row) (n : ℕ) → Option ℕ → Type 0
Judged past rows n None = AllAreFirst past rows
Judged past rows n (Some m) = (k : ℕ) × (m ≡ n + k) × FailsFirst past rows k

later : (past : History) (rows : List Row) (row : Row) (n : ℕ) (o : Option ℕ) → RowIsFirst past row → Judged (after row past) rows (n + 1) o → Judged past (row ∷ rows) n o
later past rows row n None r j = (r, j)
later past rows row n (Some m) r j = (suc j.0, (let e : m ≡ (n + 1) + j.0 = j.1 in omega arith), (r, j.2))

judged : (past : History) (b : Books) (rows : List Row) (n : ℕ) → Known past b → Judged past rows n (least_from n rows b)
judged past b [] n is = tt
judged past b (row ∷ rows) n is = go (judged (after row past) (after_row row b) rows (n + 1) (goes_on.row past b row is)) (row_first row b) refl
  where
    go : Judged (after row past) rows (n + 1) (least_from (n + 1) rows (after_row row b)) → (c : Bool) → row_first row b ≡ c → Judged past (row ∷ rows) n (if c then least_from (n + 1) rows (after_row row b) else Some n)
    go rest true e = later past rows row n (least_from (n + 1) rows (after_row row b)) (row_is past b row is e) rest
    go rest false e = (zero, omega arith, row_is_not past b row is e)

named : (rows : List Row) (o : Option ℕ) → Judged [] rows 0 o → IsVerdict rows o
named rows None j = j
named rows (Some m) j = subst (λ m. FailsFirst [] rows m) (let e : m ≡ 0 + j.0 = j.1 in omega arith) j.2

pub verdict : (rows : List Row) (o : Option ℕ) → o ≡ least_from 0 rows nothing → IsVerdict rows o
verdict rows o e = named rows o (subst (λ o. Judged [] rows 0 o) (sym e) (judged [] nothing rows 0 goes_on.begins))

-- The first entry of a table, and a table without it.
use Rattle.std.proofs.Common.{◌≡◌, ℕ, suc, ◌≤◌, true, cond, List, ◌∷◌, Option, Some, None, is_eq, nat_cmp, sym, ap, ◌∙◌, arith}
use Rattle.std.proofs.lemmas.Bool.Decides.{nat_tests}
use Rattle.client_request.specs.Numbered.{puts, frees, entry_at}
use Rattle.right_trace.specs.Updates.{with_at}
use Rattle.proof_parts.specs.Lines.{Sorted}
use Rattle.proof_parts.proofs.Tables.{at_puts, at_frees, rises_from}
use Rattle.proof_parts.proofs.Keys.{with_again, with_same}
use mathlib.Core.Path.{fun_ext}

itself : (k : ℕ) → is_eq (nat_cmp k k) ≡ true
itself k = grind (arith, nat_tests)

-- a table as a function
abbrev pub table : {A : Type 0} → List (ℕ × A) → ℕ → Option A
table es j = entry_at j es

module _ {A : Type 0} where
  pub at_first : (k : ℕ) (v : A) (es : List (ℕ × A)) → entry_at k ((k, v) ∷ es) ≡ Some v
  at_first k v es = ap (λ b. cond b (Some v) (entry_at k es)) (itself k)

  pub frees_first : (k : ℕ) (v : A) (es : List (ℕ × A)) → frees k ((k, v) ∷ es) ≡ es
  frees_first k v es = ap (λ b. cond b es ((k, v) ∷ frees k es)) (itself k)

  pub behind_first : (k : ℕ) (v : A) (lo hi : ℕ) (es : List (ℕ × A)) → Sorted lo hi ((k, v) ∷ es) → table es ≡ with_at k None (table ((k, v) ∷ es))
  behind_first k v lo hi es r = fun_ext (λ j. ap (entry_at j) (sym (frees_first k v es)) ∙ at_frees k j lo hi ((k, v) ∷ es) r)

  pub sorted_behind : (k : ℕ) (v : A) (lo hi : ℕ) (es : List (ℕ × A)) → Sorted lo hi ((k, v) ∷ es) → Sorted lo hi es
  sorted_behind k v lo hi es r = rises_from (λ (e : ℕ × A). e.0) (suc k) lo hi es (over lo k r.0) r.2
    where
      over : (lo x : ℕ) → lo ≤ x → lo ≤ suc x
      over lo x le = omega arith

  -- an entry that is put where none is and taken out again leaves nothing
  pub puts_and_frees : (k : ℕ) (v : A) (lo hi : ℕ) (es : List (ℕ × A)) → Sorted lo hi (puts k v es) → entry_at k es ≡ None → table (frees k (puts k v es)) ≡ table es
  puts_and_frees k v lo hi es r none = fun_ext (λ j. at_frees k j lo hi (puts k v es) r ∙ (ap (λ f. with_at k None f j) (fun_ext (λ q. at_puts k v q es)) ∙ (with_again k None (Some v) (λ q. entry_at q es) j ∙ with_same k None (λ q. entry_at q es) j none)))

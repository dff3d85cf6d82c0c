-- The number of each ticket's request, as a job goes or comes.
use Rattle.std.proofs.Common.{◌≡◌, ℕ, List, inl, inr, Option, Some, None, sym, ap, ◌∙◌}
use Rattle.std.specs.Prelude.{option_map}
use Rattle.std.proofs.lemmas.Bool.{cases_eq}
use Rattle.client_request.specs.Numbered.{puts, frees, entry_at}
use Rattle.client_request.specs.Request.{Request}
use Rattle.client_dgram.specs.declared.job.Job.{Job}
use Rattle.right_trace.specs.Updates.{with_at}
use Rattle.proof_parts.specs.Lines.{Sorted}
use Rattle.proof_parts.proofs.Keys.{with_here, with_there}
use Rattle.proof_parts.proofs.Tables.{at_frees, at_puts}

abbrev pub numbers : List (ℕ × Job Request) → ℕ → Option ℕ
numbers jobs t = option_map (λ (j : Job Request). j.number) (entry_at t jobs)

abbrev number_of : Option (Job Request) → Option ℕ
number_of o = option_map (λ (j : Job Request). j.number) o

pub names_less : (t hi : ℕ) (jobs : List (ℕ × Job Request)) → Sorted 0 hi jobs → (q : ℕ) → numbers (frees t jobs) q ≡ with_at t None (numbers jobs) q
names_less t hi jobs r q = ap number_of (at_frees t q 0 hi jobs r) ∙ elim (cases_eq t q) [
  | inl e ↦ ap (λ q. number_of (with_at t None (λ i. entry_at i jobs) q)) (sym e) ∙ (ap number_of (with_here t None (λ i. entry_at i jobs)) ∙ (sym (with_here t None (numbers jobs)) ∙ ap (with_at t None (numbers jobs)) e))
  | inr ne ↦ ap number_of (with_there t None (λ i. entry_at i jobs) q ne) ∙ sym (with_there t None (numbers jobs) q ne)
]

pub names_more : (t : ℕ) (j : Job Request) (jobs : List (ℕ × Job Request)) (q : ℕ) → numbers (puts t j jobs) q ≡ with_at t (Some j.number) (numbers jobs) q
names_more t j jobs q = ap number_of (at_puts t j q jobs) ∙ elim (cases_eq t q) [
  | inl e ↦ ap (λ q. number_of (with_at t (Some j) (λ i. entry_at i jobs) q)) (sym e) ∙ (ap number_of (with_here t (Some j) (λ i. entry_at i jobs)) ∙ (sym (with_here t (Some j.number) (numbers jobs)) ∙ ap (with_at t (Some j.number) (numbers jobs)) e))
  | inr ne ↦ ap number_of (with_there t (Some j) (λ i. entry_at i jobs) q ne) ∙ sym (with_there t (Some j.number) (numbers jobs) q ne)
]

-- a job that was taken out comes again under its ticket
pub names_again : (t hi : ℕ) (j i : Job Request) (jobs : List (ℕ × Job Request)) → Sorted 0 hi jobs → entry_at t jobs ≡ Some j → i.number ≡ j.number → (q : ℕ) → numbers (puts t i (frees t jobs)) q ≡ numbers jobs q
names_again t hi j i jobs r is same q = names_more t i (frees t jobs) q ∙ elim (cases_eq t q) [
  | inl e ↦ ap (with_at t (Some i.number) (numbers (frees t jobs))) (sym e) ∙ (with_here t (Some i.number) (numbers (frees t jobs)) ∙ (ap Some same ∙ (sym (ap number_of is) ∙ ap (numbers jobs) e)))
  | inr ne ↦ with_there t (Some i.number) (numbers (frees t jobs)) q ne ∙ (names_less t hi jobs r q ∙ with_there t None (numbers jobs) q ne)
]

-- How the program ends, from the parts that it ran.
use Rattle.std.proofs.Common.{◌≡◌, ◌≢◌, ◌⊎◌, inl, inr, ℕ, List, false, ap, sym, subst, ◌∙◌}
use Rattle.std.proofs.lemmas.Bool.Decides.{eqb_tells}
use Rattle.dns_values.specs.declared.numbers.Status.{Status}
use Rattle.trace_audit_run.specs.Ends.{AuditEnds, End, is_approved, is_denied, is_misused, is_stopped, is_unwritten, out_of_memory}
use Rattle.trace_audit_run.specs.Ends as ends
use Rattle.trace_audit_run.specs.Program.{IsAudited, IsGood, IsStop}
use Rattle.trace_audit_run.specs.{Sentences.Names, Stops.status_of}
use Rattle.trace_audit_run.specs.Words.{are_two, asked_by, names_among}
use Rattle.trace_audit_run.specs.declared.stop.Stop.{Stop}
use Rattle.trace_audit_run.specs.declared.texts.Answer.{Answer}
use Rattle.trace_audit_run.specs.declared.words.Asked.{Asked}

module _ (words : Names) (Of : (List ℕ → List ℕ → Type 0) → Type 0) (Rises : Stop → Type 0) (Told : Names → End → Type 0) (names : Names) (its : names ≡ names_among words) (status : ℕ) where
  pub ended_misused : are_two names ≡ false → (status ≡ 2) ⊎ (status ≡ 6) → (status ≡ 2 → Told names ends.misused) → AuditEnds words Of Rises (Told (names_among words)) status
  ended_misused other (inl two) tells = is_misused (subst (λ (n : Names). are_two n ≡ false) its other) two (subst (λ (n : Names). Told n ends.misused) its (tells two))
  ended_misused other (inr six) tells = out_of_memory six

  pub ended_stopped : (stop : Stop) → Of (λ a b. IsStop a b stop) → Rises stop → (status ≡ status_of stop) ⊎ (status ≡ 6) → (status ≢ 6 → Told names (ends.stopped stop)) → AuditEnds words Of Rises (Told (names_among words)) status
  ended_stopped stop is rises (inr six) tells = out_of_memory six
  ended_stopped stop is rises (inl same) tells = elim (eqb_tells status 6) [
    | inl six ↦ out_of_memory six.1
    | inr other ↦ is_stopped stop is rises same (subst (λ (n : Names). Told n (ends.stopped stop)) its (tells other.1))
  ]

  pub ended_answered : (said : Answer) (d : Asked) → d ≡ asked_by words → Of (λ a b. IsAudited d a b said) → (status ≡ 0) ⊎ ((status ≡ 4) ⊎ ((status ≡ 5) ⊎ (status ≡ 6))) → (status ≡ 0 → IsGood said)
      → (status ≡ 0 → Told names ends.approved) → (status ≡ 4 → Told names ends.unwritten) → (status ≡ 5 → Told names (ends.denied said)) → AuditEnds words Of Rises (Told (names_among words)) status
  ended_answered said d same is (inl zero) good right cut denied =
      is_approved said (subst (λ (d : Asked). Of (λ a b. IsAudited d a b said)) same is) (good zero) zero (subst (λ (n : Names). Told n ends.approved) its (right zero))
  ended_answered said d same is (inr (inl four)) good right cut denied = is_unwritten said (subst (λ (d : Asked). Of (λ a b. IsAudited d a b said)) same is) four (subst (λ (n : Names). Told n ends.unwritten) its (cut four))
  ended_answered said d same is (inr (inr (inl five))) good right cut denied = is_denied said (subst (λ (d : Asked). Of (λ a b. IsAudited d a b said)) same is) five (subst (λ (n : Names). Told n (ends.denied said)) its (denied five))
  ended_answered said d same is (inr (inr (inr six))) good right cut denied = out_of_memory six

-- what a status tells that is told of
same_number : (told status : Status) (n : ℕ) → (told ≡ status) ⊎ (told.0 ≡ 6) → told.0 ≡ n → n ≢ 6 → status.0 ≡ n
same_number told status n (inl same) is other = ap (λ (s : Status). s.0) (sym same) ∙ is
same_number told status n (inr six) is other = absurd (other (sym is ∙ six))

pub told_at : (told status : Status) (n : ℕ) (P : Type 0) → (told ≡ status) ⊎ (told.0 ≡ 6) → n ≢ 6 → (status.0 ≡ n → P) → told.0 ≡ n → P
told_at told status n P same other holds is = holds (same_number told status n same is other)

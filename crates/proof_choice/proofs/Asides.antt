-- Requests that are due stay aside of a server while another one changes.
use Rattle.std.proofs.Common.{◌≡◌, ℕ, ◌≤◌, inl, inr, Option, Some, None, refl, ap, subst, ◌∙◌}
use Rattle.client_request.specs.View.{View}
use Rattle.right_trace.specs.Updates.{with_at}
use Rattle.proof_parts.specs.Sights.{due_of}
use Rattle.proof_parts.proofs.Keys.{with_there, is_or_was}
use Rattle.proof_choice.specs.Choosing.{Choosing}
use Rattle.proof_choice.specs.Requests.{Work, IsAside, AreAside}
use Rattle.proof_choice.proofs.AtServer.{both_are, none_is}

module _ (g : Choosing) (current t : ℕ) where
  -- a request is changed, or a new one
  pub put_aside : (job : Work g) (old tab : ℕ → Option (Work g)) (v : View) → ((u : ℕ) (other : Work g) → (t ≡ u → ⊥) → tab u ≡ Some other → old u ≡ Some other)
      → ((i due : ℕ) → job.timer ≡ Some i → due_of i v.timers.set ≡ Some due → due ≤ v.now → IsAside g current job) → AreAside g current old v → AreAside g current (with_at t (Some job) tab) v
  put_aside job old tab v was here are u other i due is timer set late = elim (is_or_was t (Some job) tab u other is) [
    | inl q ↦ (let same : job ≡ other = both_are (Some job) job other refl q.1 in subst (λ j. IsAside g current j) same (here i due (ap (λ (j : Work g). j.timer) same ∙ timer) set late))
    | inr q ↦ are u other i due (was u other q.0 q.1) timer set late
  ]

  -- one in hand is changed
  pub change_aside : (job job' : Work g) (tab : ℕ → Option (Work g)) (v : View) → ((i due : ℕ) → job'.timer ≡ Some i → due_of i v.timers.set ≡ Some due → due ≤ v.now → IsAside g current job')
      → AreAside g current (with_at t (Some job) tab) v → AreAside g current (with_at t (Some job') tab) v
  change_aside job job' tab v here are = put_aside job' (with_at t (Some job) tab) tab v (λ u other ne is. with_there t (Some job) tab u ne ∙ is) here are

  -- it has no timer then
  pub calm_aside : (job job' : Work g) (tab : ℕ → Option (Work g)) (v : View) → job'.timer ≡ None → AreAside g current (with_at t (Some job) tab) v → AreAside g current (with_at t (Some job') tab) v
  calm_aside job job' tab v calm are = change_aside job job' tab v (λ i due timer set late. absurd (none_is job'.timer i calm timer)) are

  -- one is no more
  pub gone_aside : (o : Option (Work g)) (tab : ℕ → Option (Work g)) (v : View) → tab t ≡ None → AreAside g current (with_at t o tab) v → AreAside g current tab v
  gone_aside o tab v new are u other i due is timer set late = are u other i due (with_there t o tab u (λ same. none_is (tab u) other (subst (λ u. tab u ≡ None) same new) is) ∙ is) timer set late

-- What an edge gives that passes servers by.
use Rattle.std.proofs.Common.{◌≡◌, ℕ, List, Option, None, Some, sym, ap, ◌∙◌}
use Rattle.client_core.specs.Edge.{after_deed}
use Rattle.client_core.specs.declared.edge.Deed.{Deed}
use Rattle.client_core.specs.declared.edge.Deed.TheVariants.{Polled}
use Rattle.client_request.specs.declared.event.What.{What}
use Rattle.dns_lookup_run.specs.Passing.{Gives, Passing, given_for, refuser}

module _ {E : Type 0} where
  keeps_edge : (at : Option (ℕ × ℕ)) (came what : Option What) (old after : Passing E) → given_for at came old ≡ (what, after) → after.edge ≡ old.edge
  keeps_edge None came what old after e = sym (ap (λ (p : Option What × Passing E). p.1.edge) e)
  keeps_edge (Some at) came what old after e = sym (ap (λ (p : Option What × Passing E). p.1.edge) e)

  pub keeps_faults : (at : Option (ℕ × ℕ)) (came what : Option What) (old after : Passing E) → given_for at came old ≡ (what, after) → after.faults ≡ old.faults
  keeps_faults None came what old after e = sym (ap (λ (p : Option What × Passing E). p.1.faults) e)
  keeps_faults (Some at) came what old after e = sym (ap (λ (p : Option What × Passing E). p.1.faults) e)

  with_faults : (p : Passing E) (n : ℕ) → p.faults ≡ n → p ≡ record p { faults = n }
  with_faults p n e = ap (λ (f : ℕ). record p { faults = f }) e

  pub gives_so : (deeds : E → Option (List Deed)) (old after : Passing E) (edge : E) (came what : Option What) (n : ℕ) → deeds edge ≡ after_deed (Polled came) (deeds old.edge)
      → given_for (refuser came old.places) came (record old { edge = edge }) ≡ (what, after) → Gives deeds old what (record after { faults = n })
  gives_so deeds old after edge came what n polled given =
      let at = refuser came old.places in
      let mid : Passing E = record old { edge = edge } in
      let same = keeps_edge at came what mid after given in
      record {
        came = came;
        polled = ap deeds same ∙ polled;
        given = ap (λ (x : E). given_for at came (record old { edge = x })) same ∙ (given ∙ ap (λ (p : Passing E). (what, p)) (with_faults after old.faults (keeps_faults at came what mid after given)));
      }

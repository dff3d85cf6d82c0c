-- What holds of all that a step leaves, if it leaves anything.
use Rattle.std.proofs.Common.{Option, Some, None, Bool, true, false, if◌then◌else◌}
use Rattle.std.specs.Prelude.{option_and_then, option_map}
use Rattle.client_request.specs.View.{View}
use Rattle.proof_parts.specs.PartTie.{Leads}

module _ {U V : Type 0} where
  pub leads_then : (A : U → View → Type 0) (B : V → View → Type 0) (k : U × View → Option (V × View)) (o : Option (U × View)) → ((u : U) (w : View) → A u w → Leads B (k (u, w))) → Leads A o → Leads B (option_and_then k o)
  leads_then A B k None f l = tt
  leads_then A B k (Some z) f l = f z.0 z.1 l

  pub leads_map : (A : U → View → Type 0) (B : V → View → Type 0) (k : U × View → V × View) (o : Option (U × View)) → ((u : U) (w : View) → A u w → B (k (u, w)).0 (k (u, w)).1) → Leads A o → Leads B (option_map k o)
  leads_map A B k None f l = tt
  leads_map A B k (Some z) f l = f z.0 z.1 l

module _ {U : Type 0} where
  pub leads_on : (A B : U → View → Type 0) (o : Option (U × View)) → ((u : U) (w : View) → A u w → B u w) → Leads A o → Leads B o
  leads_on A B None f l = tt
  leads_on A B (Some z) f l = f z.0 z.1 l

  -- one of two
  pub leads_if : (A : U → View → Type 0) (b : Bool) (o p : Option (U × View)) → Leads A o → Leads A p → Leads A (if b then o else p)
  leads_if A true o p l m = l
  leads_if A false o p l m = m

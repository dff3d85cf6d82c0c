-- What is told of some events, and then of others.
use Rattle.std.proofs.Common.{◌≡◌, ℕ, Option, Some, None, List, [], ◌∷◌, ◌++◌, refl, sym, ◌∙◌, ap, append_assoc}
use Rattle.std.specs.Prelude.{option_and_then, option_map}
use Rattle.client_request.specs.declared.event.Event.{Event}
use Rattle.client_request.specs.declared.event.Out.{Out}
use Rattle.client_request.specs.declared.event.Row.{Row}
use Rattle.client_steps.specs.Client.{Client, Machine, row_step}
use Rattle.proof_cutting.specs.Told.{then_told, told_all}

module _ {C : Type 0} where
  -- with other outs before
  abbrev pub after_outs : List Out → Option (List Out × C) → Option (List Out × C)
  after_outs outs o = option_map (λ y. (outs ++ y.0, y.1)) o

  nothing_before : (o : Option (List Out × C)) → o ≡ after_outs [] o
  nothing_before None = refl
  nothing_before (Some y) = refl

  pub twice_before : (xs ys : List Out) (o : Option (List Out × C)) → after_outs xs (after_outs ys o) ≡ after_outs (xs ++ ys) o
  twice_before xs ys None = refl
  twice_before xs ys (Some y) = ap (λ (outs : List Out). Some (outs, y.1)) (sym (append_assoc xs ys y.0))

module _ {U P : Type 0} (m : Machine U P) (timeout : ℕ) where
  abbrev then_all : List Event → List Out × Client U P → Option (List Out × Client U P)
  then_all ys x = after_outs x.0 (told_all m timeout ys x.1)

  pub appended : (xs ys : List Event) (c : Client U P)
      → told_all m timeout (xs ++ ys) c ≡ option_and_then (λ x. option_map (λ y. (x.0 ++ y.0, y.1)) (told_all m timeout ys x.1)) (told_all m timeout xs c)
  appended [] ys c = nothing_before (told_all m timeout ys c)
  appended (e ∷ es) ys c = by (row_step m timeout e c) (appended es ys)
    where
      rest : (outs : List Out) (o : Option (List Out × Client U P)) → after_outs outs (option_and_then (then_all ys) o) ≡ option_and_then (then_all ys) (after_outs outs o)
      rest outs None = refl
      rest outs (Some z) = twice_before outs z.0 (told_all m timeout ys z.1)

      by : (o : Option (Row × Client U P)) → ((c : Client U P) → told_all m timeout (es ++ ys) c ≡ option_and_then (then_all ys) (told_all m timeout es c))
          → option_and_then (then_told m timeout (told_all m timeout (es ++ ys))) o ≡ option_and_then (then_all ys) (option_and_then (then_told m timeout (told_all m timeout es)) o)
      by None ih = refl
      by (Some x) ih = ap (after_outs (x.0).outs) (ih x.1) ∙ rest (x.0).outs (told_all m timeout es x.1)

  -- Where pieces do what the whole does, they do so among other events.
  pub cut_is : (before pieces after : List Event) (whole : Event) (c : Client U P)
      → ((outs : List Out) (d : Client U P) → told_all m timeout before c ≡ Some (outs, d) → told_all m timeout pieces d ≡ told_all m timeout (whole ∷ []) d)
      → told_all m timeout (before ++ (pieces ++ after)) c ≡ told_all m timeout (before ++ whole ∷ after) c
  cut_is before pieces after whole c h = appended before (pieces ++ after) c ∙ by (told_all m timeout before c) h ∙ sym (appended before (whole ∷ after) c)
    where
      by : (o : Option (List Out × Client U P)) → ((outs : List Out) (d : Client U P) → o ≡ Some (outs, d) → told_all m timeout pieces d ≡ told_all m timeout (whole ∷ []) d)
          → option_and_then (then_all (pieces ++ after)) o ≡ option_and_then (then_all (whole ∷ after)) o
      by None h = refl
      by (Some x) h =
          ap (after_outs x.0) (appended pieces after x.1 ∙ ap (option_and_then (then_all after)) (h x.0 x.1 refl) ∙ sym (appended (whole ∷ []) after x.1))

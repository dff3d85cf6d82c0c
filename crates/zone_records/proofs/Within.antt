-- Names at an apex or below it.
use Rattle.std.proofs.Common.{◌≡◌, ℕ, Bool, true, false, List, [], ◌∷◌, sym, ap, ◌∙◌}
use Rattle.std.specs.Prelude.{◌||◌}
use Rattle.dns_names.specs.Name.{Labels, same_name}
use Rattle.zone_records.specs.Records.{is_within}

-- the apex itself
pub within_where_same : (apex owner : Labels) → same_name owner apex ≡ true → is_within apex owner ≡ true
within_where_same apex [] e = e
within_where_same apex (label ∷ labels) e = ap (λ (b : Bool). b || is_within apex labels) e

pub here : (apex all left : Labels) (b : Bool) → is_within apex all ≡ is_within apex left → b ≡ same_name left apex → b ≡ true → true ≡ is_within apex all
here apex all left b same is t = sym (same ∙ within_where_same apex left (sym is ∙ t))

pub nowhere : (apex all left : Labels) (b : Bool) → is_within apex all ≡ is_within apex left → left ≡ [] → b ≡ same_name left apex → b ≡ false → false ≡ is_within apex all
nowhere apex all left b same none is f = sym (same ∙ (ap (is_within apex) none ∙ (ap (λ (xs : Labels). same_name xs apex) (sym none) ∙ (sym is ∙ f))))

pub further : (apex all left behind : Labels) (label : List ℕ) (b : Bool) → is_within apex all ≡ is_within apex left → left ≡ label ∷ behind → b ≡ same_name left apex → b ≡ false → is_within apex all ≡ is_within apex behind
further apex all left behind label b same steps is f =
    same ∙ (ap (is_within apex) steps ∙ ap (λ (c : Bool). c || is_within apex behind) (ap (λ (xs : Labels). same_name xs apex) (sym steps) ∙ (sym is ∙ f)))

-- What is put into a table in order and taken out again.
use Rattle.std.proofs.Common.{◌≡◌, List, [], ◌∷◌, Ordering, Less, Equal, Greater, Some, None, cond, refl, sym, ap, ◌∙◌}
use Rattle.std.specs.Cmp.{IsTotalOrder}
use Rattle.std.specs.List.{AllByRecursion}
use Rattle.std.specs.List.Sorted.{IsStrictlySortedBy}
use Rattle.std.specs.Map.{keys_of, lookup, remove_entry}
use Rattle.std.specs.Ordering.{match_ordering, is_eq}
use Rattle.std.specs.BTreeMap.{insert_entry, is_at}
use Rattle.std.proofs.lemmas.Cmp.{tied_itself}
use Rattle.std.proofs.lemmas.Map.Keys.{sorted_head, sorted_tail}

module _ {K X : Type 0} {R : K → K → Ordering} (total : IsTotalOrder R) (k : K) (v : X) where
  abbrev without : List (K × X) → List (K × X)
  without es = remove_entry (is_at (R k)) es

  -- what is above a key that is above k is above k
  above : (l : K) (es : List (K × X)) → R k l ≡ Less → AllByRecursion (λ q. R l q ≡ Less) (keys_of es) → AllByRecursion (λ q. R k q ≡ Less) (keys_of es)
  above l [] less all = tt
  above l (e ∷ es) less all = (total.trans k l e.0 less all.0, above l es less all.1)

  -- nothing is at k where all keys are above it
  none_there : (es : List (K × X)) → AllByRecursion (λ q. R k q ≡ Less) (keys_of es) → without es ≡ es
  none_there [] all = refl
  none_there (e ∷ es) all = ap (λ (o : Ordering). cond (is_eq o) es (e ∷ without es)) all.0 ∙ ap (λ (rest : List (K × X)). e ∷ rest) (none_there es all.1)

  put_at : (e : K × X) (es : List (K × X)) → IsStrictlySortedBy R (keys_of (e ∷ es)) → without (insert_entry R es k v) ≡ without es
      → (r : Ordering) → R k e.0 ≡ r → without (match_ordering r ((k, v) ∷ e ∷ es) ((e.0, v) ∷ es) (e ∷ insert_entry R es k v)) ≡ without (e ∷ es)
  put_at e es sorted later Less h =
      ap (λ (o : Ordering). cond (is_eq o) (e ∷ es) ((k, v) ∷ without (e ∷ es))) (tied_itself total k)
      ∙ sym (none_there (e ∷ es) (h, above e.0 es h (sorted_head R e.0 (keys_of es) sorted)))
  put_at e es sorted later Equal h =
      ap (λ (o : Ordering). cond (is_eq o) es ((e.0, v) ∷ without es)) h ∙ sym (ap (λ (o : Ordering). cond (is_eq o) es (e ∷ without es)) h)
  put_at e es sorted later Greater h =
      ap (λ (o : Ordering). cond (is_eq o) (insert_entry R es k v) (e ∷ without (insert_entry R es k v))) h
      ∙ ap (λ (rest : List (K × X)). e ∷ rest) later ∙ sym (ap (λ (o : Ordering). cond (is_eq o) es (e ∷ without es)) h)

  -- what was put at k, or was there before, is no more
  pub removed_put : (es : List (K × X)) → IsStrictlySortedBy R (keys_of es) → without (insert_entry R es k v) ≡ without es
  removed_put [] sorted = ap (λ (o : Ordering). cond (is_eq o) [] ((k, v) ∷ [])) (tied_itself total k)
  removed_put (e ∷ es) sorted = put_at e es sorted (removed_put es (sorted_tail R e.0 (keys_of es) sorted)) (R k e.0) refl

  found_at : (e : K × X) (es : List (K × X)) → lookup (is_at (R k)) (insert_entry R es k v) ≡ Some v
      → (r : Ordering) → R k e.0 ≡ r → lookup (is_at (R k)) (match_ordering r ((k, v) ∷ e ∷ es) ((e.0, v) ∷ es) (e ∷ insert_entry R es k v)) ≡ Some v
  found_at e es later Less h = ap (λ (o : Ordering). cond (is_eq o) (Some v) (lookup (is_at (R k)) (e ∷ es))) (tied_itself total k)
  found_at e es later Equal h = ap (λ (o : Ordering). cond (is_eq o) (Some v) (lookup (is_at (R k)) es)) h
  found_at e es later Greater h = ap (λ (o : Ordering). cond (is_eq o) (Some e.1) (lookup (is_at (R k)) (insert_entry R es k v))) h ∙ later

  -- what was put at k is there
  pub found_put : (es : List (K × X)) → lookup (is_at (R k)) (insert_entry R es k v) ≡ Some v
  found_put [] = ap (λ (o : Ordering). cond (is_eq o) (Some v) None) (tied_itself total k)
  found_put (e ∷ es) = found_at e es (found_put es) (R k e.0) refl

-- Tables by number: what stands where once an entry is put or taken out.
use Rattle.std.proofs.Common.{◌≡◌, ◌≢◌, ℕ, List, [], ◌∷◌, Option, Some, None, Ordering, Less, Equal, Greater, nat_cmp, cond, Bool, true, false, refl, sym, subst, ap, ◌∙◌, arith}
use Rattle.std.specs.Cmp.Lexicographic.{slice_cmp}
use Rattle.std.specs.List.{AllByRecursion}
use Rattle.std.specs.Map.{lookup, remove_entry}
use Rattle.std.specs.Ordering.{match_ordering, is_eq}
use Rattle.std.specs.BTreeMap.{insert_entry, is_at}
use Rattle.std.proofs.lemmas.Bool.Decides.{nat_tests}
use Rattle.std.proofs.lemmas.Cmp.{nat_cmp_total, tied_itself}
use Rattle.std.proofs.lemmas.Map.Lookups.{exact_bytes}
use Rattle.number_table.specs.Entries.{puts, frees, entry_at}

greater : (k l : ℕ) → nat_cmp k l ≡ Greater → nat_cmp l k ≡ Less
greater k l h = grind (arith, nat_tests)

equal_keys : (j k : ℕ) → nat_cmp j k ≡ Equal → j ≡ k
equal_keys j k is = grind (arith, nat_tests)

pub key_apart : (j k : ℕ) → j ≢ k → is_eq (nat_cmp j k) ≡ false
key_apart j k ne = go (nat_cmp j k) refl
  where
    go : (r : Ordering) → nat_cmp j k ≡ r → is_eq r ≡ false
    go Less is = refl
    go Equal is = absurd (ne (equal_keys j k is))
    go Greater is = refl

module _ {V : Type 0} where
  -- all keys are above this one
  abbrev pub Above : ℕ → List (ℕ × V) → Type 0
  Above k [] = Unit {0}
  Above k (e ∷ es) = (nat_cmp k e.0 ≡ Less) × Above k es

  -- keys rise
  abbrev pub Rises : List (ℕ × V) → Type 0
  Rises [] = Unit {0}
  Rises (e ∷ es) = Above e.0 es × Rises es

  above_more : (k l : ℕ) (es : List (ℕ × V)) → nat_cmp k l ≡ Less → Above l es → Above k es
  above_more k l [] less all = tt
  above_more k l (e ∷ es) less all = (nat_cmp_total.trans k l e.0 less all.0, above_more k l es less all.1)

  above_put : (l k : ℕ) (v : V) (es : List (ℕ × V)) → nat_cmp l k ≡ Less → Above l es → Above l (puts k v es)
  above_put l k v [] less all = (less, tt)
  above_put l k v (e ∷ es) less all = go (nat_cmp k e.0) (above_put l k v es less all.1)
    where
      go : (r : Ordering) → Above l (puts k v es) → Above l (match_ordering r ((k, v) ∷ e ∷ es) ((e.0, v) ∷ es) (e ∷ puts k v es))
      go Less ih = (less, all)
      go Equal ih = all
      go Greater ih = (all.0, ih)

  above_free : (l k : ℕ) (es : List (ℕ × V)) → Above l es → Above l (frees k es)
  above_free l k [] all = tt
  above_free l k (e ∷ es) all = go (is_eq (nat_cmp k e.0)) (above_free l k es all.1)
    where
      go : (b : Bool) → Above l (frees k es) → Above l (cond b es (e ∷ frees k es))
      go true ih = all.1
      go false ih = (all.0, ih)

  pub put_rises : (k : ℕ) (v : V) (es : List (ℕ × V)) → Rises es → Rises (puts k v es)
  put_rises k v [] rises = (tt, tt)
  put_rises k v (e ∷ es) rises = go (nat_cmp k e.0) refl (put_rises k v es rises.1)
    where
      go : (r : Ordering) → nat_cmp k e.0 ≡ r → Rises (puts k v es) → Rises (match_ordering r ((k, v) ∷ e ∷ es) ((e.0, v) ∷ es) (e ∷ puts k v es))
      go Less is ih = ((is, above_more k e.0 es is rises.0), rises)
      go Equal is ih = rises
      go Greater is ih = (above_put e.0 k v es (greater k e.0 is) rises.0, ih)

  pub freed_rises : (k : ℕ) (es : List (ℕ × V)) → Rises es → Rises (frees k es)
  freed_rises k [] rises = tt
  freed_rises k (e ∷ es) rises = go (is_eq (nat_cmp k e.0)) (freed_rises k es rises.1)
    where
      go : (b : Bool) → Rises (frees k es) → Rises (cond b es (e ∷ frees k es))
      go true ih = rises.1
      go false ih = (above_free e.0 k es rises.0, ih)

  pub put_here : (k : ℕ) (v : V) (es : List (ℕ × V)) → entry_at k (puts k v es) ≡ Some v
  put_here k v [] = ap (λ (o : Ordering). cond (is_eq o) (Some v) None) (tied_itself nat_cmp_total k)
  put_here k v (e ∷ es) = go (nat_cmp k e.0) refl (put_here k v es)
    where
      go : (r : Ordering) → nat_cmp k e.0 ≡ r → entry_at k (puts k v es) ≡ Some v → entry_at k (match_ordering r ((k, v) ∷ e ∷ es) ((e.0, v) ∷ es) (e ∷ puts k v es)) ≡ Some v
      go Less is ih = ap (λ (o : Ordering). cond (is_eq o) (Some v) (entry_at k (e ∷ es))) (tied_itself nat_cmp_total k)
      go Equal is ih = ap (λ (o : Ordering). cond (is_eq o) (Some v) (entry_at k es)) is
      go Greater is ih = ap (λ (o : Ordering). cond (is_eq o) (Some e.1) (entry_at k (puts k v es))) is ∙ ih

  pub put_other : (j k : ℕ) (v : V) (es : List (ℕ × V)) → j ≢ k → entry_at j (puts k v es) ≡ entry_at j es
  put_other j k v [] ne = ap (λ (b : Bool). cond b (Some v) None) (key_apart j k ne)
  put_other j k v (e ∷ es) ne = go (nat_cmp k e.0) refl (put_other j k v es ne)
    where
      go : (r : Ordering) → nat_cmp k e.0 ≡ r → entry_at j (puts k v es) ≡ entry_at j es → entry_at j (match_ordering r ((k, v) ∷ e ∷ es) ((e.0, v) ∷ es) (e ∷ puts k v es)) ≡ entry_at j (e ∷ es)
      go Less is ih = ap (λ (b : Bool). cond b (Some v) (entry_at j (e ∷ es))) (key_apart j k ne)
      go Equal is ih =
          let not_it : is_eq (nat_cmp j e.0) ≡ false = key_apart j e.0 (λ same. ne (same ∙ sym (equal_keys k e.0 is))) in
          ap (λ (b : Bool). cond b (Some v) (entry_at j es)) not_it ∙ sym (ap (λ (b : Bool). cond b (Some e.1) (entry_at j es)) not_it)
      go Greater is ih = ap (λ (o : Option V). cond (is_eq (nat_cmp j e.0)) (Some e.1) o) ih

  pub none_above : (k : ℕ) (es : List (ℕ × V)) → Above k es → entry_at k es ≡ None
  none_above k [] all = refl
  none_above k (e ∷ es) all = ap (λ (o : Ordering). cond (is_eq o) (Some e.1) (entry_at k es)) all.0 ∙ none_above k es all.1

  pub free_here : (k : ℕ) (es : List (ℕ × V)) → Rises es → entry_at k (frees k es) ≡ None
  free_here k [] rises = refl
  free_here k (e ∷ es) rises = go (nat_cmp k e.0) refl (free_here k es rises.1)
    where
      go : (r : Ordering) → nat_cmp k e.0 ≡ r → entry_at k (frees k es) ≡ None → entry_at k (cond (is_eq r) es (e ∷ frees k es)) ≡ None
      go Less is ih = ap (λ (o : Ordering). cond (is_eq o) (Some e.1) (entry_at k (frees k es))) is ∙ ih
      go Equal is ih = none_above k es (subst (λ (n : ℕ). Above n es) (sym (equal_keys k e.0 is)) rises.0)
      go Greater is ih = ap (λ (o : Ordering). cond (is_eq o) (Some e.1) (entry_at k (frees k es))) is ∙ ih

  pub free_other : (j k : ℕ) (es : List (ℕ × V)) → j ≢ k → entry_at j (frees k es) ≡ entry_at j es
  free_other j k [] ne = refl
  free_other j k (e ∷ es) ne = go (nat_cmp k e.0) refl (free_other j k es ne)
    where
      go : (r : Ordering) → nat_cmp k e.0 ≡ r → entry_at j (frees k es) ≡ entry_at j es → entry_at j (cond (is_eq r) es (e ∷ frees k es)) ≡ entry_at j (e ∷ es)
      go Less is ih = ap (λ (o : Option V). cond (is_eq (nat_cmp j e.0)) (Some e.1) o) ih
      go Equal is ih = sym (ap (λ (b : Bool). cond b (Some e.1) (entry_at j es)) (key_apart j e.0 (λ same. ne (same ∙ sym (equal_keys k e.0 is)))))
      go Greater is ih = ap (λ (o : Option V). cond (is_eq (nat_cmp j e.0)) (Some e.1) o) ih

-- Tables by lists of octets, of whose entries something holds.
module _ {V : Type 0} (P : List ℕ × V → Type 0) where
  abbrev pub Each : List (List ℕ × V) → Type 0
  Each es = AllByRecursion P es

  pub each_put : (k : List ℕ) (v : V) (es : List (List ℕ × V)) → P (k, v) → Each es → Each (insert_entry (slice_cmp nat_cmp) es k v)
  each_put k v [] p all = (p, tt)
  each_put k v (e ∷ es) p all = go (slice_cmp nat_cmp k e.0) refl (each_put k v es p all.1)
    where
      go : (r : Ordering) → slice_cmp nat_cmp k e.0 ≡ r → Each (insert_entry (slice_cmp nat_cmp) es k v) → Each (match_ordering r ((k, v) ∷ e ∷ es) ((e.0, v) ∷ es) (e ∷ insert_entry (slice_cmp nat_cmp) es k v))
      go Less is ih = (p, all)
      go Equal is ih = (subst (λ (j : List ℕ). P (j, v)) (exact_bytes k e.0 is) p, all.1)
      go Greater is ih = (all.0, ih)

  pub each_removed : (test : List ℕ → Bool) (es : List (List ℕ × V)) → Each es → Each (remove_entry test es)
  each_removed test [] all = tt
  each_removed test (e ∷ es) all = go (test e.0) (each_removed test es all.1)
    where
      go : (b : Bool) → Each (remove_entry test es) → Each (cond b es (e ∷ remove_entry test es))
      go true ih = all.1
      go false ih = (all.0, ih)

  pub each_found : (k : List ℕ) (v : V) (es : List (List ℕ × V)) → Each es → lookup (is_at (slice_cmp nat_cmp k)) es ≡ Some v → P (k, v)
  each_found k v [] all is = absurd (cc)
  each_found k v (e ∷ es) all is = go (slice_cmp nat_cmp k e.0) refl is (each_found k v es all.1)
    where
      go : (r : Ordering) → slice_cmp nat_cmp k e.0 ≡ r → cond (is_eq r) (Some e.1) (lookup (is_at (slice_cmp nat_cmp k)) es) ≡ Some v → (lookup (is_at (slice_cmp nat_cmp k)) es ≡ Some v → P (k, v)) → P (k, v)
      go Less at is ih = ih is
      go Equal at is ih = (
          let same : e.1 ≡ v = cc in
          subst (λ (j : List ℕ). P (j, v)) (sym (exact_bytes k e.0 at)) (subst (λ (w : V). P (e.0, w)) same all.0))
      go Greater at is ih = ih is

pub each_changed : {V : Type 0} (P Q : List ℕ × V → Type 0) → ((e : List ℕ × V) → P e → Q e) → (es : List (List ℕ × V)) → AllByRecursion P es → AllByRecursion Q es
each_changed P Q more [] all = tt
each_changed P Q more (e ∷ es) all = (more e all.0, each_changed P Q more es all.1)

-- A label that differs from the one at a place: the name there is another.
use Rattle.std.proofs.Common.{◌≡◌, ℕ, zero, suc, ◌+◌, ◌-◌, ◌<◌, ◌≤◌, List, [], ◌∷◌, length, get_or, refl, ap, sym, subst, ◌∙◌, arith, Bool, true, false}
use Rattle.std.specs.Prelude.{Option, Some, None, map, slice_get, slice_range}
use Rattle.std.specs.Option.{option_map_or}
use Rattle.std.specs.Char.{to_ascii_lowercase}
use Rattle.dns_names.specs.declared.name.Head.{Head}
use Rattle.dns_names.specs.declared.name.Head.TheVariants.{Root, Label, Pointer}
use Rattle.dns_names.specs.Name.{Labels, Found, Says, says_root, says_label, says_pointer, IsName, at_root, at_label, at_pointer, name_at, lowered, same_name}
use Rattle.dns_names.specs.NameHash.{same_lowered}
use Rattle.dns_names.proofs.NameLaws.{read_is_name}
use Rattle.dns_base.specs.Compression.{stands_at}

-- the label with which a name begins whose first octet is a label's length
head_count : (octets : List ℕ) (at n k : ℕ) → Says octets at (Label k) → slice_get octets at ≡ Some n → k ≡ n
head_count octets at n k (says_label m e some few fits) g = cc

not_root : {A : Type 0} → (octets : List ℕ) (at n : ℕ) → Says octets at Root → slice_get octets at ≡ Some n → 0 < n → A
not_root octets at n (says_root e) g some = let z : 0 ≡ n = cc in absurd (omega arith)

not_pointer : {A : Type 0} → (octets : List ℕ) (at n place : ℕ) → Says octets at (Pointer place) → slice_get octets at ≡ Some n → n < 64 → A
not_pointer octets at n place (says_pointer high low p e f is before) g few = let z : 192 + high ≡ n = cc in absurd (omega arith)

first_label : (octets : List ℕ) (at n : ℕ) (labels : Labels) (end pointers : ℕ) → IsName octets at labels end pointers → slice_get octets at ≡ Some n → 0 < n → n < 64
    → (others : Labels) × (labels ≡ slice_range octets (at + 1) (at + 1 + n) ∷ others)
first_label octets at n labels end pointers (at_root a s) g some few = not_root octets a n s g some
first_label octets at n labels end pointers (at_label a k ls e p s i) g some few =
    let is = head_count octets a n k s g in
    (ls, ap (λ k. slice_range octets (a + 1) (a + 1 + k) ∷ ls) is)
first_label octets at n labels end pointers (at_pointer a place ls e p s i) g some few = not_pointer octets a n place s g few

same_first : (label l : List ℕ) (rest others labels : Labels) → labels ≡ l ∷ others → same_name (label ∷ rest) labels ≡ true → map to_ascii_lowercase label ≡ map to_ascii_lowercase l
same_first label l rest others labels is e =
    let same : lowered (label ∷ rest) ≡ lowered (l ∷ others) = same_lowered (label ∷ rest) labels e ∙ ap lowered is in
    cc

pub other_label : (octets : List ℕ) (at n : ℕ) (label : List ℕ) (rest : Labels) → slice_get octets at ≡ Some n → 0 < n → n < 64
    → (map to_ascii_lowercase label ≡ map to_ascii_lowercase (slice_range octets (at + 1) (at + 1 + n)) → ⊥) → stands_at octets (label ∷ rest) at ≡ false
other_label octets at n label rest g some few differs = go (name_at octets at) refl
  where
    by_test : (b : Bool) (f : Found) → name_at octets at ≡ Some f → same_name (label ∷ rest) f.labels ≡ b → b ≡ false
    by_test false f e t = refl
    by_test true f e t =
        let first = first_label octets at n f.labels f.end f.pointers (read_is_name octets at f e).0 g some few in
        absurd (differs (same_first label (slice_range octets (at + 1) (at + 1 + n)) rest first.0 f.labels first.1 t))

    go : (o : Option Found) → name_at octets at ≡ o → option_map_or (λ (found : Found). same_name (label ∷ rest) found.labels) (name_at octets at) false ≡ false
    go None e = rw e refl
    go (Some f) e = rw e (by_test (same_name (label ∷ rest) f.labels) f e refl)

pub octet_there : (octets : List ℕ) (at n : ℕ) → at < length octets → n ≡ get_or octets at 0 → slice_get octets at ≡ Some n
octet_there [] at n h e = absurd (omega arith)
octet_there (x ∷ xs) zero n h e = ap Some (sym e)
octet_there (x ∷ xs) (suc at) n h e = octet_there xs at n (omega arith) e

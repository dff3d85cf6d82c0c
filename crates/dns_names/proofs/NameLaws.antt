-- The laws of names that callers need.
use Rattle.std.proofs.Common.{◌≡◌, ℕ, zero, suc, ◌+◌, ◌*◌, ◌-◌, ◌/◌, ◌%◌, ◌<◌, ◌≤◌, inl, inr, List, [], ◌∷◌, ◌++◌, length, drop, refl, ap, sym, subst, ◌∙◌, arith, Bool, true, false, length-append, append_assoc, append-nil}
use Rattle.std.specs.Prelude.{Option, Some, None, IsSome, option_map, nat_le, ◌&&◌, slice_range, slice_get}
use Rattle.std.specs.List.{AllByRecursion}
use Rattle.std.specs.Option.{option_map_or}
use Rattle.std.proofs.lemmas.Bool.{le-leb, leb-true}
use Rattle.std.proofs.lemmas.Option.{slice_get_within}
use Rattle.std.proofs.lemmas.List.{take-append-le, drop-append-le, length-drop, take_at, drop_at}
use Rattle.std.proofs.lemmas.List.Edits.{length-between}
use Rattle.dns_names.specs.declared.name.Head.{Head}
use Rattle.dns_names.specs.declared.name.Head.TheVariants.{Root, Label, Pointer}
use Rattle.dns_names.specs.Name.{Labels, Found, octet_count, head_end, Says, says_root, says_label, says_pointer, IsName, at_root, at_label, at_pointer, walk, in_limits, name_at, labels_at, IsLabel, IsLegal, spelling}
use Rattle.dns_names.proofs.Heads.{then_ok, none_some, chosen}
use Rattle.dns_names.proofs.Walks.{walk_is, is_walk}

-- more octets behind

pub slice_get_more : (octets more : List ℕ) (at n : ℕ) → slice_get octets at ≡ Some n → slice_get (octets ++ more) at ≡ Some n
slice_get_more [] more at n e = none_some e
slice_get_more (x ∷ xs) more zero n e = e
slice_get_more (x ∷ xs) more (suc at) n e = slice_get_more xs more at n e

pub slice_range_more : (octets more : List ℕ) (from to : ℕ) → to ≤ length octets → from ≤ to → slice_range (octets ++ more) from to ≡ slice_range octets from to
slice_range_more octets more from to h k =
    let begins : from ≤ length octets = omega arith in
    let ends : to - from ≤ length (drop from octets) = omega (arith, length-drop from octets) in
    rw (drop-append-le from octets more begins, take-append-le (to - from) (drop from octets) more ends) refl

pub says_more : (octets more : List ℕ) (at : ℕ) (h : Head) → Says octets at h → Says (octets ++ more) at h
says_more octets more at h (says_root e) = says_root (slice_get_more octets more at 0 e)
says_more octets more at h (says_label n e some few fits) =
    says_label n (slice_get_more octets more at n e) some few (omega (arith, length-append octets more))
says_more octets more at h (says_pointer high low place e f is before) =
    says_pointer high low place (slice_get_more octets more at (192 + high) e) (slice_get_more octets more (at + 1) low f) is before

label_says_fits : (octets : List ℕ) (at n : ℕ) → Says octets at (Label n) → (0 < n) × (n < 64) × (at + 1 + n ≤ length octets)
label_says_fits octets at n (says_label k e some few fits) = (some, few, fits)

-- A name stays, whatever octets follow.
pub name_more : (octets more : List ℕ) (at : ℕ) (labels : Labels) (end pointers : ℕ) → IsName octets at labels end pointers → IsName (octets ++ more) at labels end pointers
name_more octets more at labels end pointers (at_root a s) = at_root a (says_more octets more a Root s)
name_more octets more at labels end pointers (at_label a n ls e p s i) =
    let fits = label_says_fits octets a n s in
    let same : slice_range (octets ++ more) (a + 1) (a + 1 + n) ≡ slice_range octets (a + 1) (a + 1 + n) =
    slice_range_more octets more (a + 1) (a + 1 + n) fits.2 (omega arith) in
    let P : List ℕ → Type 0 = λ l. IsName (octets ++ more) a (l ∷ ls) e p in
    subst P same (at_label a n ls e p (says_more octets more a (Label n) s) (name_more octets more (a + 1 + n) ls e p i))
name_more octets more at labels end pointers (at_pointer a place ls e p s i) =
    at_pointer a place ls e p (says_more octets more a (Pointer place) s) (name_more octets more place ls e p i)

-- What is read has labels of 1 to 63 octets.
pub name_labels : (octets : List ℕ) (at : ℕ) (labels : Labels) (end pointers : ℕ) → IsName octets at labels end pointers → AllByRecursion IsLabel labels
name_labels octets at labels end pointers (at_root a s) = tt
name_labels octets at labels end pointers (at_label a n ls e p s i) =
    let fits = label_says_fits octets a n s in
    let long : length (slice_range octets (a + 1) (a + 1 + n)) ≡ n = omega (arith, length-between octets (a + 1) (a + 1 + n) fits.2) in
    ((omega arith, omega arith), name_labels octets (a + 1 + n) ls e p i)
name_labels octets at labels end pointers (at_pointer a place ls e p s i) = name_labels octets place ls e p i

-- Where a name ends.
says_within : (octets : List ℕ) (at : ℕ) (h : Head) → Says octets at h → head_end at h ≤ length octets
says_within octets at h (says_root e) = omega (arith, slice_get_within octets at 0 e)
says_within octets at h (says_label n e some few fits) = fits
says_within octets at h (says_pointer high low place e f is before) = omega (arith, slice_get_within octets (at + 1) low f)

pub name_within : (octets : List ℕ) (at : ℕ) (labels : Labels) (end pointers : ℕ) → IsName octets at labels end pointers → (at < end) × (end ≤ length octets)
name_within octets at labels end pointers (at_root a s) = (omega arith, says_within octets a Root s)
name_within octets at labels end pointers (at_label a n ls e p s i) = let rest = name_within octets (a + 1 + n) ls e p i in (omega arith, rest.1)
name_within octets at labels end pointers (at_pointer a place ls e p s i) = (omega arith, says_within octets a (Pointer place) s)

-- at most 127 labels
pub few_labels : (labels : Labels) → AllByRecursion IsLabel labels → 2 * length labels < octet_count labels
few_labels [] h = omega arith
few_labels (l ∷ ls) h = let rest = few_labels ls h.1 in let some = h.0.0 in omega arith

-- The function and the relation say the same.
pub read_is_name : (octets : List ℕ) (at : ℕ) (f : Found) → name_at octets at ≡ Some f
    → IsName octets at f.labels f.end f.pointers × (f.pointers ≤ 255) × (octet_count f.labels ≤ 255)
unfolding name_at
read_is_name octets at f e =
    let walked = then_ok (walk 383 octets at) in_limits f e in
    limited walked.0 (walk_is 383 octets at walked.0 walked.1) walked.2
  where
    both : (a b : Bool) → (a && b) ≡ true → (a ≡ true) × (b ≡ true)
    both true true e = (refl, refl)
    both true false e = absurd cc
    both false b e = absurd cc

    limited : (g : Found) → IsName octets at g.labels g.end g.pointers → in_limits g ≡ Some f → IsName octets at f.labels f.end f.pointers × (f.pointers ≤ 255) × (octet_count f.labels ≤ 255)
    limited g i e =
        elim (chosen (nat_le g.pointers 255 && nat_le (octet_count g.labels) 255) (Some g) None (Some f) e) [
          | inl p ↦
              let found = p.1 in
              let is : g ≡ f = cc in
              let tests = both _ _ p.0 in
              let P : Found → Type 0 = λ x. IsName octets at x.labels x.end x.pointers × (x.pointers ≤ 255) × (octet_count x.labels ≤ 255) in
              subst P is (i, leb-true _ _ tests.0, leb-true _ _ tests.1)
          | inr p ↦ none_some p.1
        ]

pub name_is_read : (octets : List ℕ) (at : ℕ) (labels : Labels) (end pointers : ℕ) → IsName octets at labels end pointers → pointers ≤ 255 → octet_count labels ≤ 255
    → name_at octets at ≡ Some (record { labels = labels; end = end; pointers = pointers })
unfolding name_at
name_is_read octets at labels end pointers i few short =
    let count = few_labels labels (name_labels octets at labels end pointers i) in
    rw (is_walk 383 octets at labels end pointers i (omega arith), le-leb pointers 255 few, le-leb (octet_count labels) 255 short) refl

-- what is read stays read, whatever octets follow
pub read_more : (octets more : List ℕ) (at : ℕ) (f : Found) → name_at octets at ≡ Some f → name_at (octets ++ more) at ≡ Some f
read_more octets more at f e =
    let i = read_is_name octets at f e in
    name_is_read (octets ++ more) at f.labels f.end f.pointers (name_more octets more at f.labels f.end f.pointers i.0) i.1 i.2

-- what is read is legal
pub read_legal : (octets : List ℕ) (at : ℕ) (f : Found) → name_at octets at ≡ Some f → IsLegal f.labels
read_legal octets at f e = let i = read_is_name octets at f e in (name_labels octets at f.labels f.end f.pointers i.0, i.2)

pub read_within : (octets : List ℕ) (at : ℕ) (f : Found) → name_at octets at ≡ Some f → (at < f.end) × (f.end ≤ length octets)
read_within octets at f e = let i = read_is_name octets at f e in name_within octets at f.labels f.end f.pointers i.0

-- the labels of a name that is read are legal
pub labels_legal : (octets : List ℕ) (at : ℕ) → IsSome (name_at octets at) → IsLegal (labels_at octets at)
labels_legal octets at some = go (name_at octets at) refl some
  where
    go : (o : Option Found) → name_at octets at ≡ o → IsSome (name_at octets at) → IsLegal (option_map_or (λ f. f.labels) (name_at octets at) [])
    go None n h = let h' = rw n at h in absurd cc
    go (Some f) n h = rw n (read_legal octets at f n)

-- for a clause on where a name ends
pub end_within : (octets : List ℕ) (at end : ℕ) → Some end ≡ option_map (λ f. f.end) (name_at octets at) → end ≤ length octets
end_within octets at end e = go (name_at octets at) refl e
  where
    go : (o : Option Found) → name_at octets at ≡ o → Some end ≡ option_map (λ f. f.end) o → end ≤ length octets
    go None n s = none_some (sym s)
    go (Some f) n s = let within = read_within octets at f n in let same : end ≡ f.end = cc in omega arith

-- a name as it is spelled

pub spelled_length : (labels : Labels) → length (spelling labels) ≡ octet_count labels
spelled_length [] = refl
spelled_length (l ∷ ls) = omega (arith, length-append l (spelling ls), spelled_length ls)

here : (front back : List ℕ) (x n : ℕ) → length front ≡ n → slice_get (front ++ (x ∷ back)) n ≡ Some x
here [] back x n e = rw (← e) refl
here (y ∷ front) back x n e = rw (← e) (here front back x (length front) refl)

pub part : (front l back : List ℕ) (from to : ℕ) → length front ≡ from → from + length l ≡ to → slice_range (front ++ (l ++ back)) from to ≡ l
part front l back from to e f =
    let n : length l ≡ to - from = omega arith in
    rw (drop_at front (l ++ back) from e, take_at l back (to - from) n) refl

-- A spelled name is read, wherever it stands and whatever follows.
pub spelled_is : (labels : Labels) (front back : List ℕ) (at : ℕ) → length front ≡ at → AllByRecursion IsLabel labels
    → IsName (front ++ (spelling labels ++ back)) at labels (at + octet_count labels) 0
spelled_is [] front back at e h = at_root at (says_root (here front back 0 at e))
spelled_is (l ∷ ls) front back at e h =
    let octets : List ℕ = front ++ (spelling (l ∷ ls) ++ back) in
    let apart : octets ≡ (front ++ (length l ∷ l)) ++ (spelling ls ++ back) = simp append_assoc in
    let inner : octets ≡ (front ++ (length l ∷ [])) ++ (l ++ (spelling ls ++ back)) = simp append_assoc in
    let long : length (front ++ (length l ∷ l)) ≡ at + 1 + length l = omega (arith, length-append front (length l ∷ l)) in
    let short : length (front ++ (length l ∷ [])) ≡ at + 1 = omega (arith, length-append front (length l ∷ [])) in
    let fits : at + 1 + length l ≤ length octets = omega (arith, ap length apart, length-append (front ++ (length l ∷ l)) (spelling ls ++ back)) in
    let says : Says octets at (Label (length l)) = says_label (length l) (here front (l ++ spelling ls ++ back) (length l) at e) h.0.0 h.0.1 fits in
    let P : List ℕ → Type 0 = λ o. IsName o (at + 1 + length l) ls (at + 1 + length l + octet_count ls) 0 in
    let rest : IsName octets (at + 1 + length l) ls (at + 1 + length l + octet_count ls) 0 =
    subst P (sym apart) (spelled_is ls (front ++ (length l ∷ l)) back (at + 1 + length l) long h.1) in
    let its : slice_range octets (at + 1) (at + 1 + length l) ≡ l =
    ap (λ o. slice_range o (at + 1) (at + 1 + length l)) inner
    ∙ part (front ++ (length l ∷ [])) l (spelling ls ++ back) (at + 1) (at + 1 + length l) short refl in
    let there : at + 1 + length l + octet_count ls ≡ at + (1 + length l + octet_count ls) = omega arith in
    let Q : List ℕ → ℕ → Type 0 = λ label end. IsName octets at (label ∷ ls) end 0 in
    rw (← there) (subst (λ label. Q label (at + 1 + length l + octet_count ls)) its (at_label at (length l) ls (at + 1 + length l + octet_count ls) 0 says rest))

-- What is legal and spelled is read.
pub spelled_read : (labels : Labels) (front back : List ℕ) (at : ℕ) → length front ≡ at → IsLegal labels
    → name_at (front ++ (spelling labels ++ back)) at ≡ Some (record { labels = labels; end = at + octet_count labels; pointers = 0 })
spelled_read labels front back at e h =
    name_is_read (front ++ (spelling labels ++ back)) at labels (at + octet_count labels) 0 (spelled_is labels front back at e h.0) (omega arith) h.1

-- The spelling of a legal name, alone.
pub spelled_alone : (labels : Labels) (octets : List ℕ) → octets ≡ spelling labels → IsLegal labels → (IsSome (name_at octets 0)) × (labels_at octets 0 ≡ labels)
spelled_alone labels octets e h =
    let alone : octets ≡ spelling labels ++ [] = e ∙ sym (append-nil (spelling labels)) in
    let read = spelled_read labels [] [] 0 refl h in
    let P : List ℕ → Type 0 = λ o. IsSome (name_at o 0) × (labels_at o 0 ≡ labels) in
    subst P (sym alone) (rw read refl, rw read refl)

-- A compressed name: some labels, and then a pointer to a name that stands before.

pub lead : Labels → List ℕ
lead [] = []
lead (l ∷ ls) = length l ∷ l ++ lead ls

pub lead_length : (labels : Labels) → length (lead labels) + 1 ≡ octet_count labels
unfolding lead
lead_length [] = refl
lead_length (l ∷ ls) = omega (arith, length-append l (lead ls), lead_length ls)

second_here : (front back : List ℕ) (x y n : ℕ) → length front ≡ n → slice_get (front ++ (x ∷ y ∷ back)) (n + 1) ≡ Some y
second_here front back x y n e =
    let apart : front ++ (x ∷ y ∷ back) ≡ (front ++ (x ∷ [])) ++ (y ∷ back) = simp append_assoc in
    let long : length (front ++ (x ∷ [])) ≡ n + 1 = omega (arith, length-append front (x ∷ [])) in
    rw apart (here (front ++ (x ∷ [])) back y (n + 1) long)

pub compressed_is : (prefix suffix : Labels) (octets front back : List ℕ) (at target end pointers : ℕ)
    → octets ≡ front ++ (lead prefix ++ ((192 + target / 256) ∷ (target % 256) ∷ back)) → length front ≡ at → AllByRecursion IsLabel prefix
    → target < at → IsName octets target suffix end pointers
    → IsName octets at (prefix ++ suffix) (at + length (lead prefix) + 2) (pointers + 1)
unfolding lead
compressed_is [] suffix octets front back at target end pointers e f h t i =
    let high : slice_get octets at ≡ Some (192 + target / 256) = rw e (here front ((target % 256) ∷ back) (192 + target / 256) at f) in
    let low : slice_get octets (at + 1) ≡ Some (target % 256) = rw e (second_here front back (192 + target / 256) (target % 256) at f) in
    let sum : target ≡ target / 256 * 256 + target % 256 = omega arith in
    let there : at + 2 ≡ at + 0 + 2 = omega arith in
    let P : ℕ → Type 0 = λ e. IsName octets at suffix e (pointers + 1) in
    subst P there (at_pointer at target suffix end pointers (says_pointer (target / 256) (target % 256) target high low sum t) i)
compressed_is (l ∷ ls) suffix octets front back at target end pointers e f h t i =
    let rest : List ℕ = lead ls ++ ((192 + target / 256) ∷ (target % 256) ∷ back) in
    let apart : octets ≡ (front ++ (length l ∷ l)) ++ rest = e ∙ simp append_assoc in
    let inner : octets ≡ (front ++ (length l ∷ [])) ++ (l ++ rest) = e ∙ simp append_assoc in
    let outer : octets ≡ front ++ (length l ∷ (l ++ rest)) = e ∙ simp append_assoc in
    let long : length (front ++ (length l ∷ l)) ≡ at + 1 + length l = omega (arith, length-append front (length l ∷ l)) in
    let short : length (front ++ (length l ∷ [])) ≡ at + 1 = omega (arith, length-append front (length l ∷ [])) in
    let fits : at + 1 + length l ≤ length octets = omega (arith, ap length apart, length-append (front ++ (length l ∷ l)) rest) in
    let head : slice_get octets at ≡ Some (length l) = rw outer (here front (l ++ rest) (length l) at f) in
    let says : Says octets at (Label (length l)) = says_label (length l) head h.0.0 h.0.1 fits in
    let below : target < at + 1 + length l = omega arith in
    let others = compressed_is ls suffix octets (front ++ (length l ∷ l)) back (at + 1 + length l) target end pointers apart long h.1 below i in
    let its : slice_range octets (at + 1) (at + 1 + length l) ≡ l =
    ap (λ o. slice_range o (at + 1) (at + 1 + length l)) inner ∙ part (front ++ (length l ∷ [])) l rest (at + 1) (at + 1 + length l) short refl in
    let there : at + 1 + length l + length (lead ls) + 2 ≡ at + length (length l ∷ l ++ lead ls) + 2 = omega (arith, length-append l (lead ls)) in
    let Q : List ℕ → ℕ → Type 0 = λ label e. IsName octets at (label ∷ (ls ++ suffix)) e (pointers + 1) in
    subst (λ e. Q l e) there (subst (λ label. Q label (at + 1 + length l + length (lead ls) + 2)) its (at_label at (length l) (ls ++ suffix) _ (pointers + 1) says others))

-- Names that were compressed are read back, and so is each place that is remembered.
use Rattle.std.proofs.Common.{◌≡◌, ℕ, zero, suc, ◌+◌, ◌*◌, ◌/◌, ◌%◌, ◌<◌, ◌≤◌, inl, inr, List, [], ◌∷◌, ◌++◌, length, refl, ap, sym, subst, ◌∙◌, arith, Bool, true, false, length-append, append_assoc, append-nil}
use Rattle.std.specs.Prelude.{Option, Some, None, map, nat_lt, slice_get, slice_range, if◌then◌else◌}
use Rattle.std.specs.List.{AllByRecursion}
use Rattle.std.specs.Char.{to_ascii_lowercase}
use Rattle.std.proofs.lemmas.Bool.{ltb-true}
use Rattle.dns_names.specs.declared.name.Head.TheVariants.{Root, Label, Pointer}
use Rattle.dns_names.specs.Name.{Labels, Found, Says, says_root, says_label, says_pointer, IsName, at_root, at_label, at_pointer, IsLabel, IsLegal, name_at, octet_count, lowered, same_name}
use Rattle.dns_names.specs.NameHash.{same_lowered}
use Rattle.dns_names.proofs.Heads.{chosen, none_some}
use Rattle.dns_names.proofs.NameLaws.{read_is_name, name_is_read, name_labels, few_labels, read_more, read_within}
use Rattle.dns_base.specs.Compression.{Compressed, stands_at, found_at, pointer_to, pointer_or, name_octets, name_places, none_if_found, remembered, with_name, with_octets}
use Rattle.dns_base.specs.Holding.{IsPlace, ArePlaces}
use Rattle.dns_base.proofs.Stands.{Stands, first_stands, second_stands, range_stands, stands_within, Shows, shows_added, shows_itself}

-- what holds of each holds of what was found among them
stands_found : (octets : List ℕ) (labels : Labels) (place : ℕ) → stands_at octets labels place ≡ true → (f : Found) × (name_at octets place ≡ Some f) × (lowered f.labels ≡ lowered labels)
stands_found octets labels place e = go (name_at octets place) refl
  where
    go : (o : Option Found) → name_at octets place ≡ o → (f : Found) × (name_at octets place ≡ Some f) × (lowered f.labels ≡ lowered labels)
    go None n = let e' = rw n at e in absurd cc
    go (Some f) n = let e' : same_name labels f.labels ≡ true = rw n at e in (f, n, sym (same_lowered labels f.labels e'))

pub found_means : (P : ℕ → Type 0) (octets places : List ℕ) (labels : Labels) (place : ℕ) → AllByRecursion P places → found_at octets places labels ≡ Some place → P place × (stands_at octets labels place ≡ true)
found_means P octets [] labels place all e = none_some e
found_means P octets (p ∷ places) labels place all e =
    elim (chosen (stands_at octets labels p) (Some p) (found_at octets places labels) (Some place) e) [
      | inl c ↦
          let is = c.1 in
          let same : p ≡ place = cc in
          subst (λ p. P p × (stands_at octets labels p ≡ true)) same (all.0, c.0)
      | inr c ↦ found_means P octets places labels place all.1 c.1
    ]

-- octets that say a label, or a pointer
octet_here : (front back : List ℕ) (x at : ℕ) → length front ≡ at → slice_get (front ++ (x ∷ back)) at ≡ Some x
octet_here [] back x at e = rw (← e) refl
octet_here (y ∷ front) back x at e = rw (← e) (octet_here front back x (length front) refl)

octet_stands : (o : List ℕ) (x at : ℕ) (xs : List ℕ) → Stands o at (x ∷ xs) → slice_get o at ≡ Some x
octet_stands o x at xs s = rw s.is (octet_here s.front (xs ++ s.back) x at s.long)

label_says : (o label xs : List ℕ) (at : ℕ) → IsLabel label → Stands o at (length label ∷ label ++ xs) → Says o at (Label (length label))
label_says o label xs at h s =
    says_label (length label) (octet_stands o (length label) at (label ++ xs) s) h.0 h.1 (omega (arith, stands_within o (length label ∷ label ++ xs) at s, length-append label xs))

label_is : (o label xs : List ℕ) (at : ℕ) → Stands o at (length label ∷ label ++ xs) → slice_range o (at + 1) (at + 1 + length label) ≡ label
label_is o label xs at s =
    let behind = second_stands o (length label ∷ []) (label ++ xs) at (at + 1) s refl in
    range_stands o label (at + 1) (at + 1 + length label) (first_stands o label xs (at + 1) behind) refl

rest_stands : (o label xs : List ℕ) (at : ℕ) → Stands o at (length label ∷ label ++ xs) → Stands o (at + 1 + length label) xs
rest_stands o label xs at s = second_stands o (length label ∷ label) xs at (at + 1 + length label) s (omega arith)

pointer_says : (o : List ℕ) (place at : ℕ) → place < at → Stands o at (pointer_to place) → Says o at (Pointer place)
pointer_says o place at before s =
    let low = second_stands o ((192 + place / 256) ∷ []) ((place % 256) ∷ []) at (at + 1) s refl in
    says_pointer (place / 256) (place % 256) place (octet_stands o (192 + place / 256) at ((place % 256) ∷ []) s) (octet_stands o (place % 256) (at + 1) [] low) (omega arith) before

-- A name as it is read back from octets here and there.
pub record NameBack (here there : List ℕ) (at end : ℕ) (labels : Labels) : Type 0 where
  pub back : Labels
  pub pointers : ℕ
  pub is_here : IsName here at back end pointers
  pub is_there : IsName there at back end pointers
  pub same : lowered back ≡ lowered labels
  pub few : pointers ≤ length back

-- so are the names at places in octets and in longer ones
place_more : (octets more o : List ℕ) (place : ℕ) → IsPlace octets o place → IsPlace (octets ++ more) o place
place_more octets more o place h = record { found = h.found; read_here = read_more octets more place h.found h.read_here; read_there = h.read_there; few = h.few }

pub places_more : (octets more o places : List ℕ) → ArePlaces octets o places → ArePlaces (octets ++ more) o places
places_more octets more o [] h = tt
places_more octets more o (p ∷ places) h = (place_more octets more o p h.0, places_more octets more o places h.1)

back_by_pointer : (octets more o : List ℕ) (at place : ℕ) (labels : Labels) → IsPlace octets o place → stands_at octets labels place ≡ true → length octets ≤ at
    → Stands (octets ++ more) at (pointer_to place) → Stands o at (pointer_to place) → NameBack (octets ++ more) o at (at + 2) labels
unfolding place_more
back_by_pointer octets more o at place labels h stands behind s t =
    let f : Found = h.found in
    let long = place_more octets more o place h in
    let within = read_within octets place f h.read_here in
    let mine = stands_found octets labels place stands in
    let a = mine.1 in
    let b = h.read_here in
    let is : mine.0 ≡ f = cc in
    let before : place < at = omega arith in
    record {
      back = f.labels;
      pointers = f.pointers + 1;
      is_here = at_pointer at place f.labels f.end f.pointers (pointer_says (octets ++ more) place at before s) (read_is_name (octets ++ more) place f long.read_here).0;
      is_there = at_pointer at place f.labels f.end f.pointers (pointer_says o place at before t) (read_is_name o place f h.read_there).0;
      same = ap (λ (g : Found). lowered g.labels) (sym is) ∙ mine.2;
      few = omega (arith, h.few);
    }

name_label : (o label : List ℕ) (rest xs : List ℕ) (at end pointers : ℕ) (labels : Labels) → IsLabel label → Stands o at (length label ∷ label ++ xs) → IsName o (at + 1 + length label) labels end pointers
    → IsName o at (label ∷ labels) end pointers
name_label o label rest xs at end pointers labels h s i =
    subst (λ l. IsName o at (l ∷ labels) end pointers) (label_is o label xs at s) (at_label at (length label) labels end pointers (label_says o label xs at h s) i)

back_by_label : (here there label xs : List ℕ) (at : ℕ) (labels : Labels) → IsLabel label → Stands here at (length label ∷ label ++ xs) → Stands there at (length label ∷ label ++ xs)
    → NameBack here there (at + 1 + length label) (at + 1 + length label + length xs) labels → NameBack here there at (at + length (length label ∷ label ++ xs)) (label ∷ labels)
back_by_label here there label xs at labels h s t rest =
    let end : at + 1 + length label + length xs ≡ at + length (length label ∷ label ++ xs) = omega (arith, length-append label xs) in
    subst (λ e. NameBack here there at e (label ∷ labels)) end (record {
      back = label ∷ rest.back;
      pointers = rest.pointers;
      is_here = name_label here label xs xs at _ rest.pointers rest.back h s rest.is_here;
      is_there = name_label there label xs xs at _ rest.pointers rest.back h t rest.is_there;
      same = ap (λ (ls : Labels). map to_ascii_lowercase label ∷ ls) rest.same;
      few = omega (arith, rest.few);
    })

pub name_back : (before : Compressed) (more o : List ℕ) (at : ℕ) (labels : Labels) → ArePlaces before.octets o before.places → length before.octets ≤ at → AllByRecursion IsLabel labels
    → Stands (before.octets ++ more) at (name_octets before labels) → Stands o at (name_octets before labels)
    → NameBack (before.octets ++ more) o at (at + length (name_octets before labels)) labels
name_back before more o at [] places behind legal s t = record {
  back = [];
  pointers = 0;
  is_here = at_root at (says_root (octet_stands (before.octets ++ more) 0 at [] s));
  is_there = at_root at (says_root (octet_stands o 0 at [] t));
  same = refl;
  few = omega arith;
}
name_back before more o at (label ∷ labels) places behind legal s t =
    by_place (λ s t. name_back before more o (at + 1 + length label) labels places (omega arith) legal.1 s t) (found_at before.octets before.places (label ∷ labels)) refl s t
  where
    rest : List ℕ
    rest = name_octets before labels

    by_place : (Stands (before.octets ++ more) (at + 1 + length label) rest → Stands o (at + 1 + length label) rest
        → NameBack (before.octets ++ more) o (at + 1 + length label) (at + 1 + length label + length rest) labels)
        → (f : Option ℕ) → found_at before.octets before.places (label ∷ labels) ≡ f → Stands (before.octets ++ more) at (pointer_or f (length label ∷ label ++ rest))
        → Stands o at (pointer_or f (length label ∷ label ++ rest)) → NameBack (before.octets ++ more) o at (at + length (pointer_or f (length label ∷ label ++ rest))) (label ∷ labels)
    by_place others (Some place) e s t =
        let means = found_means (IsPlace before.octets o) before.octets before.places (label ∷ labels) place places e in
        back_by_pointer before.octets more o at place (label ∷ labels) means.0 means.1 behind s t
    by_place others None e s t =
        back_by_label (before.octets ++ more) o label rest at labels legal.0 s t
        (others (rest_stands (before.octets ++ more) label rest at s) (rest_stands o label rest at t))

-- in lower case a name has as many octets
lowered_label : (label : List ℕ) → length (map to_ascii_lowercase label) ≡ length label
lowered_label [] = refl
lowered_label (x ∷ xs) = ap suc (lowered_label xs)

lowered_count : (labels : Labels) → octet_count (lowered labels) ≡ octet_count labels
lowered_count [] = refl
lowered_count (label ∷ labels) = omega (arith, lowered_label label, lowered_count labels)

pub back_count : (a b : Labels) → lowered a ≡ lowered b → octet_count a ≡ octet_count b
back_count a b e = sym (lowered_count a) ∙ ap octet_count e ∙ lowered_count b

-- what is a name is read, within its limits
back_read : (o : List ℕ) (at end pointers : ℕ) (back : Labels) → IsName o at back end pointers → pointers ≤ length back → octet_count back ≤ 255
    → name_at o at ≡ Some (record { labels = back; end = end; pointers = pointers })
back_read o at end pointers back i few short =
    let count = few_labels back (name_labels o at back end pointers i) in
    name_is_read o at back end pointers i (omega arith) short

-- A name that is read from octets, the same but for case.
pub record NameRead (o : List ℕ) (at end : ℕ) (labels : Labels) : Type 0 where
  pub back : Labels
  pub pointers : ℕ
  pub read : name_at o at ≡ Some (record { labels = back; end = end; pointers = pointers })
  pub same : lowered back ≡ lowered labels

place_there : (before : Compressed) (more o label : List ℕ) (at : ℕ) (labels : Labels) → ArePlaces before.octets o before.places → length before.octets ≤ at → IsLegal (label ∷ labels)
    → Stands (before.octets ++ more) at (length label ∷ label ++ name_octets before labels) → Stands o at (length label ∷ label ++ name_octets before labels)
    → IsPlace (before.octets ++ more) o at
place_there before more o label at labels places behind legal s t =
    let here : List ℕ = before.octets ++ more in
    let next : ℕ = at + 1 + length label in
    let xs : List ℕ = name_octets before labels in
    let rest = name_back before more o next labels places (omega arith) legal.0.1 (rest_stands here label xs at s) (rest_stands o label xs at t) in
    let end : ℕ = next + length xs in
    let back : Labels = label ∷ rest.back in
    let short : octet_count back ≤ 255 = omega (arith, back_count rest.back labels rest.same, legal.1) in
    let a = name_label here label xs xs at end rest.pointers rest.back legal.0.0 s rest.is_here in
    let b = name_label o label xs xs at end rest.pointers rest.back legal.0.0 t rest.is_there in
    record {
      found = record { labels = back; end = end; pointers = rest.pointers };
      read_here = back_read here at end rest.pointers back a (omega (arith, rest.few)) short;
      read_there = back_read o at end rest.pointers back b (omega (arith, rest.few)) short;
      few = omega (arith, rest.few);
    }

remembered_are : (P : ℕ → Type 0) (at : ℕ) (places : List ℕ) → P at → AllByRecursion P places → AllByRecursion P (remembered at places)
remembered_are P at places h rest = go (nat_lt at 16384) refl
  where
    go : (b : Bool) → nat_lt at 16384 ≡ b → AllByRecursion P (remembered at places)
    go true e = rw e (h, rest)
    go false e = rw e rest

shorter : (label : List ℕ) (labels : Labels) → IsLegal (label ∷ labels) → IsLegal labels
shorter label labels h = (h.0.1, omega (arith, h.1))

pub places_new : (before : Compressed) (more o : List ℕ) (at : ℕ) (labels : Labels) → ArePlaces before.octets o before.places → length before.octets ≤ at → IsLegal labels
    → Stands (before.octets ++ more) at (name_octets before labels) → Stands o at (name_octets before labels) → ArePlaces (before.octets ++ more) o (name_places before at labels)
places_new before more o at [] places behind legal s t = tt
places_new before more o at (label ∷ labels) places behind legal s t =
    by_place (λ s t. places_new before more o (at + 1 + length label) labels places (omega arith) (shorter label labels legal) s t) (found_at before.octets before.places (label ∷ labels)) refl s t
  where
    here : List ℕ
    here = before.octets ++ more

    rest : List ℕ
    rest = name_octets before labels

    by_place : (Stands (before.octets ++ more) (at + 1 + length label) rest → Stands o (at + 1 + length label) rest
        → ArePlaces (before.octets ++ more) o (name_places before (at + 1 + length label) labels))
        → (f : Option ℕ) → found_at before.octets before.places (label ∷ labels) ≡ f → Stands (before.octets ++ more) at (pointer_or f (length label ∷ label ++ rest))
        → Stands o at (pointer_or f (length label ∷ label ++ rest))
        → ArePlaces (before.octets ++ more) o (none_if_found f (remembered at (name_places before (at + 1 + length label) labels)))
    by_place others (Some place) e s t = tt
    by_place others None e s t =
        remembered_are (IsPlace (before.octets ++ more) o) at (name_places before (at + 1 + length label) labels) (place_there before more o label at labels places behind legal s t)
        (others (rest_stands (before.octets ++ more) label rest at s) (rest_stands o label rest at t))

both_places : (here there xs ys : List ℕ) → ArePlaces here there xs → ArePlaces here there ys → ArePlaces here there (xs ++ ys)
both_places here there [] ys h g = g
both_places here there (x ∷ xs) ys h g = (h.0, both_places here there xs ys h.1 g)

-- A name behind the others: it is read, and so is each place that is remembered then.
pub name_read : (labels : Labels) (n : ℕ) (c : Compressed) (o : List ℕ) → n ≤ length c.octets → IsLegal labels → ArePlaces c.octets o c.places → Shows n (with_name labels c).octets o
    → NameRead o (length c.octets) (length (with_name labels c).octets) labels
unfolding with_name
name_read labels n c o long legal places s =
    let more : List ℕ = name_octets c labels in
    let at : ℕ = length c.octets in
    let here = shows_added at c.octets more (c.octets ++ more) (omega arith) (shows_itself at (c.octets ++ more) (omega (arith, length-append c.octets more))) in
    let there = shows_added n c.octets more o long s in
    let back = name_back c more o at labels places (omega arith) legal.0 here there in
    let end : at + length more ≡ length (c.octets ++ more) = sym (length-append c.octets more) in
    let short : octet_count back.back ≤ 255 = omega (arith, back_count back.back labels back.same, legal.1) in
    record {
      back = back.back;
      pointers = back.pointers;
      read = back_read o at (length (c.octets ++ more)) back.pointers back.back (subst (λ e. IsName o at back.back e back.pointers) end back.is_there) back.few short;
      same = back.same;
    }

pub name_remembered : (labels : Labels) (n : ℕ) (c : Compressed) (o : List ℕ) → n ≤ length c.octets → IsLegal labels → ArePlaces c.octets o c.places → Shows n (with_name labels c).octets o
    → ArePlaces (with_name labels c).octets o (with_name labels c).places
unfolding with_name
name_remembered labels n c o long legal places s =
    let more : List ℕ = name_octets c labels in
    let at : ℕ = length c.octets in
    let here = shows_added at c.octets more (c.octets ++ more) (omega arith) (shows_itself at (c.octets ++ more) (omega (arith, length-append c.octets more))) in
    let there = shows_added n c.octets more o long s in
    both_places (c.octets ++ more) o c.places (name_places c at labels) (places_more c.octets more o c.places places) (places_new c more o at labels places (omega arith) legal here there)

pub octets_remembered : (octets : List ℕ) (c : Compressed) (o : List ℕ) → ArePlaces c.octets o c.places → ArePlaces (with_octets octets c).octets o (with_octets octets c).places
unfolding with_octets
octets_remembered octets c o places = places_more c.octets octets o c.places places

pub octets_shown : (octets : List ℕ) (n : ℕ) (c : Compressed) (o : List ℕ) → n ≤ length c.octets → Shows n (with_octets octets c).octets o → Stands o (length c.octets) octets
unfolding with_octets
octets_shown octets n c o long s = shows_added n c.octets octets o long s

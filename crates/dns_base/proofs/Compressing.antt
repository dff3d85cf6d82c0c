-- Names, compressed label by label.
use Rattle.std.proofs.Common.{◌≡◌, ℕ, ◌+◌, ◌<◌, ◌≤◌, List, [], ◌∷◌, ◌++◌, length, take, drop, get_or, refl, ap, sym, subst, ◌∙◌, arith, Bool, true, false, length-append, append_assoc, append-nil, drop-cons, add-one}
use Rattle.std.proofs.lemmas.List.{take-append-le, take_at, length-take, take-take}
use Rattle.std.specs.Prelude.{Option, Some, None, Result, Ok, Err, OnOk, nat_lt, if◌then◌else◌}
use Rattle.dns_names.specs.Name.{Labels}
use Rattle.dns_base.specs.Compression.{Compressed, stands_at, found_at, pointer_to, name_octets, name_places, remembered, with_label, with_octets, with_name, Begins, Continues}
use Rattle.dns_base.specs.Suffixes.{first_of, count_before, lead_count, lead_place}

-- one place after the other

pub found_here : (octets places : List ℕ) (labels : Labels) (i place : ℕ) → i < length places → place ≡ get_or places i 0 → stands_at octets labels place ≡ true
    → found_at octets (drop i places) labels ≡ Some place
found_here octets places labels i place h is stands =
    let s : stands_at octets labels (get_or places i 0) ≡ true = rw (← is) stands in
    rw (drop-cons places i 0 h, s, is) refl

pub found_further : (octets places : List ℕ) (labels : Labels) (i place : ℕ) → i < length places → place ≡ get_or places i 0 → stands_at octets labels place ≡ false
    → found_at octets (drop i places) labels ≡ found_at octets (drop (i + 1) places) labels
found_further octets places labels i place h is stands =
    let s : stands_at octets labels (get_or places i 0) ≡ false = rw (← is) stands in
    rw (drop-cons places i 0 h, s, add-one i) refl

-- what is written so far, and the labels that are left
unfoldable pub with_rest : Compressed → Compressed → Labels → Compressed
with_rest before now labels = record { octets = now.octets ++ name_octets before labels; places = now.places ++ name_places before (length now.octets) labels }

pub rest_is_name : (before : Compressed) (labels : Labels) → with_rest before before labels ≡ with_name labels before
unfolding with_rest with_name
rest_is_name before labels = refl

pub root_last : (before now : Compressed) → with_octets (0 ∷ []) now ≡ with_rest before now []
unfolding with_rest with_octets
root_last before now = rw (append-nil now.places) refl

pub pointer_last : (before now : Compressed) (label : List ℕ) (labels : Labels) (place : ℕ) → found_at before.octets before.places (label ∷ labels) ≡ Some place
    → with_octets (pointer_to place) now ≡ with_rest before now (label ∷ labels)
unfolding with_rest with_octets
pointer_last before now label labels place f = rw (f, append-nil now.places) refl

remembered_first : (place : ℕ) (places others : List ℕ) → (places ++ remembered place []) ++ others ≡ places ++ remembered place others
remembered_first place places others = by_test (nat_lt place 16384) refl
  where
    by_test : (b : Bool) → nat_lt place 16384 ≡ b → (places ++ remembered place []) ++ others ≡ places ++ remembered place others
    by_test true e = rw e (append_assoc places (place ∷ []) others)
    by_test false e = rw (e, append-nil places) refl

pub label_next : (before now : Compressed) (label : List ℕ) (labels : Labels) → found_at before.octets before.places (label ∷ labels) ≡ None
    → with_rest before (with_label label now) labels ≡ with_rest before now (label ∷ labels)
unfolding with_rest with_label
label_next before now label labels f =
    let octets : (now.octets ++ (length label ∷ label)) ++ name_octets before labels ≡ now.octets ++ (length label ∷ label ++ name_octets before labels) = append_assoc now.octets (length label ∷ label) (name_octets before labels) in
    let at : length (now.octets ++ (length label ∷ label)) ≡ length now.octets + 1 + length label = omega (arith, length-append now.octets (length label ∷ label)) in
    rw (f, octets, at, remembered_first (length now.octets) now.places (name_places before (length now.octets + 1 + length label) labels)) refl

-- what continues

pub begins_itself : (a : List ℕ) → Begins a a
begins_itself a = ap (take (length a)) (sym (append-nil a)) ∙ take_at a [] (length a) refl

pub begins_on : (a b c : List ℕ) → Begins a b → Begins b c → Begins a c
begins_on a b c h g =
    let short : length a ≤ length b = omega (arith, ap length h, length-take (length a) b) in
    sym (take-take (length a) (length b) c short) ∙ ap (take (length a)) g ∙ h

pub continues_itself : (a : Compressed) → Continues a a
continues_itself a = record { octets = begins_itself a.octets; places = begins_itself a.places }

pub continues_same : (a b : Compressed) → b ≡ a → Continues a b
continues_same a b same = subst (Continues a) (sym same) (continues_itself a)

pub continues_on : (a b c : Compressed) → Continues a b → Continues b c → Continues a c
continues_on a b c h g = record { octets = begins_on a.octets b.octets c.octets h.octets g.octets; places = begins_on a.places b.places c.places h.places g.places }

pub on_ok : {T E : Type 0} (A B : Type 0) (r : Result T E) → (A → B) → OnOk r A → OnOk r B
on_ok A B (Ok x) f h = f h
on_ok A B (Err e) f h = h

-- A name is looked for among the octets that stood before it.
pub looked_up : (before now : Compressed) (octets places : List ℕ) (from known : ℕ) (labels : Labels) → Continues before now → octets ≡ now.octets → places ≡ now.places
    → from ≡ length before.octets → known ≡ length before.places → found_at before.octets before.places labels ≡ found_at (take from octets) (take known places) labels
looked_up before now octets places from known labels h o p f k =
    let begin : take from octets ≡ before.octets = rw (o, f) h.octets in
    let first : take known places ≡ before.places = rw (p, k) h.places in
    rw (begin, first) refl

-- A name whose longest suffix that is found was looked for before it is written.

pub lead_next : (before : Compressed) (label : List ℕ) (labels : Labels) (left : ℕ) → left ≡ lead_count before (label ∷ labels) → 0 < left
    → (found_at before.octets before.places (label ∷ labels) ≡ None) × (left ≡ lead_count before labels + 1) × (lead_place before (label ∷ labels) ≡ lead_place before labels)
lead_next before label labels left count some = go (found_at before.octets before.places (label ∷ labels)) refl
  where
    go : (f : Option ℕ) → found_at before.octets before.places (label ∷ labels) ≡ f
        → (found_at before.octets before.places (label ∷ labels) ≡ None) × (left ≡ lead_count before labels + 1) × (lead_place before (label ∷ labels) ≡ lead_place before labels)
    go (Some p) e = let none : left ≡ 0 = rw e at count in absurd (omega arith)
    go None e = let is : left ≡ lead_count before labels + 1 = rw e at count in (e, is, rw e refl)

pub led_to_root : (before now : Compressed) (labels : Labels) → lead_count before labels ≡ 0 → lead_place before labels ≡ None → with_octets (0 ∷ []) now ≡ with_rest before now labels
led_to_root before now [] count place = root_last before now
led_to_root before now (label ∷ labels) count place = go (found_at before.octets before.places (label ∷ labels)) refl
  where
    go : (f : Option ℕ) → found_at before.octets before.places (label ∷ labels) ≡ f → with_octets (0 ∷ []) now ≡ with_rest before now (label ∷ labels)
    go (Some p) e = let some : Some p ≡ None = rw e at place in absurd cc
    go None e = let some : lead_count before labels + 1 ≡ 0 = rw e at count in absurd (omega arith)

pub led_to_place : (before now : Compressed) (labels : Labels) (p : ℕ) → lead_count before labels ≡ 0 → lead_place before labels ≡ Some p → with_octets (pointer_to p) now ≡ with_rest before now labels
led_to_place before now [] p count place = absurd cc
led_to_place before now (label ∷ labels) p count place = go (found_at before.octets before.places (label ∷ labels)) refl
  where
    go : (f : Option ℕ) → found_at before.octets before.places (label ∷ labels) ≡ f → with_octets (pointer_to p) now ≡ with_rest before now (label ∷ labels)
    go (Some q) e =
        let some : Some q ≡ Some p = rw e at place in
        let is : q ≡ p = cc in
        pointer_last before now label labels p (e ∙ some)
    go None e = let some : lead_count before labels + 1 ≡ 0 = rw e at count in absurd (omega arith)

-- How a suffix is written is how the name is, one label on, where it is not found.
pub lead_on : (before : Compressed) (label : List ℕ) (labels : Labels) → found_at before.octets before.places (label ∷ labels) ≡ None
    → (lead_count before (label ∷ labels) ≡ lead_count before labels + 1) × (lead_place before (label ∷ labels) ≡ lead_place before labels)
lead_on before label labels none = (rw none refl, rw none refl)

pub lead_here : (before : Compressed) (label : List ℕ) (labels : Labels) (p : ℕ) → found_at before.octets before.places (label ∷ labels) ≡ Some p
    → (lead_count before (label ∷ labels) ≡ 0) × (lead_place before (label ∷ labels) ≡ Some p)
lead_here before label labels p some = (rw some refl, rw some refl)

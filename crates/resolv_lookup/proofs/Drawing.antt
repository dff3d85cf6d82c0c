-- Drawing the servers of a service: where a word picks, and how a draw goes on.
use Rattle.std.proofs.Common.{◌≡◌, ℕ, suc, ◌+◌, ◌-◌, ◌*◌, ◌/◌, ◌%◌, ◌<◌, ◌≤◌, List, [], ◌∷◌, ◌++◌, length, take, drop, refl, sym, ◌∙◌, ap, subst, arith, append_assoc}
use Rattle.std.specs.Prelude.{min}
use Rattle.std.proofs.Math.Nat.{mul-add-div, div-add-mod, mul-lt-mul_of_pos_right, div-lt_iff_lt-mul}
use Rattle.std.proofs.Math.Seq.{take-append-add, drop-append-add, take-length}
use Rattle.std.proofs.Math.ListN.{drop_of_length-le}
use borrow.Rule.Slice.PartMut.{put_mid}
use Rattle.std.proofs.lemmas.List.{length-take-le, take-append-drop, length-drop, append-nil}
use Rattle.std.proofs.lemmas.Bool.Decides.{nat_tests}
use Rattle.client_request.specs.Words.{rest_of}
use Rattle.resolv_lookup.specs.Items.{Item}
use Rattle.resolv_lookup.specs.Order.{weight_with, pick, place_reaching, picked_first, drawn, behind}

spread : (word unit quotient rest parts : ℕ) → unit * quotient + rest ≡ parts → unit * (word * quotient) + word * rest ≡ word * parts
spread word unit quotient rest parts whole =
    let product : word * (unit * quotient + rest) ≡ word * parts = ap (λ n. word * n) whole in
    omega (arith, product)

-- A product is divided part by part.
pub split_quotient : (word parts unit : ℕ) → 0 < unit → word * (parts / unit) + word * (parts % unit) / unit ≡ word * parts / unit
split_quotient word parts unit pos =
    let whole : unit * (parts / unit) + parts % unit ≡ parts = div-add-mod parts unit in
    let product : unit * (word * (parts / unit)) + word * (parts % unit) ≡ word * parts = spread word unit (parts / unit) (parts % unit) parts whole in
    sym (mul-add-div pos (word * (parts / unit)) (word * (parts % unit))) ∙ ap (λ n. n / unit) product

-- What a word picks is not above the sum of the weights.
pub picked_within : (word weight unit : ℕ) → word < unit → word * (weight + 1) / unit ≤ weight
picked_within word weight unit lt =
    let pos : 0 < weight + 1 = omega arith in
    let product : word * (weight + 1) < unit * (weight + 1) = mul-lt-mul_of_pos_right lt pos in
    let below : word * (weight + 1) / unit < weight + 1 = (div-lt_iff_lt-mul (omega arith)).1 (grind (arith, product)) in
    omega (arith, below)

lower : (a b : ℕ) → b ≤ a → min a b ≡ b
lower a b le = omega arith

-- What the parts of the quotient are is picked.
pub pick_is : (word weight given : ℕ) → given ≡ word → word < 18446744073709551616
    → given * ((weight + 1) / 18446744073709551616) + given * ((weight + 1) % 18446744073709551616) / 18446744073709551616 ≡ pick word weight
pick_is word weight given is lt =
    let pos : 0 < 18446744073709551616 = omega arith in
    let split : word * ((weight + 1) / 18446744073709551616) + word * ((weight + 1) % 18446744073709551616) / 18446744073709551616 ≡ word * (weight + 1) / 18446744073709551616 =
    split_quotient word (weight + 1) 18446744073709551616 pos in
    subst (λ (g : ℕ). g * ((weight + 1) / 18446744073709551616) + g * ((weight + 1) % 18446744073709551616) / 18446744073709551616 ≡ pick word weight) (sym is)
    (split ∙ sym (lower weight (word * (weight + 1) / 18446744073709551616) (picked_within word weight 18446744073709551616 lt)))

-- What is picked is within the sum of the weights.
pub pick_within : (word weight : ℕ) → pick word weight ≤ weight
pick_within word weight = omega arith

-- A number up to the sum of the weights of a priority is reached among those at the front.
pub reached_within : (priority number : ℕ) (items : List Item) → 0 < length items → number ≤ weight_with priority items
    → place_reaching number items < length items
reached_within priority number [] pos le = absurd (omega arith)
reached_within priority number (item ∷ []) pos le = grind (arith, nat_tests)
reached_within priority number (item ∷ second ∷ others) pos le = grind (arith, nat_tests, reached_within priority (number - item.srv.weight) (second ∷ others))

-- One draw more.
pub draws_on : (words rest : ℕ → ℕ) (count i : ℕ) (items after : List Item) → rest ≡ rest_of words → i < count → length items ≡ count
    → after ≡ take i items ++ picked_first (words 0) (drop i items)
    → take i items ++ drawn words (count - i) (drop i items) ≡ take (i + 1) after ++ drawn rest (count - (i + 1)) (drop (i + 1) after)
unfolding drawn
draws_on words rest count i items after is_rest lt count_is is_after =
    let next : List Item = picked_first (words 0) (drop i items) in
    let left : ℕ = count - (i + 1) in
    let more : count - i ≡ suc left = omega arith in
    let front : length (take i items) ≡ i = length-take-le i items (omega arith) in
    let step : drawn words (count - i) (drop i items) ≡ take 1 next ++ drawn (rest_of words) left (drop 1 next) =
    subst (λ (n : ℕ). drawn words n (drop i items) ≡ take 1 next ++ drawn (rest_of words) left (drop 1 next)) (sym more) refl in
    let taken : take (i + 1) after ≡ take i items ++ take 1 next =
    rw is_after (subst (λ (n : ℕ). take (n + 1) (take i items ++ next) ≡ take i items ++ take 1 next) front (take-append-add (take i items) next 1)) in
    let dropped : drop (i + 1) after ≡ drop 1 next =
    rw is_after (subst (λ (n : ℕ). drop (n + 1) (take i items ++ next) ≡ drop 1 next) front (drop-append-add (take i items) next 1)) in
    ap (λ (ys : List Item). take i items ++ ys) step
    ∙ sym (append_assoc (take i items) (take 1 next) (drawn (rest_of words) left (drop 1 next)))
    ∙ cc (taken, dropped, is_rest)

-- Where no place is left, nothing is drawn.
pub drawn_none : (words : ℕ → ℕ) (count : ℕ) (items : List Item) (place : ℕ) → count ≤ place → length items ≡ count
    → take place items ++ drawn words (count - place) (drop place items) ≡ items
unfolding drawn
drawn_none words count items place le count_is =
    let none : count - place ≡ 0 = omega arith in
    subst (λ (n : ℕ). take place items ++ drawn words n (drop place items) ≡ items) (sym none) (take-append-drop place items)

-- The items behind a place, put back after the first of them was picked.
pub put_back : (word place : ℕ) (items next : List Item) → place ≤ length items
    → next ≡ picked_first word (take (length items - place) (drop place items))
    → put_mid place (length items - place) items next ≡ take place items ++ picked_first word (drop place items)
put_back word place items next le is =
    let long : length (drop place items) ≡ length items - place = length-drop place items in
    let all : take (length items - place) (drop place items) ≡ drop place items =
    subst (λ (n : ℕ). take n (drop place items) ≡ drop place items) long (take-length (drop place items)) in
    let none : drop (length items - place) (drop place items) ≡ [] = drop_of_length-le (drop place items) (omega (arith, long)) in
    let same : next ≡ picked_first word (drop place items) = is ∙ ap (picked_first word) all in
    ap (λ (ys : List Item). take place items ++ ys) (ap (λ (zs : List Item). next ++ zs) none ∙ append-nil next ∙ same)

-- One word more is drawn.
pub behind_one : (words rest : ℕ → ℕ) (count place : ℕ) → rest ≡ rest_of words → place < count
    → behind (count - place) words ≡ behind (count - (place + 1)) rest
behind_one words rest count place is lt =
    let more : count - place ≡ suc (count - (place + 1)) = omega arith in
    ap (λ (n : ℕ). behind n words) more ∙ ap (behind (count - (place + 1))) (sym is)

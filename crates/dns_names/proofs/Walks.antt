-- What a name that is read is, by the relation, and what reading rests on.
use Rattle.std.proofs.Common.{◌≡◌, ℕ, zero, suc, ◌+◌, ◌<◌, List, [], length, refl, subst, arith}
use Rattle.std.specs.Prelude.{Option, Some, None, option_map, slice_range}
use Rattle.dns_names.specs.declared.name.Head.{Head}
use Rattle.dns_names.specs.declared.name.Head.TheVariants.{Root, Label, Pointer}
use Rattle.dns_names.specs.Name.{Labels, Found, head_at, Says, IsName, at_root, at_label, at_pointer, walk, stepped, labelled, pointed}
use Rattle.dns_names.proofs.Heads.{then_ok, none_some, head_says, says_head}

map_some : {A B : Type 0} (f : A → B) (o : Option A) (y : B) → option_map f o ≡ Some y → (x : A) × (o ≡ Some x) × (f x ≡ y)
map_some f (Some x) y e = (x, refl, cc)
map_some f None y e = none_some e

-- what one step makes of the names behind it
step_is : (octets : List ℕ) (at : ℕ) (from : ℕ → Option Found) → ((place : ℕ) (g : Found) → from place ≡ Some g → IsName octets place g.labels g.end g.pointers)
    → (h : Head) → Says octets at h → (f : Found) → stepped octets at from h ≡ Some f → IsName octets at f.labels f.end f.pointers
step_is octets at from each Root s f e =
    let Q : Found → Type 0 = λ x. IsName octets at x.labels x.end x.pointers in
    let is : record { labels = []; end = at + 1; pointers = 0 } ≡ f = cc in subst Q is (at_root at s)
step_is octets at from each (Label k) s f e =
    let Q : Found → Type 0 = λ x. IsName octets at x.labels x.end x.pointers in
    let rest = map_some (labelled (slice_range octets (at + 1) (at + 1 + k))) (from (at + 1 + k)) f e in
    subst Q rest.2 (at_label at k _ _ _ s (each (at + 1 + k) rest.0 rest.1))
step_is octets at from each (Pointer place) s f e =
    let Q : Found → Type 0 = λ x. IsName octets at x.labels x.end x.pointers in
    let rest = map_some (pointed (at + 2)) (from place) f e in
    subst Q rest.2 (at_pointer at place _ _ _ s (each place rest.0 rest.1))

-- what is walked is a name
pub walk_is : (n : ℕ) (octets : List ℕ) (at : ℕ) (f : Found) → walk n octets at ≡ Some f → IsName octets at f.labels f.end f.pointers
unfolding walk
walk_is zero octets at f e = none_some e
walk_is (suc n) octets at f e =
    let first = then_ok (head_at octets at) (stepped octets at (walk n octets)) f e in
    step_is octets at (walk n octets) (λ place g h. walk_is n octets place g h) first.0 (head_says octets at first.0 first.1) f first.2

-- how many steps a name takes
pub steps : Labels → ℕ → ℕ
steps labels pointers = 1 + length labels + pointers

-- A name is walked, in any number of steps that is enough.
pub is_walk : (n : ℕ) (octets : List ℕ) (at : ℕ) (labels : Labels) (end pointers : ℕ) → IsName octets at labels end pointers
    → length labels + pointers < n → walk n octets at ≡ Some (record { labels = labels; end = end; pointers = pointers })
unfolding walk
is_walk zero octets at labels end pointers i h = absurd (omega arith)
is_walk (suc n) octets at labels end pointers (at_root a s) h = rw (says_head octets a Root s) refl
is_walk (suc n) octets at labels end pointers (at_label a k ls e p s i) h =
    let few : length ls + p < n = omega arith in
    rw (says_head octets a (Label k) s, is_walk n octets (a + 1 + k) ls e p i few) refl
is_walk (suc n) octets at labels end pointers (at_pointer a place ls e p s i) h =
    let few : length labels + p < n = omega arith in
    rw (says_head octets a (Pointer place) s, is_walk n octets place ls e p i few) refl

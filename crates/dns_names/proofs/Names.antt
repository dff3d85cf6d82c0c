-- How reading a name goes on after each step.
use Rattle.std.proofs.Common.{◌≡◌, ℕ, zero, suc, ◌+◌, ◌<◌, ◌≤◌, List, [], ◌∷◌, length, refl, arith, zero-add, Bool, true, false}
use Rattle.std.specs.Prelude.{Option, Some, None, option_map, option_and_then, unwrap_or, nat_le, ◌&&◌, if◌then◌else◌, slice_range}
use Rattle.std.proofs.lemmas.Bool.{lt-leb, le-leb}
use Rattle.std.proofs.lemmas.List.Edits.{length-between}
use Rattle.dns_names.specs.declared.name.Head.{Head}
use Rattle.dns_names.specs.declared.name.Head.TheVariants.{Root, Label, Pointer}
use Rattle.dns_names.specs.Name.{Found, Labels, octet_count, head_at, walk, stepped, labelled, pointed, in_limits, name_at}

-- where a name ends, after so many octets and pointers, and a first pointer that ends there
unfoldable pub settled : ℕ → ℕ → Option ℕ → Option Found → Option ℕ
settled count pointers end None = None
settled count pointers end (Some f) =
    if nat_le (pointers + f.pointers) 255 && nat_le (count + octet_count f.labels) 255 then Some (unwrap_or end f.end) else None

pub at_start : (octets : List ℕ) (place : ℕ) → option_map (λ f. f.end) (name_at octets place) ≡ settled 0 0 None (walk 383 octets place)
unfolding name_at settled
at_start octets place = start (walk 383 octets place)
  where
    limited : (f : Found) → (b : Bool) → option_map (λ f. f.end) (if b then Some f else None) ≡ (if b then Some f.end else None)
    limited f true = refl
    limited f false = refl

    start : (w : Option Found) → option_map (λ f. f.end) (option_and_then in_limits w) ≡ settled 0 0 None w
    start None = refl
    start (Some f) = rw (zero-add f.pointers, zero-add (octet_count f.labels)) (limited f (nat_le f.pointers 255 && nat_le (octet_count f.labels) 255))

pub octets_some : (labels : Labels) → 0 < octet_count labels
octets_some [] = omega arith
octets_some (l ∷ labels) = omega arith

pub walk_one : (n m : ℕ) (octets : List ℕ) (at : ℕ) (h : Head) → head_at octets at ≡ Some h → n ≡ suc m → walk n octets at ≡ stepped octets at (walk m octets) h
unfolding walk
walk_one n m octets at h e p = rw p (rw e refl)

pub walk_none : (n : ℕ) (octets : List ℕ) (at : ℕ) → head_at octets at ≡ None → walk n octets at ≡ None
unfolding walk
walk_none zero octets at e = refl
walk_none (suc n) octets at e = rw e refl

pub settled_label : (count pointers : ℕ) (end : Option ℕ) (label : List ℕ) (w : Option Found) (k : ℕ) → length label ≡ k → settled count pointers end (option_map (labelled label) w) ≡ settled (count + (1 + k)) pointers end w
unfolding settled
settled_label count pointers end label None k e = refl
settled_label count pointers end label (Some f) k e =
    let same : count + (1 + length label + octet_count f.labels) ≡ count + (1 + k) + octet_count f.labels = omega arith in rw same refl

pub settled_pointer : (count pointers : ℕ) (end : Option ℕ) (at : ℕ) (w : Option Found) → settled count pointers end (option_map (pointed at) w) ≡ settled count (pointers + 1) (Some (unwrap_or end at)) w
unfolding settled
settled_pointer count pointers end at None = refl
settled_pointer count pointers end at (Some f) =
    let same : pointers + (f.pointers + 1) ≡ pointers + 1 + f.pointers = omega arith in rw same refl

second_fails : (b : Bool) (x : Option ℕ) → (if b && false then x else None) ≡ None
second_fails true x = refl
second_fails false x = refl

pub over_octets : (count pointers : ℕ) (end : Option ℕ) (w : Option Found) → 255 ≤ count → settled count pointers end w ≡ None
unfolding settled
over_octets count pointers end None h = refl
over_octets count pointers end (Some f) h =
    let over : 255 < count + octet_count f.labels = omega (arith, octets_some f.labels) in
    rw (lt-leb _ 255 over) (second_fails (nat_le (pointers + f.pointers) 255) _)

pub over_pointers : (count pointers : ℕ) (end : Option ℕ) (w : Option Found) → 256 ≤ pointers → settled count pointers end w ≡ None
unfolding settled
over_pointers count pointers end None h = refl
over_pointers count pointers end (Some f) h =
    let over : 255 < pointers + f.pointers = omega arith in rw (lt-leb _ 255 over) refl

-- the end of a walk, at each head
pub stop_none : (n : ℕ) (octets : List ℕ) (at count pointers : ℕ) (end : Option ℕ) → head_at octets at ≡ None → settled count pointers end (walk n octets at) ≡ None
unfolding settled
stop_none n octets at count pointers end e = rw (walk_none n octets at e) refl

pub stop_root : (n m : ℕ) (octets : List ℕ) (at count pointers : ℕ) (end : Option ℕ) → head_at octets at ≡ Some Root → n ≡ suc m → pointers ≤ 255 → count < 255
    → settled count pointers end (walk n octets at) ≡ Some (unwrap_or end (at + 1))
unfolding settled
stop_root n m octets at count pointers end e s p c =
    let few : pointers + 0 ≤ 255 = omega arith in
    let fits : count + 1 ≤ 255 = omega arith in
    rw (walk_one n m octets at Root e s, le-leb _ 255 few, le-leb _ 255 fits) refl

pub go_label : (n m : ℕ) (octets : List ℕ) (at k count pointers : ℕ) (end : Option ℕ) → head_at octets at ≡ Some (Label k) → n ≡ suc m → at + 1 + k ≤ length octets
    → settled count pointers end (walk n octets at) ≡ settled (count + (1 + k)) pointers end (walk m octets (at + (1 + k)))
go_label n m octets at k count pointers end e s fits =
    let long : length (slice_range octets (at + 1) (at + 1 + k)) ≡ k = omega (arith, length-between octets (at + 1) (at + 1 + k) fits) in
    let there : at + 1 + k ≡ at + (1 + k) = omega arith in
    rw (walk_one n m octets at (Label k) e s, settled_label count pointers end _ (walk m octets (at + 1 + k)) k long, there) refl

pub go_pointer : (n m : ℕ) (octets : List ℕ) (at t count pointers : ℕ) (end : Option ℕ) → head_at octets at ≡ Some (Pointer t) → n ≡ suc m
    → settled count pointers end (walk n octets at) ≡ settled count (pointers + 1) (Some (unwrap_or end (at + 2))) (walk m octets t)
go_pointer n m octets at t count pointers end e s = rw (walk_one n m octets at (Pointer t) e s) (settled_pointer count pointers end (at + 2) (walk m octets t))

pub stop_steps : (n : ℕ) (octets : List ℕ) (at count pointers : ℕ) (end : Option ℕ) → n ≡ 0 → settled count pointers end (walk n octets at) ≡ None
unfolding settled walk
stop_steps n octets at count pointers end e = rw e refl

-- The labels of a name, one by one.
use Rattle.std.proofs.Common.{◌≡◌, ℕ, suc, ◌+◌, ◌≤◌, List, [], length, refl, subst, arith, Bool, true, false}
use Rattle.std.specs.Prelude.{Option, Some, None, IsSome, option_map, option_and_then, slice_range, if◌then◌else◌}
use Rattle.std.specs.Option.{option_map_or}
use Rattle.dns_names.specs.declared.name.Head.TheVariants.{Root, Label, Pointer}
use Rattle.dns_names.specs.Name.{Found, head_at, walk, labelled, pointed, name_at, in_limits, labels_within, labels_at, NextLabel}
use Rattle.dns_names.proofs.Names.{walk_one, walk_none}

-- a name that is read goes on at its head
pub none_left : (n : ℕ) (octets : List ℕ) (at : ℕ) → n ≡ 0 → IsSome (walk n octets at) → ⊥
unfolding walk
none_left n octets at e s = let P : ℕ → Type 0 = λ n. IsSome (walk n octets at) in let h : IsSome (walk 0 octets at) = subst P e s in absurd cc

pub no_head : (n : ℕ) (octets : List ℕ) (at : ℕ) → head_at octets at ≡ None → IsSome (walk n octets at) → ⊥
no_head n octets at e s = let h = rw (walk_none n octets at e) at s in absurd cc

pub at_the_root : (n m : ℕ) (octets : List ℕ) (at : ℕ) → head_at octets at ≡ Some Root → n ≡ suc m → labels_within n octets at ≡ []
unfolding labels_within
at_the_root n m octets at e s = rw (walk_one n m octets at Root e s) refl

pub at_a_pointer : (n m : ℕ) (octets : List ℕ) (at t : ℕ) → head_at octets at ≡ Some (Pointer t) → n ≡ suc m → IsSome (walk n octets at)
    → (labels_within n octets at ≡ labels_within m octets t) × IsSome (walk m octets t)
unfolding labels_within
at_a_pointer n m octets at t e s some =
    let one = walk_one n m octets at (Pointer t) e s in
    go (walk m octets t) refl (rw one at some)
  where
    go : (o : Option Found) → walk m octets t ≡ o → IsSome (option_map (pointed (at + 2)) (walk m octets t)) → (labels_within n octets at ≡ labels_within m octets t) × IsSome (walk m octets t)
    go None w h = let h' = rw w at h in absurd cc
    go (Some f) w h = (rw (walk_one n m octets at (Pointer t) e s, w) refl, rw w refl)

pub at_a_label : (n m : ℕ) (octets : List ℕ) (at k : ℕ) → head_at octets at ≡ Some (Label k) → n ≡ suc m → at + 1 + k ≤ length octets → IsSome (walk n octets at)
    → NextLabel n octets at (at + 1) (at + 1 + k) m
unfolding labels_within
at_a_label n m octets at k e s fits some =
    let one = walk_one n m octets at (Label k) e s in
    go (walk m octets (at + 1 + k)) refl (rw one at some)
  where
    go : (o : Option Found) → walk m octets (at + 1 + k) ≡ o → IsSome (option_map (labelled (slice_range octets (at + 1) (at + 1 + k))) (walk m octets (at + 1 + k))) → NextLabel n octets at (at + 1) (at + 1 + k) m
    go None w h = let h' = rw w at h in absurd cc
    go (Some f) w h = record { order = omega arith; within = fits; labels = rw (walk_one n m octets at (Label k) e s, w) refl; goes_on = rw w refl }

-- the labels of a name, from its start
pub from_start : (octets : List ℕ) (at : ℕ) → IsSome (name_at octets at) → IsSome (walk 383 octets at) × (labels_within 383 octets at ≡ labels_at octets at)
unfolding labels_within name_at
from_start octets at some = go (walk 383 octets at) refl some
  where
    limited : (f : Found) → (b : Bool) → IsSome (if b then Some f else None) → option_map_or (λ f. f.labels) (Some f) [] ≡ option_map_or (λ f. f.labels) (if b then Some f else None) []
    limited f true h = refl
    limited f false h = absurd cc

    go : (o : Option Found) → walk 383 octets at ≡ o → IsSome (option_and_then in_limits (walk 383 octets at)) → IsSome (walk 383 octets at) × (option_map_or (λ f. f.labels) (walk 383 octets at) [] ≡ option_map_or (λ f. f.labels) (option_and_then in_limits (walk 383 octets at)) [])
    go None w h = let h' = rw w at h in absurd cc
    go (Some f) w h = (rw w refl, rw w (limited f _ (rw w at h)))

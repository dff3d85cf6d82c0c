-- What the head of a label is, both ways.
use Rattle.std.proofs.Common.{◌≡◌, ℕ, zero, suc, ◌+◌, ◌*◌, ◌-◌, ◌<◌, ◌≤◌, ◌⊎◌, inl, inr, List, length, refl, ap, sym, subst, ◌∙◌, arith, Bool, true, false, cond}
use Rattle.std.specs.Prelude.{Option, Some, None, option_and_then, nat_le, nat_lt, ◌==◌, if◌then◌else◌, slice_get}
use Rattle.std.proofs.lemmas.Bool.{le-leb, leb-true, ltb-false, le-ltb, lt-ltb, ltb-true, eqb-true, eqb-false, ne_eqb}
use Rattle.dns_names.specs.declared.name.Head.{Head}
use Rattle.dns_names.specs.declared.name.Head.TheVariants.{Root, Label, Pointer}
use Rattle.dns_names.specs.Name.{head_from, head_at, pointer, Says, says_root, says_label, says_pointer}

-- the value of a step that was taken
pub then_ok : {A B : Type 0} (o : Option A) (f : A → Option B) (y : B) → option_and_then f o ≡ Some y → (x : A) × (o ≡ Some x) × (f x ≡ Some y)
then_ok (Some x) f y e = (x, refl, e)
then_ok None f y e = absurd cc

-- which way a test went
pub chosen : {A : Type 0} (b : Bool) (x y z : A) → cond b x y ≡ z → ((b ≡ true) × (x ≡ z)) ⊎ ((b ≡ false) × (y ≡ z))
chosen true x y z e = inl (refl, e)
chosen false x y z e = inr (refl, e)

pub none_some : {A B : Type 0} {x : A} → None ≡ Some x → B
none_some e = absurd cc

pub positive : (n : ℕ) → (n == 0) ≡ false → 0 < n
positive zero e = absurd (eqb-false 0 0 e refl)
positive (suc n) e = omega arith

-- a pointer that is read
pub pointer_is : (at high low : ℕ) (h : Head) → pointer at high low ≡ Some h → (h ≡ Pointer ((high - 192) * 256 + low)) × ((high - 192) * 256 + low < at)
pointer_is at high low h e =
    elim (chosen (nat_lt ((high - 192) * 256 + low) at) (Some (Pointer ((high - 192) * 256 + low))) None (Some h) e) [
      | inl p ↦ let is : Some (Pointer ((high - 192) * 256 + low)) ≡ Some h = p.1 in let below : (high - 192) * 256 + low < at = ltb-true _ _ p.0 in (cc, below)
      | inr p ↦ none_some p.1
    ]

pub head_says : (octets : List ℕ) (at : ℕ) (h : Head) → head_at octets at ≡ Some h → Says octets at h
unfolding head_at
head_says octets at h e =
    let first = then_ok (slice_get octets at) (head_from octets at) h e in
    from_first first.0 first.1 first.2
  where
    not_root : (n : ℕ) → slice_get octets at ≡ Some n → 0 < n → (if nat_lt n 64 then (if nat_le (at + 1 + n) (length octets) then Some (Label n) else None)
        else if nat_lt n 192 then None else option_and_then (pointer at n) (slice_get octets (at + 1))) ≡ Some h → Says octets at h
    not_root n there some e =
        elim (chosen (nat_lt n 64) (if nat_le (at + 1 + n) (length octets) then Some (Label n) else None)
        (if nat_lt n 192 then None else option_and_then (pointer at n) (slice_get octets (at + 1))) (Some h) e) [
          | inl p ↦ elim (chosen (nat_le (at + 1 + n) (length octets)) (Some (Label n)) None (Some h) p.1) [
            | inl q ↦ let P : Head → Type 0 = λ x. Says octets at x in
                let found = q.1 in
                let is : Label n ≡ h = cc in
                subst P is (says_label n there some (ltb-true _ _ p.0) (leb-true _ _ q.0))
            | inr q ↦ none_some q.1
          ]
          | inr p ↦ elim (chosen (nat_lt n 192) None (option_and_then (pointer at n) (slice_get octets (at + 1))) (Some h) p.1) [
            | inl q ↦ none_some q.1
            | inr q ↦
                let second = then_ok (slice_get octets (at + 1)) (pointer at n) h q.1 in
                let is = pointer_is at n second.0 h second.2 in
                let big : 192 ≤ n = ltb-false _ _ q.0 in
                let high : n ≡ 192 + (n - 192) = omega arith in
                let P : Head → Type 0 = λ x. Says octets at x in
                let there' : slice_get octets at ≡ Some (192 + (n - 192)) = there ∙ ap Some high in
                subst P (sym is.0) (says_pointer (n - 192) second.0 _ there' second.1 refl is.1)
          ]
        ]

    from_first : (n : ℕ) → slice_get octets at ≡ Some n → head_from octets at n ≡ Some h → Says octets at h
    from_first n there e = elim (chosen (n == 0) (Some Root) _ (Some h) e) [
      | inl p ↦ let P : Head → Type 0 = λ x. Says octets at x in
          let found = p.1 in
          let is : Root ≡ h = cc in
          let zero_there : slice_get octets at ≡ Some 0 = there ∙ ap Some (eqb-true _ _ p.0) in
          subst P is (says_root zero_there)
      | inr p ↦ let some : 0 < n = positive n p.0 in not_root n there some p.1
    ]

pub says_head : (octets : List ℕ) (at : ℕ) (h : Head) → Says octets at h → head_at octets at ≡ Some h
unfolding head_at
says_head octets at h (says_root e) = rw e refl
says_head octets at h (says_label n e some few fits) = rw e (label_again n some few (le-leb _ _ fits))
  where
    label_again : (n : ℕ) → 0 < n → n < 64 → nat_le (at + 1 + n) (length octets) ≡ true → head_from octets at n ≡ Some (Label n)
    label_again n some few fits = rw (ne_eqb n 0 (λ e. omega (arith, e)), lt-ltb n 64 few, fits) refl
says_head octets at h (says_pointer high low place e f is before) =
    let none : 192 + high ≡ 0 → ⊥ = λ z. omega (arith, z) in
    let least : 64 ≤ 192 + high = omega arith in
    let more : 192 ≤ 192 + high = omega arith in
    let named : (192 + high - 192) * 256 + low ≡ place = omega (arith, is) in
    rw (e, ne_eqb (192 + high) 0 none, le-ltb (192 + high) 64 least, le-ltb (192 + high) 192 more, f, named, lt-ltb place at before) refl

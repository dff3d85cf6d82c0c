-- The parts of a header are all its bits.
use Rattle.std.proofs.Common.{◌≡◌, ℕ, zero, suc, ◌+◌, ◌<◌, Bool, true, false, ◌&&◌, inl, inr, [], ◌∷◌, length, refl, ap, sym, subst, ◌∙◌, arith, ◌==◌}
use Rattle.std.specs.Prelude.{◌*◌, slice_index}
use Rattle.std.proofs.lemmas.Bool.{cases_lt, eqb-true}
use Rattle.right_trace.specs.Time.{one_if}
use Rattle.right_trace.specs.Messages.{Octets}
use Rattle.right_trace.specs.Parts.{Header, flags_in}

-- the third octet and the fourth, of the parts
abbrev third_of : Header → ℕ
third_of x = 128 * one_if x.qr + 8 * x.opcode + 4 * one_if x.aa + 2 * one_if x.tc + one_if x.rd

abbrev fourth_of : Header → ℕ
fourth_of x = 128 * one_if x.ra + 64 * one_if x.z + 32 * one_if x.ad + 16 * one_if x.cd + x.rcode

abbrev all_below : (ℕ → Bool) → ℕ → Bool
all_below f zero = true
all_below f (suc n) = f n && all_below f n

below_all : (f : ℕ → Bool) (n i : ℕ) → all_below f n ≡ true → i < n → f i ≡ true
below_all f zero i e lt = absurd (omega arith)
below_all f (suc n) i e lt = elim (cases_lt i n) [ inl low ↦ below_all f n i (and_right (f n) (all_below f n) e) low | inr le ↦ (let same : n ≡ i = omega arith in subst (λ i. f i ≡ true) same (and_left (f n) (all_below f n) e)) ]
  where
    and_left : (a b : Bool) → (a && b) ≡ true → a ≡ true
    and_left true b e = refl
    and_left false b e = absurd (cc)

    and_right : (a b : Bool) → (a && b) ≡ true → b ≡ true
    and_right true b e = e
    and_right false b e = absurd (cc)

thirds : all_below (λ n. third_of (flags_in (0 ∷ 0 ∷ n ∷ 0 ∷ [])) == n) 256 ≡ true
thirds = refl

fourths : all_below (λ n. fourth_of (flags_in (0 ∷ 0 ∷ 0 ∷ n ∷ [])) == n) 256 ≡ true
fourths = refl

third_is : (a b c d : ℕ) → c < 256 → third_of (flags_in (a ∷ b ∷ c ∷ d ∷ [])) ≡ c
third_is a b c d lt = eqb-true (third_of (flags_in (a ∷ b ∷ c ∷ d ∷ []))) c (below_all (λ n. third_of (flags_in (0 ∷ 0 ∷ n ∷ 0 ∷ [])) == n) 256 c thirds lt)

fourth_is : (a b c d : ℕ) → d < 256 → fourth_of (flags_in (a ∷ b ∷ c ∷ d ∷ [])) ≡ d
fourth_is a b c d lt = eqb-true (fourth_of (flags_in (a ∷ b ∷ c ∷ d ∷ []))) d (below_all (λ n. fourth_of (flags_in (0 ∷ 0 ∷ 0 ∷ n ∷ [])) == n) 256 d fourths lt)

id_is : (a b c d : ℕ) → (flags_in (a ∷ b ∷ c ∷ d ∷ [])).id ≡ 256 * a + b
id_is a b c d = omega arith

four_same : (a b c d p q r s : ℕ) → a < 256 → b < 256 → c < 256 → d < 256 → p < 256 → q < 256 → r < 256 → s < 256 → flags_in (a ∷ b ∷ c ∷ d ∷ []) ≡ flags_in (p ∷ q ∷ r ∷ s ∷ []) → Path Octets (a ∷ b ∷ c ∷ d ∷ []) (p ∷ q ∷ r ∷ s ∷ [])
four_same a b c d p q r s la lb lc ld lp lq lr ls e =
    let id : 256 * a + b ≡ 256 * p + q = sym (id_is a b c d) ∙ (ap (λ (x : Header). x.id) e ∙ id_is p q r s) in
    let first : a ≡ p = omega arith in
    let second : b ≡ q = omega arith in
    let third : c ≡ r = sym (third_is a b c d lc) ∙ (ap third_of e ∙ third_is p q r s lr) in
    let fourth : d ≡ s = sym (fourth_is a b c d ld) ∙ (ap fourth_of e ∙ fourth_is p q r s ls) in
    cc

pub same_bits : (h g : Octets) → length h ≡ 4 → length g ≡ 4 → ((i : ℕ) → slice_index h i < 256) → ((i : ℕ) → slice_index g i < 256) → flags_in h ≡ flags_in g → h ≡ g
same_bits (a ∷ b ∷ c ∷ d ∷ []) (p ∷ q ∷ r ∷ s ∷ []) m n small other e = four_same a b c d p q r s (small 0) (small 1) (small 2) (small 3) (other 0) (other 1) (other 2) (other 3) e
same_bits [] g m n small other e = absurd (cc)
same_bits (a ∷ []) g m n small other e = absurd (omega arith)
same_bits (a ∷ b ∷ []) g m n small other e = absurd (omega arith)
same_bits (a ∷ b ∷ c ∷ []) g m n small other e = absurd (omega arith)
same_bits (a ∷ b ∷ c ∷ d ∷ x ∷ more) g m n small other e = absurd (omega arith)
same_bits (a ∷ b ∷ c ∷ d ∷ []) [] m n small other e = absurd (cc)
same_bits (a ∷ b ∷ c ∷ d ∷ []) (p ∷ []) m n small other e = absurd (omega arith)
same_bits (a ∷ b ∷ c ∷ d ∷ []) (p ∷ q ∷ []) m n small other e = absurd (omega arith)
same_bits (a ∷ b ∷ c ∷ d ∷ []) (p ∷ q ∷ r ∷ []) m n small other e = absurd (omega arith)
same_bits (a ∷ b ∷ c ∷ d ∷ []) (p ∷ q ∷ r ∷ s ∷ x ∷ more) m n small other e = absurd (omega arith)

-- The first four octets of a header are those of eight digits.
use Rattle.std.proofs.Common.{◌≡◌, ◌≢◌, ◌*◌, ℕ, eqb, cond, List, [], ◌∷◌, length, get_or, Option, Some, None, refl, sym, ap, ◌+◌, subst, arith, option_map}
use Rattle.std.proofs.lemmas.Bool.{ne_eqb}
use Rattle.std.proofs.lemmas.Option.{none-some, option_and_then_some, same_Some}
use Rattle.dns_script.specs.Reading.{◌>>=◌, octet_of, pairs}
use Rattle.dns_script.specs.Grammar.{header_of}

one_more : (octet : ℕ) (digits octets : List ℕ) (o : Option (List ℕ)) → ((others : List ℕ) → o ≡ Some others → length digits ≡ 2 * length others) → option_map (λ more. octet ∷ more) o ≡ Some octets → 2 + length digits ≡ 2 * length octets
one_more octet digits octets None h e = absurd (none-some _ e)
one_more octet digits octets (Some others) h e =
    let same : octet ∷ others ≡ octets = same_Some _ _ e in
    omega (arith, ap length same, h others refl)

pairs_long : (digits octets : List ℕ) → pairs digits ≡ Some octets → length digits ≡ 2 * length octets
pairs_long [] octets e = let same : [] ≡ octets = same_Some _ _ e in omega (arith, ap length same)
pairs_long (high ∷ []) octets e = absurd (none-some _ e)
pairs_long (high ∷ low ∷ digits) octets e =
    option_and_then_some (λ octet. option_map (λ more. octet ∷ more) (pairs digits)) (octet_of high low) octets e (λ octet first more.
    let long = one_more octet digits octets (pairs digits) (λ others rest. pairs_long digits others rest) more in
    omega (arith, long))

pub header_long : (word : List ℕ) → length word ≢ 8 → None ≡ header_of word
header_long word other = go (pairs word) refl
  where
    go : (o : Option (List ℕ)) → pairs word ≡ o → None ≡ o >>= (λ octets. cond (eqb (length octets) 4) (Some octets) None)
    go None e = refl
    go (Some octets) e =
        let long = pairs_long word octets e in
        rw (ne_eqb (length octets) 4 (omega (arith, long))) refl

-- a header of what each two digits say
abbrev four : Option ℕ → Option ℕ → Option ℕ → Option ℕ → Option (List ℕ)
four first second third fourth =
    (first >>= (λ a. option_map (λ more. a ∷ more) (second >>= (λ b. option_map (λ more. b ∷ more) (third >>= (λ c. option_map (λ more. c ∷ more) (fourth >>= (λ d. option_map (λ more. d ∷ more) (Some []))))))))) >>= (λ octets. cond (eqb (length octets) 4) (Some octets) None)

eight : (word : List ℕ) → length word ≡ 8 → four (octet_of (get_or word 0 0) (get_or word 1 0)) (octet_of (get_or word 2 0) (get_or word 3 0)) (octet_of (get_or word 4 0) (get_or word 5 0)) (octet_of (get_or word 6 0) (get_or word 7 0)) ≡ header_of word
eight [] l = absurd (omega arith)
eight (a ∷ []) l = absurd (omega arith)
eight (a ∷ b ∷ []) l = absurd (omega arith)
eight (a ∷ b ∷ c ∷ []) l = absurd (omega arith)
eight (a ∷ b ∷ c ∷ d ∷ []) l = absurd (omega arith)
eight (a ∷ b ∷ c ∷ d ∷ e ∷ []) l = absurd (omega arith)
eight (a ∷ b ∷ c ∷ d ∷ e ∷ f ∷ []) l = absurd (omega arith)
eight (a ∷ b ∷ c ∷ d ∷ e ∷ f ∷ g ∷ []) l = absurd (omega arith)
eight (a ∷ b ∷ c ∷ d ∷ e ∷ f ∷ g ∷ h ∷ []) l = refl
eight (a ∷ b ∷ c ∷ d ∷ e ∷ f ∷ g ∷ h ∷ i ∷ word) l = absurd (omega arith)

module _ (word : List ℕ) (long : length word ≡ 8) where
  pub header_first : None ≡ octet_of (get_or word 0 0) (get_or word 1 0) → None ≡ header_of word
  header_first none = subst (λ o. four o (octet_of (get_or word 2 0) (get_or word 3 0)) (octet_of (get_or word 4 0) (get_or word 5 0)) (octet_of (get_or word 6 0) (get_or word 7 0)) ≡ header_of word) (sym none) (eight word long)

  module _ (a : ℕ) (first : Some a ≡ octet_of (get_or word 0 0) (get_or word 1 0)) where
    after_first : four (Some a) (octet_of (get_or word 2 0) (get_or word 3 0)) (octet_of (get_or word 4 0) (get_or word 5 0)) (octet_of (get_or word 6 0) (get_or word 7 0)) ≡ header_of word
    after_first = subst (λ o. four o (octet_of (get_or word 2 0) (get_or word 3 0)) (octet_of (get_or word 4 0) (get_or word 5 0)) (octet_of (get_or word 6 0) (get_or word 7 0)) ≡ header_of word) (sym first) (eight word long)

    pub header_second : None ≡ octet_of (get_or word 2 0) (get_or word 3 0) → None ≡ header_of word
    header_second none = subst (λ o. four (Some a) o (octet_of (get_or word 4 0) (get_or word 5 0)) (octet_of (get_or word 6 0) (get_or word 7 0)) ≡ header_of word) (sym none) after_first

    module _ (b : ℕ) (second : Some b ≡ octet_of (get_or word 2 0) (get_or word 3 0)) where
      after_second : four (Some a) (Some b) (octet_of (get_or word 4 0) (get_or word 5 0)) (octet_of (get_or word 6 0) (get_or word 7 0)) ≡ header_of word
      after_second = subst (λ o. four (Some a) o (octet_of (get_or word 4 0) (get_or word 5 0)) (octet_of (get_or word 6 0) (get_or word 7 0)) ≡ header_of word) (sym second) after_first

      pub header_third : None ≡ octet_of (get_or word 4 0) (get_or word 5 0) → None ≡ header_of word
      header_third none = subst (λ o. four (Some a) (Some b) o (octet_of (get_or word 6 0) (get_or word 7 0)) ≡ header_of word) (sym none) after_second

      module _ (c : ℕ) (third : Some c ≡ octet_of (get_or word 4 0) (get_or word 5 0)) where
        after_third : four (Some a) (Some b) (Some c) (octet_of (get_or word 6 0) (get_or word 7 0)) ≡ header_of word
        after_third = subst (λ o. four (Some a) (Some b) o (octet_of (get_or word 6 0) (get_or word 7 0)) ≡ header_of word) (sym third) after_second

        pub header_fourth : None ≡ octet_of (get_or word 6 0) (get_or word 7 0) → None ≡ header_of word
        header_fourth none = subst (λ o. four (Some a) (Some b) (Some c) o ≡ header_of word) (sym none) after_third

        pub header_read : (d : ℕ) → Some d ≡ octet_of (get_or word 6 0) (get_or word 7 0) → Some (a ∷ b ∷ c ∷ d ∷ []) ≡ header_of word
        header_read d fourth = subst (λ o. four (Some a) (Some b) (Some c) o ≡ header_of word) (sym fourth) after_third

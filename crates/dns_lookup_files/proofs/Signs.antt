-- The text behind a sign that stands first.
use Rattle.std.proofs.Common.{◌≡◌, ◌≢◌, ◌==◌, ℕ, Bool, true, false, if◌then◌else◌, List, [], ◌∷◌, refl, ap, sym, ◌∙◌, arith, Option, None, Some}
use Rattle.std.proofs.lemmas.Bool.Decides.{nat_tests}
use Rattle.std.specs.Borrow.{Bor}
use Rattle.std.specs.Option.{MatchOption, option_copied}
use Rattle.dns_lookup_files.specs.Files.{behind}

none_at : (sign : ℕ) (b : Bool) (c : ℕ) (text : List ℕ) → (c == sign) ≡ b → c ∷ text ≢ sign ∷ text → None ≡ (if b then Some text else None)
none_at sign true c text e h = absurd (h (let is : c ≡ sign = grind (arith, nat_tests) in ap (λ k. k ∷ text) is))
none_at sign false c text e h = refl

none_is : (sign : ℕ) (word : List ℕ) → ((text : List ℕ) → word ≢ sign ∷ text) → None ≡ behind sign word
none_is sign [] h = refl
none_is sign (c ∷ text) h = none_at sign (c == sign) c text refl (h text)

same_is : (sign : ℕ) (text : List ℕ) → behind sign (sign ∷ text) ≡ Some text
same_is sign text = let is : (sign == sign) ≡ true = grind (arith, nat_tests) in ap (λ b. if b then Some text else None) is

-- the text behind a sign, as a prefix that is taken off leaves it
pub behind_is : (sign : ℕ) (word : List ℕ) (r : Option (Bor (List ℕ))) → MatchOption r ((text : List ℕ) → word ≢ sign ∷ text) (λ x. word ≡ sign ∷ x.now) → option_copied r ≡ behind sign word
behind_is sign word None h = none_is sign word h
behind_is sign word (Some x) h = sym (ap (behind sign) h ∙ same_is sign x.now)

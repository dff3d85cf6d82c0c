-- Words that are taken, one after another.
use Rattle.std.proofs.Common.{◌≡◌, ◌≢◌, ◌+◌, ◌==◌, ℕ, Bool, true, false, if◌then◌else◌, List, [], ◌∷◌, length, refl, ap, sym, subst, ◌∙◌, arith, Option, None, Some, Result, Ok, Err, String, Global}
use Rattle.std.proofs.lemmas.Bool.Decides.{nat_tests}
use Rattle.std.specs.Borrow.{Bor}
use Rattle.std.specs.Option.{MatchOption, option_copied}
use Rattle.std.specs.String.{string_bytes}
use Rattle.dns_lookup_words.specs.declared.said.Said.{Said}
use Rattle.dns_lookup_words.specs.declared.wrong.Refusal.{Refusal}
use Rattle.dns_lookup_words.specs.declared.wrong.Refusal.TheVariants.{Word}
use Rattle.dns_lookup_words.specs.declared.wrong.Fault.{Fault}
use Rattle.dns_lookup_words.specs.declared.wrong.WordFault.{WordFault}
use Rattle.dns_lookup_words.specs.declared.wrong.WordFault.TheVariants as faults
use Rattle.dns_lookup_words.specs.Words.{AllAnswer, Answers, WordGives, WordsGive, bad_word, behind, fault_at, good_word, no_word}

none_at : (sign : ℕ) (b : Bool) (c : ℕ) (text : List ℕ) → (c == sign) ≡ b → c ∷ text ≢ sign ∷ text → None ≡ (if b then Some text else None)
none_at sign true c text e h = absurd (h (let is : c ≡ sign = grind (arith, nat_tests) in ap (λ k. k ∷ text) is))
none_at sign false c text e h = refl

none_is : (sign : ℕ) (word : List ℕ) → ((text : List ℕ) → word ≢ sign ∷ text) → None ≡ behind sign word
none_is sign [] h = refl
none_is sign (c ∷ text) h = none_at sign (c == sign) c text refl (h text)

same_is : (sign : ℕ) (text : List ℕ) → behind sign (sign ∷ text) ≡ Some text
same_is sign text = let is : (sign == sign) ≡ true = grind (arith, nat_tests) in ap (λ b. if b then Some text else None) is

-- the text behind a sign, as a prefix that is taken off leaves it
pub behind_is : (sign : ℕ) (word : List ℕ) (r : Option (Bor (List ℕ))) → MatchOption r ((text : List ℕ) → word ≢ sign ∷ text) (λ x. word ≡ sign ∷ x.now) → option_copied r ≡ behind sign word
behind_is sign word None h = none_is sign word h
behind_is sign word (Some x) h = sym (ap (behind sign) h ∙ same_is sign x.now)

abbrev pub Words : Type 0
Words = List (String Global)

-- the first of the words that are left is not taken
stops : (n : ℕ) (word : String Global) (behind : Words) (said new : Said) (fault : WordFault) (Gives : Result Said Refusal → Type 0)
    → ((answer : Result Said Refusal) → WordsGive n (word ∷ behind) said answer → Gives answer)
    → Answers (WordGives (string_bytes word) said) (Err fault) new → AllAnswer Gives (Err (fault_at n fault)) new
stops n word behind said new (faults.Wrong wrong) Gives follows h = follows (Err (Word n wrong)) (bad_word n word behind said wrong h)
stops n word behind said new faults.NoMemory Gives follows h = tt

pub stops_at : (n : ℕ) (left : Words) (word : String Global) (behind : Words) (text : List ℕ) (said new : Said) (fault : WordFault) (told : Fault)
    (Gives : Result Said Refusal → Type 0) → left ≡ word ∷ behind → text ≡ string_bytes word → told ≡ fault_at n fault
    → ((answer : Result Said Refusal) → WordsGive n left said answer → Gives answer)
    → Answers (WordGives text said) (Err fault) new → AllAnswer Gives (Err told) new
stops_at n left word behind text said new fault told Gives is reads tells follows h =
    let P : Words → Type 0 = λ ws. (answer : Result Said Refusal) → WordsGive n ws said answer → Gives answer in
    let Q : List ℕ → Type 0 = λ t. Answers (WordGives t said) (Err fault) new in
    let R : Fault → Type 0 = λ f. AllAnswer Gives (Err f) new in
    subst R (sym tells) (stops n word behind said new fault Gives (subst P is follows) (subst Q reads h))

-- or it is taken, and then those behind it
pub goes_on : (n : ℕ) (left : Words) (word : String Global) (behind : Words) (text : List ℕ) (said mid : Said) (answer : Result Said Refusal)
    → left ≡ word ∷ behind → text ≡ string_bytes word → WordGives text said (Ok mid) → WordsGive (n + 1) behind mid answer → WordsGive n left said answer
goes_on n left word behind text said mid answer is reads h rest =
    let P : Words → Type 0 = λ ws. WordsGive n ws said answer in
    let Q : List ℕ → Type 0 = λ t. WordGives t said (Ok mid) in
    subst P (sym is) (good_word n word behind said mid answer (subst Q reads h) rest)

pub ends : (n : ℕ) (left : Words) (said : Said) → length left ≡ 0 → WordsGive n left said (Ok said)
ends n [] said none = no_word n said
ends n (word ∷ left) said none = absurd (omega arith)

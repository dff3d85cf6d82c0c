-- Letters of dig's that no option of a lookup has.
use Rattle.std.proofs.Common.{◌≡◌, ◌≢◌, Bool, true, false, if◌then◌else◌, ℕ, List, Some, Result, Ok, Err, codes, bytes_eq, refl, ap, sym, ◌∙◌}
use Rattle.std.proofs.lemmas.Slice.Eq.{bytes_eq-Decides}
use Rattle.dns_lookup_words.specs.Words.{dash_said, lack_of, lacking}
use Rattle.dns_lookup_words.specs.declared.manner.Family.TheVariants as families
use Rattle.dns_lookup_words.specs.declared.said.Next.TheVariants as next
use Rattle.dns_lookup_words.specs.declared.said.Said.{Said}
use Rattle.dns_lookup_words.specs.declared.wrong.Wrong.{Wrong}

differs : (a b : List ℕ) → a ≢ b → bytes_eq a b ≡ false
differs a b other = go (bytes_eq a b) refl
  where
    go : (t : Bool) → bytes_eq a b ≡ t → t ≡ false
    go true e = absurd (other ((bytes_eq-Decides a b).0 e))
    go false e = refl

pub no_letter : (text : List ℕ) (said : Said) → text ≢ codes "-" → text ≢ codes "4" → text ≢ codes "6" → Err (lacking (lack_of text)) ≡ dash_said text said
no_letter text said no_dash no_four no_six =
    let by : Bool → Bool → Bool → Result Said Wrong = λ dash four six.
    if dash then Ok (record said { next = next.Plain })
    else if four then Ok (record said { family = Some families.V4 })
    else if six then Ok (record said { family = Some families.V6 })
    else Err (lacking (lack_of text)) in
    sym (ap (λ b. by b (bytes_eq text (codes "4")) (bytes_eq text (codes "6"))) (differs text (codes "-") no_dash)
    ∙ ap (λ b. by false b (bytes_eq text (codes "6"))) (differs text (codes "4") no_four)
    ∙ ap (λ b. by false false b) (differs text (codes "6") no_six))

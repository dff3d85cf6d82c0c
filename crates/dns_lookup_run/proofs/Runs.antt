-- What words end with.
use Rattle.std.proofs.Common.{◌≡◌, ◌≢◌, ◌⊎◌, ◌<◌, inl, inr, ℕ, List, Option, Ok, Err, String, Global, arith}
use Rattle.std.specs.Prelude.{IfSome}
use Rattle.dns_values.specs.Source.{Rose}
use Rattle.command_parts.specs.Ends.{IsEarly, IsSaid, line_of, status_of}
use Rattle.dns_lookup_run.specs.Worlds.{World, at_words, said}
use Rattle.command_parts.specs.declared.ending.Ending.{Ending}
use Rattle.command_parts.specs.declared.ending.Ending.TheVariants.{Says, Silent}
use Rattle.resolver_policy.specs.declared.found.Found.{Found}
use Rattle.dns_lookup_run.specs.Conf.{IsConfOf, IsTooLong}
use Rattle.dns_lookup_run.specs.Ends.{EndsTold, HasNoConf, IsOfAsking, IsOfLack, IsOfRequest, IsRefusalTold, TellsWhy, WordsEnd, asked, no_conf, no_memory, refused, too_long, unread}
use Rattle.dns_lookup_run.specs.Reports.{notes_text}
use Rattle.dns_lookup_run.specs.Sentences.{conf_text, numbers_text, unwritten_text}
use Rattle.dns_lookup_words.specs.Sentences.{sentence}
use Rattle.dns_lookup_words.specs.Words.{LookupGives}
use Rattle.dns_lookup_words.specs.declared.lookup.Lookup.{Lookup}
use Rattle.dns_lookup_words.specs.declared.wrong.Refusal.{Refusal}

-- an asking has no other status
pub of_asking : (n : ℕ) → IsOfAsking n → ((n ≢ 1) × (n ≢ 8) × (n < 12)) × (n ≢ 2) × (n ≢ 3)
of_asking n (inl (inl e)) = ((λ h. omega (arith, e, h), λ h. omega (arith, e, h), omega (arith, e)), λ h. omega (arith, e, h), λ h. omega (arith, e, h))
of_asking n (inl (inr (inl e))) = ((λ h. omega (arith, e, h), λ h. omega (arith, e, h), omega (arith, e)), λ h. omega (arith, e, h), λ h. omega (arith, e, h))
of_asking n (inl (inr (inr (inl e)))) = ((λ h. omega (arith, e, h), λ h. omega (arith, e, h), omega (arith, e)), λ h. omega (arith, e, h), λ h. omega (arith, e, h))
of_asking n (inl (inr (inr (inr (inl e))))) = ((λ h. omega (arith, e, h), λ h. omega (arith, e, h), omega (arith, e)), λ h. omega (arith, e, h), λ h. omega (arith, e, h))
of_asking n (inl (inr (inr (inr (inr e))))) = ((λ h. omega (arith, e, h), λ h. omega (arith, e, h), omega (arith, e)), λ h. omega (arith, e, h), λ h. omega (arith, e, h))
of_asking n (inr (inl e)) = ((λ h. omega (arith, e, h), λ h. omega (arith, e, h), omega (arith, e)), λ h. omega (arith, e, h), λ h. omega (arith, e, h))
of_asking n (inr (inr (inl e))) = ((λ h. omega (arith, e, h), λ h. omega (arith, e, h), omega (arith, e)), λ h. omega (arith, e, h), λ h. omega (arith, e, h))
of_asking n (inr (inr (inr e))) = ((λ h. omega (arith, e, h), λ h. omega (arith, e, h), omega (arith, e)), λ h. omega (arith, e, h), λ h. omega (arith, e, h))

-- the sentence of a request that ends an asking
no_lack : (n : ℕ) → IsOfRequest n → IsOfLack n → ⊥
no_lack n (inl a) (inl e) = omega (arith, a, e)
no_lack n (inl a) (inr (inl e)) = omega (arith, a, e)
no_lack n (inl a) (inr (inr e)) = omega (arith, a, e)
no_lack n (inr (inl a)) (inl e) = omega (arith, a, e)
no_lack n (inr (inl a)) (inr (inl e)) = omega (arith, a, e)
no_lack n (inr (inl a)) (inr (inr e)) = omega (arith, a, e)
no_lack n (inr (inr (inl a))) (inl e) = omega (arith, a, e)
no_lack n (inr (inr (inl a))) (inr (inl e)) = omega (arith, a, e)
no_lack n (inr (inr (inl a))) (inr (inr e)) = omega (arith, a, e)
no_lack n (inr (inr (inr (inl a)))) (inl e) = omega (arith, a, e)
no_lack n (inr (inr (inr (inl a)))) (inr (inl e)) = omega (arith, a, e)
no_lack n (inr (inr (inr (inl a)))) (inr (inr e)) = omega (arith, a, e)
no_lack n (inr (inr (inr (inr a)))) (inl e) = omega (arith, a, e)
no_lack n (inr (inr (inr (inr a)))) (inr (inl e)) = omega (arith, a, e)
no_lack n (inr (inr (inr (inr a)))) (inr (inr e)) = omega (arith, a, e)

pub request_flushed : (n : ℕ) (P : Type 0) → IsOfRequest n → ((n ≡ 4) ⊎ ((n ≡ 5) ⊎ (n ≡ 7)) → P) → TellsWhy n → P
request_flushed n P of flushed (inl two) = absurd ((of_asking n (inl of)).1 two)
request_flushed n P of flushed (inr (inl three)) = absurd ((of_asking n (inl of)).2 three)
request_flushed n P of flushed (inr (inr (inl four))) = flushed (inl four)
request_flushed n P of flushed (inr (inr (inr (inl five)))) = flushed (inr (inl five))
request_flushed n P of flushed (inr (inr (inr (inr (inl seven))))) = flushed (inr (inr seven))
request_flushed n P of flushed (inr (inr (inr (inr (inr lack))))) = absurd (no_lack n of lack)

module _ {L : Type 0} (held : L → Option (List ℕ)) (faults : L → ℕ) (words : List (String Global)) (told : Option (List ℕ)) (status : ℕ) (before after : L) (old new : World) where
  pub refused_ends : (refusal : Refusal) → LookupGives words (Err refusal) → (status ≡ 2) ⊎ (status ≡ 6) → WordsEnd held faults words told status before after old new
  refused_ends refusal judged (inl two) = refused refusal judged two
  refused_ends refusal judged (inr six) = no_memory six

  pub conf_ends : (lookup : Lookup) → LookupGives words (Ok lookup) → (status ≡ 3) ⊎ (status ≡ 6) → WordsEnd held faults words told status before after old new
  conf_ends lookup judged (inl three) = no_conf lookup judged three
  conf_ends lookup judged (inr six) = no_memory six

  pub asked_ends : (lookup : Lookup) (conf : Found) (left : ℕ → ℕ) (mid : L) → LookupGives words (Ok lookup) → IsConfOf lookup told old.words conf left
      → said held faults before mid (notes_text conf.notes) → IsOfAsking status → EndsTold held faults lookup conf.conf status mid after (at_words left old) new
      → (status ≡ 0 → held after ≡ held mid) → (status ≡ 4 → said held faults mid after unwritten_text) → (status ≡ 7 → said held faults mid after numbers_text)
      → WordsEnd held faults words told status before after old new
  asked_ends lookup conf left mid judged is_conf noted of ends quiet unwritten stops =
      asked lookup conf left mid judged is_conf noted ((of_asking status of).1, (of_asking status of).2) ends (record { quiet = quiet; unwritten = unwritten; stops = stops })

-- the sentence of a refusal is told
pub refusal_told : (words : List (String Global)) (refusal : Refusal) (before after : Option (List ℕ)) (faults faults_after : ℕ) → LookupGives words (Err refusal)
    → IsSaid (sentence words refusal) before after faults faults_after → IsRefusalTold words before after faults faults_after
refusal_told words refusal before after faults faults_after judged said = record { refusal = refusal; refused = judged; told = said }

-- why there is no configuration, and what is told of it
module _ (told : Option (List ℕ)) (faults faults_after : ℕ) (Told : List ℕ → Type 0) where
  pub why_none : (ending : Ending) → IsEarly ending → status_of ending ≢ 7 → (status_of ending ≡ 1) ⊎ (status_of ending ≡ 3)
      → (status_of ending ≡ 3 → Rose faults faults_after) → (status_of ending ≡ 1 → IfSome told (λ text. IsTooLong text (line_of ending)))
      → Told (conf_text ending) → HasNoConf told faults faults_after Told
  why_none (Says status line) (inl one) no_seven cause rose because said = too_long line.items (because one) said
  why_none (Says status line) (inr seven) no_seven cause rose because said = absurd (no_seven seven)
  why_none (Silent status) (inl three) no_seven cause rose because said = unread (rose three) said
  why_none (Silent status) (inr six) no_seven (inl one) rose because said = absurd (omega arith)
  why_none (Silent status) (inr six) no_seven (inr three) rose because said = absurd (omega arith)

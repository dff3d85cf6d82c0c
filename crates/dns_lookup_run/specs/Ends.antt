-- What a lookup ends with.
use Rattle.std.specs.Prelude.{◌≡◌, ◌≢◌, ◌⊎◌, ℕ, true, false, List, [], ◌∷◌, ◌++◌, Option, None, Some, String, Ok, Err, IfSome}
use Rattle.std.specs.List.{All}
use Rattle.std.specs.declared.alloc.Global.{Global}
use Rattle.client_loop.specs.Asking.{Scene, StopsForNumbers, scene}
use Rattle.client_steps.specs.Whole.{Whole}
use Rattle.dns_lookup_pages.specs.declared.short.Lacking.{Lacking}
use Rattle.dns_values.specs.Source.{Rose}
use Rattle.command_parts.specs.Ends.{IsSaid}
use Rattle.dns_lookup_run.specs.Worlds.{World, at_words, begun, is_message, said}
use Rattle.resolv_conf.specs.declared.conf.ResolvConf.{ResolvConf}
use Rattle.dns_lookup_run.specs.Asking.{Answer, AreAnswered, IsAskedFor, request_for}
use Rattle.dns_lookup_run.specs.Search.{tries_of}
use Rattle.dns_lookup_run.specs.Walks.{Walks}
use Rattle.dns_lookup_run.specs.declared.search.Try.{Try}
use Rattle.resolver_policy.specs.declared.found.Found.{Found}
use Rattle.dns_lookup_run.specs.Conf.{IsConfOf, IsTooLong}
use Rattle.dns_lookup_run.specs.Reports.{notes_text, tells}
use Rattle.dns_lookup_run.specs.Sentences.{answer_text, lack_status, lack_text, numbers_text, refused_text, unread_text, unwritten_text}
use Rattle.dns_lookup_words.specs.Sentences.{sentence}
use Rattle.dns_lookup_words.specs.Words.{LookupGives}
use Rattle.dns_lookup_words.specs.declared.lookup.Lookup.{Lookup}
use Rattle.dns_lookup_words.specs.declared.manner.Ask.{Ask}
use Rattle.dns_lookup_words.specs.declared.wrong.Refusal.{Refusal}

-- A message was answered: its page was written whole, or the sink failed.
abbrev pub HasPage : ℕ → Type 0
HasPage status = (status ≡ 0) ⊎ (status ≡ 4)

-- the statuses of a request that was asked
abbrev pub IsOfRequest : ℕ → Type 0
IsOfRequest status = (status ≡ 0) ⊎ ((status ≡ 4) ⊎ ((status ≡ 5) ⊎ ((status ≡ 6) ⊎ (status ≡ 7))))

-- the statuses of an answer without data where these alone were to be written
abbrev pub IsOfLack : ℕ → Type 0
IsOfLack status = (status ≡ 9) ⊎ ((status ≡ 10) ⊎ (status ≡ 11))

abbrev pub IsOfAsking : ℕ → Type 0
IsOfAsking status = IsOfRequest status ⊎ IsOfLack status

-- all was answered
abbrev pub IsDone : ℕ → Type 0
IsDone status = (status ≡ 0) ⊎ IsOfLack status

-- the statuses at which a sentence tells why nothing is written, or not all
abbrev pub TellsWhy : ℕ → Type 0
TellsWhy status = (status ≡ 2) ⊎ ((status ≡ 3) ⊎ ((status ≡ 4) ⊎ ((status ≡ 5) ⊎ ((status ≡ 7) ⊎ IsOfLack status))))

-- Why there is no configuration, and the sentence that tells it: reading it failed, or it is too long.
pub data HasNoConf (told : Option (List ℕ)) (faults faults_after : ℕ) (Told : List ℕ → Type 0) : Type 0 where
  unread : Rose faults faults_after → Told unread_text → HasNoConf told faults faults_after Told
  too_long : (line : List ℕ) → IfSome told (λ text. IsTooLong text line) → Told (refused_text line) → HasNoConf told faults faults_after Told

-- what is told of an answer without data
abbrev pub LackTold : (List ℕ → Type 0) → Option Lacking → Type 0
LackTold Told None = Unit {0}
LackTold Told (Some lack) = Told (lack_text lack)

-- All was asked for, and each answer is a message; the first without data, where these alone were to be written, says how it ends, and the sentence
-- that tells of it is told.
pub record IsAnsweredWhole (lookup : Lookup) (conf : ResolvConf) (status : ℕ) (Told : List ℕ → Type 0) (old new : World) : Type 0 where
  pub asks : List Ask
  pub answers : List Answer
  pub lack : Option Lacking
  pub walks : Walks (tries_of lookup.search conf.options lookup.asks) asks answers lack []
  pub asked : IsAskedFor lookup conf old new asks answers
  pub messages : All (λ answer. is_message answer ≡ true) answers
  pub ends : status ≡ lack_status lack
  pub told : LackTold Told lack

-- The first of it was asked for, and each answer is a message.
pub record IsAnsweredInPart (lookup : Lookup) (conf : ResolvConf) (old new : World) : Type 0 where
  pub asks : List Ask
  pub answers : List Answer
  pub lack : Option Lacking
  pub later : List Try
  pub walks : Walks (tries_of lookup.search conf.options lookup.asks) asks answers lack later
  pub asked : IsAskedFor lookup conf old new asks answers
  pub messages : All (λ answer. is_message answer ≡ true) answers

-- The first of it was asked for, and of the answers the last alone is no message; the sentence that tells why is told.
pub record IsUnanswered (lookup : Lookup) (conf : ResolvConf) (Told : List ℕ → Type 0) (old new : World) : Type 0 where
  pub asks : List Ask
  pub answers : List Answer
  pub last : Answer
  pub lack : Option Lacking
  pub later : List Try
  pub walks : Walks (tries_of lookup.search conf.options lookup.asks) asks (answers ++ last ∷ []) lack later
  pub asked : IsAskedFor lookup conf old new asks (answers ++ last ∷ [])
  pub messages : All (λ answer. is_message answer ≡ true) answers
  pub no_message : is_message last ≡ false
  pub said : Told (answer_text last)

-- The first of it was asked for, and while the next is, a number would pass 64 bits.
pub record IsStopped (lookup : Lookup) (conf : ResolvConf) (old new : World) : Type 0 where
  pub asks : List Ask
  pub answers : List Answer
  pub lack : Option Lacking
  pub one : Try
  pub later : List Try
  pub walks : Walks (tries_of lookup.search conf.options lookup.asks) asks answers lack (one ∷ later)
  pub waits : Option (List ℕ)
  pub mid : Scene
  pub answered : AreAnswered 0 asks answers (begun lookup conf old waits) mid
  pub left : Whole
  pub later_waits : Option (List ℕ)
  pub stops : StopsForNumbers (request_for one.ask) mid (scene left new.words new.deeds later_waits new.polls new.moments)

-- what a lookup over a configuration ends with, by its status, where this is what is told
pub record EndsSo (lookup : Lookup) (conf : ResolvConf) (status : ℕ) (Told : List ℕ → Type 0) (old new : World) : Type 0 where
  pub done : IsDone status → IsAnsweredWhole lookup conf status Told old new
  pub cut : status ≡ 4 → IsAnsweredInPart lookup conf old new
  pub no_reply : status ≡ 5 → IsUnanswered lookup conf Told old new
  pub numbers : status ≡ 7 → IsStopped lookup conf old new

-- the same, where this is what a sink holds and its count of faults, by which it is told why nothing is written, and what servers brought
abbrev pub EndsTold : {L : Type 0} → (L → Option (List ℕ)) → (L → ℕ) → Lookup → ResolvConf → ℕ → (before after : L) → (old new : World) → Type 0
EndsTold held faults lookup conf status before after old new = EndsSo lookup conf status (tells held faults conf.servers before after) old new

-- where pages are written nothing more is told, and where one is not written whole, or numbers are used up, that is
pub record IsToldSo {L : Type 0} (held : L → Option (List ℕ)) (faults : L → ℕ) (status : ℕ) (mid after : L) : Type 0 where
  pub quiet : status ≡ 0 → held after ≡ held mid
  pub unwritten : status ≡ 4 → said held faults mid after unwritten_text
  pub stops : status ≡ 7 → said held faults mid after numbers_text

-- What words end with, where this is what a sink holds and its count of faults: they are refused, or a lookup whose configuration can't be had, or
-- whose servers are asked once it was told of which lines of the configuration were not taken as they stand.
pub data WordsEnd {L : Type 0} (held : L → Option (List ℕ)) (faults : L → ℕ) (words : List (String Global)) (told : Option (List ℕ)) (status : ℕ) (before after : L) (old new : World) : Type 0 where
  no_memory : status ≡ 6 → WordsEnd held faults words told status before after old new
  refused : (refusal : Refusal) → LookupGives words (Err refusal) → status ≡ 2 → WordsEnd held faults words told status before after old new
  no_conf : (lookup : Lookup) → LookupGives words (Ok lookup) → status ≡ 3 → WordsEnd held faults words told status before after old new
  asked : (lookup : Lookup) (conf : Found) (left : ℕ → ℕ) (mid : L) → LookupGives words (Ok lookup) → IsConfOf lookup told old.words conf left
      → said held faults before mid (notes_text conf.notes) → (status ≢ 2) × (status ≢ 3)
      → EndsTold held faults lookup conf.conf status mid after (at_words left old) new → IsToldSo held faults status mid after
      → WordsEnd held faults words told status before after old new

-- The words are refused, and the sentence that says why is told.
pub record IsRefusalTold (words : List (String Global)) (before after : Option (List ℕ)) (faults faults_after : ℕ) : Type 0 where
  pub refusal : Refusal
  pub refused : LookupGives words (Err refusal)
  pub told : IsSaid (sentence words refusal) before after faults faults_after

-- The configuration that a source gives, read as the policy has it, and what is told of it.
use Rattle.std.specs.Prelude.{◌≡◌, ◌<◌, ℕ, List, [], length, true, false, Option, IfSome, codes}
use Rattle.command_parts.specs.Conf.{Configures, IsConfRefused}
use Rattle.command_parts.specs.Ends.{IsSaid}
use Rattle.dns_values.specs.Source.{Rose}
use Rattle.forward_conf.specs.Sentences.{notes_text}
use Rattle.forward_conf.specs.Settings.{conf_of, words_left}
use Rattle.forward_conf.specs.declared.cause.Cause.{Cause}
use Rattle.forward_conf.specs.declared.cause.Cause.TheVariants.{Refused, SourceFault, NoMemory}
use Rattle.forward_words.specs.declared.options.Options.{Options}
use Rattle.forward_words.specs.declared.options.Policy.{Policy}
use Rattle.forward_words.specs.declared.options.Policy.TheVariants.{Plain, Practice}
use Rattle.resolv_conf.specs.Final.{finalized}
use Rattle.resolv_conf.specs.declared.conf.ResolvConf.{ResolvConf}
use Rattle.resolver_policy.specs.Found.{IsFoundFrom, takes_no_server}
use Rattle.resolver_policy.specs.Practice.{practical_options}
use Rattle.resolver_policy.specs.declared.found.Found.{Found}
use Rattle.resolver_policy.specs.declared.note.Note.{Note}

-- The configuration is what is found in a text, finalized. Where lines name servers, one of them is taken.
pub record IsReadyIn (text : List ℕ) (conf : ResolvConf) : Type 0 where
  pub found : Found
  pub is_found : IsFoundFrom practical_options text found
  pub takes : takes_no_server found ≡ false
  pub conf_is : conf ≡ finalized found.conf

-- What a text configures: to the letter, or as it is found.
abbrev pub IsReadBy : Policy → List ℕ → ResolvConf → Type 0
IsReadBy Plain text conf = Configures text conf
IsReadBy Practice text conf = IsReadyIn text conf

-- What is found in a text is not taken, for its length or since no server is, and this line says why.
pub data IsFoundRefused (text line : List ℕ) : Type 0 where
  is_too_long : 16777216 < length text → line ≡ codes "input too long\n" → IsFoundRefused text line
  has_no_server : (found : Found) → IsFoundFrom practical_options text found → takes_no_server found ≡ true
      → line ≡ codes "no nameserver line is taken\n" → IsFoundRefused text line

-- Why a text is refused.
abbrev pub IsRefusedBy : Policy → (text line : List ℕ) → Type 0
IsRefusedBy Plain text line = IsConfRefused text line
IsRefusedBy Practice text line = IsFoundRefused text line

-- what is told of the lines of a text
abbrev pub AreNotesOf : Policy → List ℕ → List Note → Type 0
AreNotesOf Plain text notes = notes ≡ []
AreNotesOf Practice text notes = (found : Found) × IsFoundFrom practical_options text found × (notes ≡ found.notes)

-- It is told of lines: each in a line of its own, written whole, or the first of it all, and then the sink's count of faults rose.
pub record IsNoted (Notes : List Note → Type 0) (before after : Option (List ℕ)) (faults faults_after : ℕ) : Type 0 where
  pub notes : List Note
  pub are : Notes notes
  pub said : IsSaid (notes_text notes) before after faults faults_after

-- the lines of what a source tells
abbrev pub NotesIn : Policy → Option (List ℕ) → List Note → Type 0
NotesIn policy told notes = IfSome told (λ text. AreNotesOf policy text notes)

abbrev pub AnyNotes : List Note → Type 0
AnyNotes notes = Unit {0}

-- And behind that a sentence.
pub record IsTold (sentence : List ℕ) (before after : Option (List ℕ)) (faults faults_after : ℕ) : Type 0 where
  pub mid : Option (List ℕ)
  pub mid_faults : ℕ
  pub noted : IsNoted AnyNotes before mid faults mid_faults
  pub said : IsSaid sentence mid after mid_faults faults_after

-- The text is a configuration, and as the options say these servers are asked; `left` are the words that are not drawn by then.
pub record IsConfAsked (options : Options) (text : List ℕ) (words : ℕ → ℕ) (conf : ResolvConf) (left : ℕ → ℕ) : Type 0 where
  pub read : ResolvConf
  pub is_read : IsReadBy options.policy text read
  pub conf_is : conf ≡ conf_of options words read
  pub left_is : left ≡ words_left options words read

-- Why there is none.
abbrev pub IsReadCause : Policy → (told : Option (List ℕ)) (faults faults_after : ℕ) → Cause → Type 0
IsReadCause policy told faults faults_after (Refused line) = IfSome told (λ text. IsRefusedBy policy text line.items)
IsReadCause policy told faults faults_after SourceFault = Rose faults faults_after
IsReadCause policy told faults faults_after NoMemory = Unit {0}
IsReadCause policy told faults faults_after cause = ⊥

-- it is refused by this line, unless memory ran out
abbrev pub IsRefusalBy : List ℕ → Cause → Type 0
IsRefusalBy text (Refused line) = line.items ≡ text
IsRefusalBy text NoMemory = Unit {0}
IsRefusalBy text cause = ⊥

-- what was found is refused since it takes no server
abbrev pub IsUntakenIn : Found → Cause → Type 0
IsUntakenIn found (Refused line) = (takes_no_server found ≡ true) × (line.items ≡ codes "no nameserver line is taken\n")
IsUntakenIn found NoMemory = Unit {0}
IsUntakenIn found cause = ⊥

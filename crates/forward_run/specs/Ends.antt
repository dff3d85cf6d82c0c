-- Why the program ends without a line of answers, and what is told of it.
use Rattle.std.specs.Prelude.{◌≡◌, ◌⊎◌, ℕ, true, List, Option, IfSome}
use Rattle.client_request.specs.declared.fault.Fault.{Fault}
use Rattle.command_parts.specs.Ends.{IsSaid}
use Rattle.dns_values.specs.Source.{Rose}
use Rattle.dns_values.specs.declared.address.IpAddr.{IpAddr}
use Rattle.forward_conf.specs.Causes.{IsDeafCause}
use Rattle.forward_conf.specs.Itself.{asks_itself}
use Rattle.forward_conf.specs.Reading.{IsConfAsked, IsRefusedBy, IsTold}
use Rattle.forward_conf.specs.Sentences.{sentence_of, status_of}
use Rattle.forward_conf.specs.declared.cause.Cause.{Cause}
use Rattle.forward_conf.specs.declared.cause.Cause.TheVariants.{Refused, SourceFault, Itself, Deaf, NoMemory, NumbersUsed}
use Rattle.forward_words.specs.declared.options.Options.{Options}
use Rattle.forward_words.specs.declared.options.Policy.{Policy}
use Rattle.forward_words.specs.declared.words.Asked.{Asked}
use Rattle.resolv_conf.specs.declared.conf.ResolvConf.{ResolvConf}

-- a fact of what is asked for and of the octets that the source tells
abbrev pub IfAsked : Option Asked → Option (List ℕ) → (Asked → List ℕ → Type 0) → Type 0
IfAsked asked told P = IfSome asked (λ a. IfSome told (P a))

-- This line says why the text is refused, and it is written whole, or the first of it, and then the sink's count of faults rose.
pub record RefusalIsSaid (policy : Policy) (text : List ℕ) (before after : Option (List ℕ)) (faults faults_after : ℕ) : Type 0 where
  pub line : List ℕ
  pub refusal : IsRefusedBy policy text line
  pub said : IsSaid line before after faults faults_after

-- It couldn't be listened, or the forwarder would ask itself.
pub data IsDeaf (listened : List IpAddr) (port : ℕ) (conf : ResolvConf) (faults faults_after : ℕ) : Type 0 where
  front_fails : Rose faults faults_after → IsDeaf listened port conf faults faults_after
  would_ask_itself : asks_itself listened port conf ≡ true → IsDeaf listened port conf faults faults_after

-- the same of the text of a configuration
pub record IsNotListened (options : Options) (port : ℕ) (text : List ℕ) (words : ℕ → ℕ) (faults faults_after : ℕ) : Type 0 where
  pub conf : ResolvConf
  pub left : ℕ → ℕ
  pub conf_asked : IsConfAsked options text words conf left
  pub deaf : IsDeaf options.listened port conf faults faults_after

abbrev pub IsNotListenedBy : Options → Option Asked → (told : Option (List ℕ)) → (words : ℕ → ℕ) → (faults faults_after : ℕ) → Type 0
IsNotListenedBy options asked told words faults faults_after = IfAsked asked told (λ a text. IsNotListened options a.port text words faults faults_after)

-- This is why: the configuration that the text is, and what kept it from being listened.
pub record IsUnheard (options : Options) (port : ℕ) (text : List ℕ) (words : ℕ → ℕ) (gave : Fault → Type 0) (is_at : IpAddr → Type 0) (faults faults_after : ℕ) (cause : Cause) : Type 0 where
  pub conf : ResolvConf
  pub left : ℕ → ℕ
  pub conf_asked : IsConfAsked options text words conf left
  pub is_cause : IsDeafCause gave is_at faults faults_after options.listened port conf cause

-- Why the program ends, where the source tells this, these are the words, and the front tells this of its listening.
abbrev pub IsEndCause : (options : Options) (port : ℕ) (told : Option (List ℕ)) (words : ℕ → ℕ) (gave : Fault → Type 0) (is_at : IpAddr → Type 0) (faults faults_after : ℕ)
    (source_faults source_faults_after : ℕ) → Cause → Type 0
IsEndCause options port told words gave is_at faults faults_after source_faults source_faults_after (Refused line) = IfSome told (λ text. IsRefusedBy options.policy text line.items)
IsEndCause options port told words gave is_at faults faults_after source_faults source_faults_after SourceFault = Rose source_faults source_faults_after
IsEndCause options port told words gave is_at faults faults_after source_faults source_faults_after NoMemory = Unit {0}
IsEndCause options port told words gave is_at faults faults_after source_faults source_faults_after NumbersUsed = Unit {0}
IsEndCause options port told words gave is_at faults faults_after source_faults source_faults_after cause =
    IfSome told (λ text. IsUnheard options port text words gave is_at faults faults_after cause)

-- the statuses of such an end, but for want of memory
abbrev pub EndsBecause : ℕ → Type 0
EndsBecause n = (n ≡ 1) ⊎ ((n ≡ 3) ⊎ ((n ≡ 5) ⊎ (n ≡ 7)))

-- There is a cause of this status, and its sentence is told.
pub record IsWhy (IsCause : Cause → Type 0) (listened : List IpAddr) (port : ℕ) (status : ℕ) (before after : Option (List ℕ)) (faults faults_after : ℕ) : Type 0 where
  pub cause : Cause
  pub status_is : status_of cause ≡ status
  pub is_cause : IsCause cause
  pub told : IsTold (sentence_of listened port cause) before after faults faults_after

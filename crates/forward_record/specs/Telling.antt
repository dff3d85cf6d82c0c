-- What is told to the sink of errors where a forwarder is recorded.
use Rattle.std.specs.Prelude.{◌≡◌, ℕ, ◌≤◌, List, Option}
use Rattle.command_parts.specs.Ends.{IsSaid}
use Rattle.dns_values.specs.Sink.{with_octets}
use Rattle.dns_values.specs.declared.address.IpAddr.{IpAddr}
use Rattle.forward_conf.specs.Reading.{AnyNotes, IsNoted}
use Rattle.forward_conf.specs.Sentences.{sentence_of, status_of}
use Rattle.forward_conf.specs.declared.cause.Cause.{Cause}
use Rattle.resolver_policy.specs.declared.note.Note.{Note}

-- Something was told, or nothing.
pub record HasTold (before after : Option (List ℕ)) (faults faults_after : ℕ) : Type 0 where
  pub text : List ℕ
  pub told : after ≡ with_octets text before
  pub count : faults ≤ faults_after

-- It was told of lines of the configuration, and then it may have been told of the record's end.
pub record IsNotedThen (Notes : List Note → Type 0) (before after : Option (List ℕ)) (faults faults_after : ℕ) : Type 0 where
  pub mid : Option (List ℕ)
  pub mid_faults : ℕ
  pub noted : IsNoted Notes before mid faults mid_faults
  pub more : HasTold mid after mid_faults faults_after

-- And behind that a sentence.
pub record IsTold (sentence : List ℕ) (before after : Option (List ℕ)) (faults faults_after : ℕ) : Type 0 where
  pub mid : Option (List ℕ)
  pub mid_faults : ℕ
  pub noted : IsNotedThen AnyNotes before mid faults mid_faults
  pub said : IsSaid sentence mid after mid_faults faults_after

abbrev pub is_told : {L : Type 0} → (L → Option (List ℕ)) → (L → ℕ) → (old new : L) → (sentence : List ℕ) → Type 0
is_told held faults old new sentence = IsTold sentence (held old) (held new) (faults old) (faults new)

-- There is a cause of this status, and its sentence is told.
pub record IsWhy (IsCause : Cause → Type 0) (listened : List IpAddr) (port : ℕ) (status : ℕ) (before after : Option (List ℕ)) (faults faults_after : ℕ) : Type 0 where
  pub cause : Cause
  pub status_is : status_of cause ≡ status
  pub is_cause : IsCause cause
  pub told : IsTold (sentence_of listened port cause) before after faults faults_after

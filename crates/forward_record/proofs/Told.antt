-- What is told of a record that ends, and of an end.
use Rattle.std.proofs.Common.{◌≡◌, ◌≤◌, ◌⊎◌, ℕ, List, [], ◌++◌, take, Option, None, Some, Result, Ok, Err, refl, sym, ◌∙◌, ap, append_assoc, arith, rules}
use Rattle.std.specs.Prelude.{IfErr}
use Rattle.command_parts.specs.Ends.{IsBegun, IsSaid}
use Rattle.dns_values.specs.Sink.{with_octets}
use Rattle.dns_values.specs.declared.address.IpAddr.{IpAddr}
use Rattle.forward_conf.specs.Reading.{AnyNotes, IsNoted, NotesIn}
use Rattle.forward_conf.specs.Sentences.{sentence_of, status_of}
use Rattle.forward_conf.specs.declared.cause.Cause.{Cause}
use Rattle.forward_run.specs.Ends.{EndsBecause}
use Rattle.forward_run.proofs.Ends.{because, not_six}
use Rattle.forward_words.specs.declared.options.Policy.{Policy}
use Rattle.resolver_policy.specs.declared.note.Note.{Note}
use Rattle.forward_record.specs.Serving.{IfSpeaks}
use Rattle.forward_record.specs.Telling.{HasTold, IsNotedThen, IsTold, IsWhy}
use Rattle.forward_record.specs.declared.serving.Unserved.{Unserved}
use Rattle.forward_record.specs.declared.serving.Unserved.TheVariants.{Ends, NotRecorded}

with_nothing : (held : Option (List ℕ)) → held ≡ with_octets [] held
with_nothing None = refl
with_nothing (Some xs) = ap (λ (ys : List ℕ). Some ys) (search rules)

pub told_nothing : (held : Option (List ℕ)) (faults : ℕ) → HasTold held held faults faults
told_nothing held faults = record { text = []; told = with_nothing held; count = omega arith }

pub told_some : (line : List ℕ) (before after : Option (List ℕ)) (faults faults_after : ℕ) → IsBegun line before after → faults ≤ faults_after → HasTold before after faults faults_after
told_some line before after faults faults_after begun count = record { text = take begun.count line; told = begun.written; count = count }

both_told : (first second : List ℕ) (held : Option (List ℕ)) → with_octets second (with_octets first held) ≡ with_octets (first ++ second) held
both_told first second None = refl
both_told first second (Some xs) = ap (λ (ys : List ℕ). Some ys) (append_assoc xs first second)

-- one thing behind another
pub told_more : (before mid after : Option (List ℕ)) (faults mid_faults faults_after : ℕ) → HasTold before mid faults mid_faults → HasTold mid after mid_faults faults_after → HasTold before after faults faults_after
told_more before mid after faults mid_faults faults_after h k = record {
  text = h.text ++ k.text;
  told = k.told ∙ ap (λ (held : Option (List ℕ)). with_octets k.text held) h.told ∙ both_told h.text k.text before;
  count = omega (arith, h.count, k.count);
}

-- behind the lines of the configuration
pub noted_then : (Notes : List Note → Type 0) (before mid after : Option (List ℕ)) (faults mid_faults faults_after : ℕ) → IsNoted Notes before mid faults mid_faults → HasTold mid after mid_faults faults_after
    → IsNotedThen Notes before after faults faults_after
noted_then Notes before mid after faults mid_faults faults_after notes more = record { mid = mid; mid_faults = mid_faults; noted = notes; more = more }

pub any_noted_then : (policy : Policy) (told before after : Option (List ℕ)) (faults faults_after : ℕ) → IsNotedThen (NotesIn policy told) before after faults faults_after
    → IsNotedThen AnyNotes before after faults faults_after
any_noted_then policy told before after faults faults_after h =
    record { mid = h.mid; mid_faults = h.mid_faults; noted = record { notes = h.noted.notes; are = tt; said = h.noted.said }; more = h.more }

speaks : (e : Unserved) (P : Type 0) → P → IfSpeaks e P
speaks (Ends cause) P p = λ _. p
speaks (NotRecorded why) P p = p

pub all_speak : {T : Type 0} (r : Result T Unserved) (P : Type 0) → P → IfErr r (λ e. IfSpeaks e P)
all_speak (Ok t) P p = tt
all_speak (Err e) P p = speaks e P p

-- and behind that a sentence
pub told_behind : (sentence : List ℕ) (before mid after : Option (List ℕ)) (faults mid_faults faults_after : ℕ)
    → IsNotedThen AnyNotes before mid faults mid_faults → IsSaid sentence mid after mid_faults faults_after → IsTold sentence before after faults faults_after
told_behind sentence before mid after faults mid_faults faults_after notes said = record { mid = mid; mid_faults = mid_faults; noted = notes; said = said }

pub why_so : (IsCause : Cause → Type 0) (listened : List IpAddr) (port n : ℕ) (c : Cause) (before mid after : Option (List ℕ)) (faults mid_faults faults_after : ℕ)
    → (n ≡ status_of c) ⊎ (n ≡ 6) → EndsBecause n → IsCause c → ((status_of c ≡ 6 → ⊥) → IsNotedThen AnyNotes before mid faults mid_faults)
    → ((n ≡ 6 → ⊥) → IsSaid (sentence_of listened port c) mid after mid_faults faults_after) → IsWhy IsCause listened port n before after faults faults_after
why_so IsCause listened port n c before mid after faults mid_faults faults_after status ends is notes said =
    let other : n ≡ 6 → ⊥ = not_six n ends in
    let same : status_of c ≡ n = because c n status other in
    record {
      cause = c;
      status_is = same;
      is_cause = is;
      told = told_behind (sentence_of listened port c) before mid after faults mid_faults faults_after (notes (λ six. other (sym same ∙ six))) (said other);
    }

-- What is told of a configuration that is read.
use Rattle.std.proofs.Common.{rules, ◌≡◌, ◌≢◌, inl, ℕ, List, [], ◌++◌, Option, None, Some, Result, Ok, Err, refl, ap}
use Rattle.std.specs.Prelude.{IfErr, IfSome}
use Rattle.command_parts.specs.Ends.{IsSaid}
use Rattle.dns_values.specs.Sink.{with_octets}
use Rattle.forward_conf.specs.Reading.{AnyNotes, IsNoted, IsReadCause, IsUntakenIn, has_no_server}
use Rattle.forward_conf.specs.Sentences.{status_of}
use Rattle.forward_conf.specs.declared.cause.Cause.{Cause}
use Rattle.forward_conf.specs.declared.cause.Cause.TheVariants.{Refused, SourceFault, Itself, Deaf, NoMemory, NumbersUsed}
use Rattle.forward_words.specs.declared.options.Policy.TheVariants.{Practice}
use Rattle.resolv_conf.specs.declared.conf.ResolvConf.{ResolvConf}
use Rattle.resolver_policy.specs.Found.{IsFoundFrom}
use Rattle.resolver_policy.specs.Practice.{practical_options}
use Rattle.resolver_policy.specs.declared.found.Found.{Found}

append_nil : (xs : List ℕ) → xs ≡ xs ++ []
append_nil xs = search rules

with_nothing : (held : Option (List ℕ)) → held ≡ with_octets [] held
with_nothing None = refl
with_nothing (Some xs) = ap (λ (ys : List ℕ). Some ys) (append_nil xs)

said_nothing : (held : Option (List ℕ)) (faults : ℕ) → IsSaid [] held held faults faults
said_nothing held faults = record { begun = record { count = 0; written = with_nothing held }; whole_or_fault = inl (with_nothing held) }

-- nothing is told
pub nothing_noted : (held : Option (List ℕ)) (faults : ℕ) → IsNoted AnyNotes held held faults faults
nothing_noted held faults = record { notes = []; are = tt; said = said_nothing held faults }

pub noted_anyway : {T : Type 0} (r : Result T Cause) (held : Option (List ℕ)) (faults : ℕ) → IfErr r (λ cause. status_of cause ≢ 6 → IsNoted AnyNotes held held faults faults)
noted_anyway (Ok t) held faults = tt
noted_anyway (Err cause) held faults = λ _. nothing_noted held faults

-- what was found takes no server
no_server : (c : Cause) (found : Found) (told : Option (List ℕ)) (faults faults_after : ℕ) → IfSome told (λ text. IsFoundFrom practical_options text found)
    → IsUntakenIn found c → IsReadCause Practice told faults faults_after c
no_server (Refused line) found None faults faults_after h is = tt
no_server (Refused line) found (Some text) faults faults_after h is = has_no_server found h is.0 is.1
no_server SourceFault found told faults faults_after h is = absurd is
no_server (Itself server) found told faults faults_after h is = absurd is
no_server (Deaf at fault) found told faults faults_after h is = absurd is
no_server NoMemory found told faults faults_after h is = tt
no_server NumbersUsed found told faults faults_after h is = absurd is

pub untaken : (r : Result ResolvConf Cause) (found : Found) (told : Option (List ℕ)) (faults faults_after : ℕ) → IfSome told (λ text. IsFoundFrom practical_options text found)
    → IfErr r (IsUntakenIn found) → IfErr r (IsReadCause Practice told faults faults_after)
untaken (Ok conf) found told faults faults_after h is = is
untaken (Err c) found told faults faults_after h is = no_server c found told faults faults_after h is

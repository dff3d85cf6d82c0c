-- Why the program ends without a line of answers.
use Rattle.std.specs.Prelude.{◌≡◌, ◌⊎◌, ℕ, List, Option, Some, IfSome}
use Rattle.client_request.specs.declared.fault.Fault.{Fault}
use Rattle.dns_values.specs.declared.address.IpAddr.{IpAddr}
use Rattle.dns_values.specs.Source.{Rose}
use Rattle.forward_conf.specs.Itself.{asked_itself}
use Rattle.forward_conf.specs.declared.cause.Cause.{Cause}
use Rattle.forward_conf.specs.declared.cause.Cause.TheVariants.{Refused, SourceFault, Itself, Deaf, NoMemory, NumbersUsed}
use Rattle.resolv_conf.specs.declared.conf.ResolvConf.{ResolvConf}

-- nothing is written to the output at these statuses
abbrev pub IsSilent : ℕ → Type 0
IsSilent n = (n ≡ 2) ⊎ ((n ≡ 3) ⊎ (n ≡ 5))

-- Why it can't be listened: the first server of the configuration that is the forwarder itself, or the fault that the front gave and counted, and the address that it named.
abbrev pub IsDeafCause : (gave : Fault → Type 0) (is_at : IpAddr → Type 0) (faults faults_after : ℕ) (listened : List IpAddr) (port : ℕ) → ResolvConf → Cause → Type 0
IsDeafCause gave is_at faults faults_after listened port conf (Itself server) = asked_itself listened port conf ≡ Some server
IsDeafCause gave is_at faults faults_after listened port conf (Deaf at fault) = Rose faults faults_after × gave fault × IfSome at is_at
IsDeafCause gave is_at faults faults_after listened port conf cause = ⊥

-- the same, or memory or numbers are used up
abbrev pub IsServeCause : (gave : Fault → Type 0) (is_at : IpAddr → Type 0) (faults faults_after : ℕ) (listened : List IpAddr) (port : ℕ) → ResolvConf → Cause → Type 0
IsServeCause gave is_at faults faults_after listened port conf NoMemory = Unit {0}
IsServeCause gave is_at faults faults_after listened port conf NumbersUsed = Unit {0}
IsServeCause gave is_at faults faults_after listened port conf cause = IsDeafCause gave is_at faults faults_after listened port conf cause

-- the client stops: memory or numbers are used up
abbrev pub IsStop : Cause → Type 0
IsStop NoMemory = Unit {0}
IsStop NumbersUsed = Unit {0}
IsStop cause = ⊥

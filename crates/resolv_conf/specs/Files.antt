-- Files that are opened and read.
use Rattle.std.specs.Prelude.{◌≡◌, ◌≢◌, ℕ, List, [], Option, Some, None, Result, Err, codes}
use Rattle.dns_values.specs.Source.{Rose}
use Rattle.resolv_conf.specs.declared.conf.ResolvConf.{ResolvConf}
use Rattle.resolv_conf.specs.declared.error.Error.{Error}
use Rattle.resolv_conf.specs.declared.error.Error.TheVariants.{Io, NoMemory}
use Rattle.resolv_conf.specs.declared.error.IoFault.TheVariants.{Read}
use Rattle.resolv_conf.specs.Conf.{default_options}
use Rattle.resolv_conf.specs.Final.{finalized}
use Rattle.resolv_conf.specs.Parse.{ParseAnswers}

-- What reading a file answers, of these octets or none.
abbrev pub FileAnswers : Option (List ℕ) → ResolvConf → Result (Unit {0}) Error → ResolvConf → Type 0
FileAnswers None conf answer new = (answer ≡ Err (Io Read)) × (new ≡ conf)
FileAnswers (Some text) conf answer new = ParseAnswers text conf answer new

-- the configuration that nothing was read into
abbrev pub empty_conf : ResolvConf
empty_conf = record { servers = []; options = default_options }

-- where the system's configuration lies
abbrev pub system_file : List ℕ
system_file = codes "/etc/resolv.conf"

-- What was read of a file, whatever was answered but want of memory, and then finalized. A read fault was answered only where
-- the count of faults rose.
pub record IsDefaultOf (file : Option (List ℕ)) (faults faults_after : ℕ) (conf : ResolvConf) : Type 0 where
  pub read : ResolvConf
  pub answer : Result (Unit {0}) Error
  pub answered : FileAnswers file empty_conf answer read
  pub had_memory : answer ≢ Err NoMemory
  pub had_fault : answer ≡ Err (Io Read) → Rose faults faults_after
  pub is : conf ≡ finalized read

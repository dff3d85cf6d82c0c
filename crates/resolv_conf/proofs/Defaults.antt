-- What the file of the system's configuration gives.
use Rattle.std.proofs.Common.{◌≡◌, ◌≢◌, ℕ, List, Option, Some, None, IfSome, Result, Err, subst}
use Rattle.resolv_conf.specs.declared.conf.ResolvConf.{ResolvConf}
use Rattle.resolv_conf.specs.declared.error.Error.{Error}
use Rattle.resolv_conf.specs.declared.error.Error.TheVariants.{Io, NoMemory}
use Rattle.resolv_conf.specs.declared.error.IoFault.TheVariants.{Read}
use Rattle.dns_values.specs.Source.{Rose}
use Rattle.resolv_conf.specs.Final.{finalized}
use Rattle.resolv_conf.specs.Files.{FileAnswers, IsDefaultOf, empty_conf}

pub default_of : (files : Option (List ℕ → Option (List ℕ))) (path : List ℕ) (start read conf : ResolvConf) (answer : Result (Unit {0}) Error) (faults faults_after : ℕ)
    → start ≡ empty_conf → IfSome files (λ file_at. FileAnswers (file_at path) start answer read) → answer ≢ Err NoMemory
    → (answer ≡ Err (Io Read) → Rose faults faults_after)
    → conf ≡ finalized read → IfSome files (λ file_at. IsDefaultOf (file_at path) faults faults_after conf)
default_of None path start read conf answer faults faults_after s h m r e = tt
default_of (Some file_at) path start read conf answer faults faults_after s h m r e = record {
  read = read;
  answer = answer;
  answered = subst (λ (c : ResolvConf). FileAnswers (file_at path) c answer read) s h;
  had_memory = m;
  had_fault = r;
  is = e;
}

-- How the count of faults rises.
use Rattle.std.proofs.Common.{◌≡◌, ℕ, ◌≤◌, Ok, Err, arith}
use Rattle.std.specs.Prelude.{IfErr, OnErr}
use Rattle.dns_values.specs.Source.{Rose}
use Rattle.resolv_lookup.specs.Asked.{Got, IsCounted}
use Rattle.resolv_lookup.specs.ListAnswers.{faults_after}

-- the count never falls
pub never_falls : (got : Got) (old new : ℕ) → new ≡ faults_after got old → OnErr got (Rose old new) → old ≤ new
never_falls (Ok octets) old new is rose = omega arith
never_falls (Err fault) old new is rose = rose.0

-- and rises with a fault
pub is_counted : (got : Got) (old new : ℕ) → OnErr got (Rose old new) → IfErr got (IsCounted old new)
is_counted (Ok octets) old new rose = rose
is_counted (Err fault) old new rose = λ other. rose

-- What leaves with a result, and which results wait for others.
use Rattle.std.proofs.Common.{◌≡◌, ℕ, Bool, false, true, ◌&&◌, ◌||◌, ◌==◌, Option, Some, None, Result, Ok, Err, refl, ap₂}
use Rattle.dns_base.specs.OptRecord.{opt_rcode}
use Rattle.client_request.specs.Request.{Request}
use Rattle.client_request.specs.declared.error.Error.{Error}
use Rattle.client_choice.specs.Choice as choice
use Rattle.client_settings.specs.Settings.{RedundantSettings}
use Rattle.right_trace.specs.Keys.{is_cacheable}
use Rattle.right_trace.specs.Messages.{Octets}
use Rattle.right_trace.specs.Settings.{Settings}
use Rattle.right_trace.specs.Validity.{is_deferred, waits_for_others}
use Rattle.proof_right.specs.machine.Client.{outcome, outcome_of, validity_of}
use Rattle.proof_parts.specs.Chains.{part_of}
use Rattle.proof_choice.specs.Choosing.{SameDeferring}

-- What is put off by the choice waits for others in the machine.
pub deferred_alike : (here : RedundantSettings) (there : Settings) → SameDeferring here there → (r : Result Octets Error) → choice.is_deferred here (part_of r) ≡ waits_for_others there r
unfolding is_deferred
deferred_alike here there same (Ok m) = ap₂ (λ a b. (a && (opt_rcode m == 5)) || (b && (opt_rcode m == 2))) same.refused same.servfail
deferred_alike here there same (Err e) = same.errors

-- what leaves is of the same request
pub outcome_request : (st : Settings) (k : ℕ) (q : Request) (r : Result Octets Error) → (outcome st k q r).request ≡ k
outcome_request st k q r = by (is_cacheable q) (validity_of st r)
  where
    by : (cacheable : Bool) (v : Option ℕ) → (outcome_of cacheable v k q r).request ≡ k
    by false v = refl
    by true (Some n) = refl
    by true None = refl

-- The name of a service that is not made.
use Rattle.std.proofs.Common.{◌≡◌, ℕ, Err, inl, inr, refl, ap, arith}
use Rattle.dns_names.specs.Name.{Labels}
use Rattle.resolv_lookup.specs.declared.fault.SrvError.{SrvError}
use Rattle.resolv_lookup.specs.declared.fault.SrvError.TheVariants as errors
use Rattle.resolv_lookup.specs.declared.resolver.Asking.{Asking}
use Rattle.resolv_lookup.specs.Services.{IsNameFault, IsLong, Fits, LooksUpSrv}

-- A name that is not too long is not made where memory runs out, and then nothing is asked.
pub not_made : {R : Type 0} (asks : R → Asking → R → Type 0) (service name : Labels) (port : ℕ) (resolver : R) (words : ℕ → ℕ) (error : SrvError) → IsNameFault error
    → (error ≡ errors.LongName → IsLong service) → Fits service
    → LooksUpSrv asks service name port resolver resolver words words (Err error)
not_made asks service name port resolver words error faults long short =
    elim faults [
      | inl is_long ↦ absurd (omega (arith, long is_long))
      | inr starved ↦ inr (ap Err starved, refl, refl)
    ]

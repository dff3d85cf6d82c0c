-- How a forwarder ends that is not served.
use Rattle.std.proofs.Common.{◌≡◌, ◌⊎◌, inl, inr, ℕ, Result, Ok, Err, arith}
use Rattle.std.specs.Prelude.{IfErr}
use Rattle.forward_conf.specs.declared.cause.Cause.{Cause}
use Rattle.dns_record.specs.declared.ended.Refused.{Refused}
use Rattle.forward_record.specs.Serving.{IfEnds, IfNotRecorded}
use Rattle.forward_record.specs.declared.serving.Unserved.{Unserved}
use Rattle.forward_record.specs.declared.serving.Unserved.TheVariants.{Ends, NotRecorded}

if_ends : (P Q : Cause → Type 0) → ((cause : Cause) → P cause → Q cause) → (e : Unserved) → IfEnds e P → IfEnds e Q
if_ends P Q f (Ends cause) h = f cause h
if_ends P Q f (NotRecorded why) h = h

pub ends_weaker : {T : Type 0} (r : Result T Unserved) (P Q : Cause → Type 0) → ((cause : Cause) → P cause → Q cause) → IfErr r (λ e. IfEnds e P) → IfErr r (λ e. IfEnds e Q)
ends_weaker (Ok t) P Q f h = h
ends_weaker (Err e) P Q f h = if_ends P Q f e h

if_not_recorded : (P Q : Refused → Type 0) → ((why : Refused) → P why → Q why) → (e : Unserved) → IfNotRecorded e P → IfNotRecorded e Q
if_not_recorded P Q f (Ends cause) h = h
if_not_recorded P Q f (NotRecorded why) h = f why h

pub not_recorded_weaker : {T : Type 0} (r : Result T Unserved) (P Q : Refused → Type 0) → ((why : Refused) → P why → Q why) → IfErr r (λ e. IfNotRecorded e P) → IfErr r (λ e. IfNotRecorded e Q)
not_recorded_weaker (Ok t) P Q f h = h
not_recorded_weaker (Err e) P Q f h = if_not_recorded P Q f e h

-- a forwarder that can't be recorded does not end as one that is served
pub refusal_not_served : (n : ℕ) → (n ≡ 8) ⊎ (n ≡ 6) → (n ≡ 0) ⊎ (n ≡ 4) → ⊥
refusal_not_served n (inl e) (inl h) = omega arith
refusal_not_served n (inl e) (inr h) = omega arith
refusal_not_served n (inr e) (inl h) = omega arith
refusal_not_served n (inr e) (inr h) = omega arith

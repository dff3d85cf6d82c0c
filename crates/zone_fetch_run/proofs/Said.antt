-- What is told by sentences where a zone may be put in the place of a file.
use Rattle.std.proofs.Common.{◌≡◌, ◌≢◌, ◌⊎◌, inl, inr, ℕ, ◌≤◌, Bool, List, Option, None, Some, String, Global, refl, sym, subst, arith}
use Rattle.dns_values.specs.Source.{Rose}
use Rattle.zone_records.specs.declared.record.ZoneRecord.{ZoneRecord}
use Rattle.zone_fetch_run.specs.Ends.{IsSpared, PutsInPart}
use Rattle.zone_fetch_run.specs.Stops.{Tells}
use Rattle.zone_fetch_run.proofs.Writing.{rose_later}

-- nothing more was told
pub still_told : (line : List ℕ) (before mid after : Option (List ℕ)) (faults faults_mid faults_after : ℕ) → (after ≡ mid) × (faults_after ≡ faults_mid) → Tells line before mid faults faults_mid
    → Tells line before after faults faults_after
still_told line before mid after faults faults_mid faults_after same told =
    subst (λ (n : ℕ). Tells line before after faults n) (sym same.1) (subst (λ (held : Option (List ℕ)). Tells line before held faults faults_mid) (sym same.0) told)

pub spared_same : (output : Option (String Global)) (held : Option (List ℕ)) → IsSpared output held held
spared_same None held = tt
spared_same (Some path) held = refl

pub spared_of : (output : Option (String Global)) (is_loaded : Bool) (records : List ZoneRecord) (before after : Option (List ℕ)) → PutsInPart output is_loaded records before after → IsSpared output before after
spared_of None is_loaded records before after part = tt
spared_of (Some path) is_loaded records before after part = part

-- a fault behind another call is one of both
pub flushed_or_rose : (P : Type 0) (a b c : ℕ) → a ≤ b → P ⊎ Rose b c → P ⊎ Rose a c
flushed_or_rose P a b c few (inl p) = inl p
flushed_or_rose P a b c few (inr rose) = inr (rose_later a b c few rose)

pub kept_at_four : (n : ℕ) (P : Type 0) → (n ≢ 0 → P) → n ≡ 4 → P
kept_at_four n P kept four = kept (λ zero. absurd (omega arith))

pub no_zero_at_six : (n : ℕ) → n ≡ 6 → n ≢ 0
no_zero_at_six n six zero = omega arith

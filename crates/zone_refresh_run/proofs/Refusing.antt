-- Why there is no list, by its status.
use Rattle.std.proofs.Common.{◌≡◌, ◌≢◌, ◌⊎◌, inl, inr, ℕ, List, Option, refl, arith}
use Rattle.command_parts.specs.Ends.{IsSaid}
use Rattle.zone_list.specs.declared.fault.ListFault.TheVariants as lists
use Rattle.zone_refresh_run.specs.Files.{Files}
use Rattle.zone_refresh_run.specs.Listing.{IsUnlisted, RefusesList, status_of}
use Rattle.zone_refresh_run.specs.Sentences.{unlisted_sentence}
use Rattle.zone_refresh_run.specs.declared.files.FileFault.TheVariants.{Unread, NoMemory}
use Rattle.zone_refresh_run.specs.declared.listing.Unlisted.{Unlisted}
use Rattle.zone_refresh_run.specs.declared.listing.Unlisted.TheVariants as unlisted

pub statuses_are : (u : Unlisted) → (status_of u ≡ 1) ⊎ ((status_of u ≡ 3) ⊎ (status_of u ≡ 6))
statuses_are (unlisted.File Unread) = inr (inl refl)
statuses_are (unlisted.File NoMemory) = inr (inr refl)
statuses_are (unlisted.List (lists.Wrong wrong)) = inl refl
statuses_are (unlisted.List lists.TooLong) = inl refl
statuses_are (unlisted.List lists.NoMemory) = inr (inr refl)
statuses_are unlisted.NoZone = inl refl

-- a status that is told of: itself, or memory ran out
pub told_statuses : (n told : ℕ) → (told ≡ n) ⊎ (told ≡ 6) → (n ≡ 1) ⊎ ((n ≡ 3) ⊎ (n ≡ 6)) → (told ≢ 0) × (told ≢ 2)
told_statuses n told (inl a) (inl b) = (λ e. omega arith, λ e. omega arith)
told_statuses n told (inl a) (inr (inl b)) = (λ e. omega arith, λ e. omega arith)
told_statuses n told (inl a) (inr (inr b)) = (λ e. omega arith, λ e. omega arith)
told_statuses n told (inr a) b = (λ e. omega arith, λ e. omega arith)

pub told_one : (n told : ℕ) → (told ≡ n) ⊎ (told ≡ 6) → told ≡ 1 → n ≡ 1
told_one n told (inl a) one = omega arith
told_one n told (inr a) one = absurd (omega arith)

pub refuses_list : (path : List ℕ) (files : Files) (reads reads_after : ℕ) (u : Unlisted) (before after : Option (List ℕ)) (faults faults_after : ℕ) → IsUnlisted path files reads reads_after u → status_of u ≡ 1
    → IsSaid (unlisted_sentence path u) before after faults faults_after → RefusesList path files before after faults faults_after
refuses_list path files reads reads_after (unlisted.File Unread) before after faults faults_after of one said = absurd (omega arith)
refuses_list path files reads reads_after (unlisted.File NoMemory) before after faults faults_after of one said = absurd (omega arith)
refuses_list path files reads reads_after (unlisted.List (lists.Wrong wrong)) before after faults faults_after of one said =
    record { fault = unlisted.List (lists.Wrong wrong); text = of.0; at = of.1; is = refl; said = said }
refuses_list path files reads reads_after (unlisted.List lists.TooLong) before after faults faults_after of one said =
    record { fault = unlisted.List lists.TooLong; text = of.0; at = of.1; is = refl; said = said }
refuses_list path files reads reads_after (unlisted.List lists.NoMemory) before after faults faults_after of one said = absurd (omega arith)
refuses_list path files reads reads_after unlisted.NoZone before after faults faults_after of one said =
    record { fault = unlisted.NoZone; text = of.text; at = of.at; is = refl; said = said }

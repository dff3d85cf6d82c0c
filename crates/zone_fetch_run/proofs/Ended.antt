-- How the program ends, from the parts that it ran.
use Rattle.std.proofs.Common.{◌≡◌, ◌≢◌, ◌⊎◌, inl, inr, ℕ, Option, Err, subst, sym, ap, ◌∙◌, arith}
use Rattle.std.proofs.lemmas.Bool.Decides.{eqb_tells}
use Rattle.dns_values.specs.Source.{Rose}
use Rattle.dns_values.specs.declared.numbers.Status.{Status}
use Rattle.zone_records.specs.Folding.{Zone}
use Rattle.zone_transfer.specs.Turning.{Scene}
use Rattle.zone_fetch_run.specs.Ends.{CommandEnds, End, FetchEnds, Files, HasStopped, HasZone, RoseUnread, Texts, is_out, is_refused, is_stopped, is_unread, is_unwritten, is_written}
use Rattle.zone_fetch_run.specs.Ends as ends
use Rattle.zone_fetch_run.specs.Stops.{status_of}
use Rattle.zone_fetch_run.specs.Words.{IsCommand}
use Rattle.zone_fetch_run.specs.declared.command.Command.{Command}
use Rattle.zone_fetch_run.specs.declared.leading.Detour.{Detour}
use Rattle.zone_fetch_run.specs.declared.stop.Stop.{Stop}
use Rattle.zone_fetch_run.specs.declared.stop.Stop.TheVariants.{Unread}
use Rattle.zone_fetch_run.specs.declared.wrong.Refusal.{Refusal}

-- the stop at which the files' faults rose is the one that is told
pub rose_at : (faults faults_after : ℕ) (stop : Stop) → RoseUnread faults faults_after stop → stop ≡ Unread → Rose faults faults_after
rose_at faults faults_after stop rose is = subst (RoseUnread faults faults_after) is rose

pub not_three : (n : ℕ) → (n ≡ 0) ⊎ ((n ≡ 4) ⊎ (n ≡ 6)) → n ≡ 3 → ⊥
not_three n (inl a) e = omega arith
not_three n (inr (inl a)) e = omega arith
not_three n (inr (inr a)) e = omega arith

module _ (words : Texts) (files : Files) (random : ℕ → ℕ) (Told : End → Type 0) (status : ℕ) (old new later later_new : Scene) where
  pub ended_refused : (refusal : Refusal) → IsCommand words (Err refusal) → (status ≡ 2) ⊎ (status ≡ 6) → (status ≡ 2 → Told (ends.refused refusal)) → Told ends.unread
      → FetchEnds words files random Told status old new later later_new
  ended_refused refusal judged (inl two) tells nothing = is_refused refusal judged two (tells two)
  ended_refused refusal judged (inr six) tells nothing = is_unread six nothing

module _ (command : Command) (files : Files) (random : ℕ → ℕ) (Told : End → Type 0) (status : ℕ) (old new later later_new : Scene) where
  pub ended_stopped : (detour : Option Detour) (stop : Stop) → HasStopped command files random detour stop old new later later_new
      → (status ≡ status_of stop) ⊎ (status ≡ 6) → (status ≢ 6 → Told (ends.stopped command detour stop)) → Told (ends.ran_out command) → CommandEnds command files random Told status old new later later_new
  ended_stopped detour stop h (inr six) tells out = is_out six out
  ended_stopped detour stop h (inl is) tells out = elim (eqb_tells status 6) [
    | inl same ↦ is_out same.1 out
    | inr other ↦ is_stopped detour stop h is (tells other.1)
  ]

  pub ended_written : (detour : Option Detour) (zone : Zone) → HasZone command files random zone detour old new later later_new
      → (status ≡ 0 → Told (ends.written command detour zone.records)) → (status ≡ 4 → Told (ends.unwritten command detour zone.records))
      → (status ≡ 6 → Told (ends.ran_out command)) → (status ≡ 0) ⊎ ((status ≡ 4) ⊎ (status ≡ 6)) → CommandEnds command files random Told status old new later later_new
  ended_written detour zone h whole failed out (inl zero) = is_written detour zone h zero (whole zero)
  ended_written detour zone h whole failed out (inr (inl four)) = is_unwritten detour zone h four (failed four)
  ended_written detour zone h whole failed out (inr (inr six)) = is_out six (out six)

-- a status that is told of: itself, or memory ran out where it is another than 0
abbrev pub IsToldOf : (told status : Status) → Type 0
IsToldOf told status = (told ≡ status) ⊎ ((status.0 ≢ 0) × (told.0 ≡ 6))

-- the statuses of a zone that was written, told of or not
pub written_statuses : (told status : Status) → IsToldOf told status → (status.0 ≡ 0) ⊎ ((status.0 ≡ 4) ⊎ (status.0 ≡ 6)) → (told.0 ≡ 0) ⊎ ((told.0 ≡ 4) ⊎ (told.0 ≡ 6))
written_statuses told status (inr six) of = inr (inr six.1)
written_statuses told status (inl same) of = subst (λ (s : Status). (s.0 ≡ 0) ⊎ ((s.0 ≡ 4) ⊎ (s.0 ≡ 6))) (sym same) of

-- what a status tells that is told of
pub told_at : (told status : Status) (n : ℕ) (P : Type 0) → IsToldOf told status → n ≢ 6 → (status.0 ≡ n → P) → told.0 ≡ n → P
told_at told status n P (inl same) other holds is = holds (ap (λ (s : Status). s.0) (sym same) ∙ is)
told_at told status n P (inr six) other holds is = absurd (other (sym is ∙ six.1))

-- what every status but 0 tells
pub told_unless : (told status : Status) (P : Type 0) → IsToldOf told status → (status.0 ≢ 0 → P) → told.0 ≢ 0 → P
told_unless told status P (inl same) holds other = holds (λ zero. other (ap (λ (s : Status). s.0) same ∙ zero))
told_unless told status P (inr six) holds other = holds six.0

-- a sentence is handed on wherever one is told
pub handed_on_at : (n one : ℕ) (P : Type 0) → (n ≡ one) ⊎ (n ≡ 6) → (n ≡ one → P) → n ≢ 6 → P
handed_on_at n one P (inl is) holds no_six = holds is
handed_on_at n one P (inr six) holds no_six = absurd (no_six six)

pub handed_on_written : (n : ℕ) (P : Type 0) → (n ≡ 0) ⊎ ((n ≡ 4) ⊎ (n ≡ 6)) → (n ≡ 4 → P) → n ≢ 0 → n ≢ 6 → P
handed_on_written n P (inl zero) holds no_zero no_six = absurd (no_zero zero)
handed_on_written n P (inr (inl four)) holds no_zero no_six = holds four
handed_on_written n P (inr (inr six)) holds no_zero no_six = absurd (no_six six)

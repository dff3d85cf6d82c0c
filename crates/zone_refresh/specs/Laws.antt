-- What a zone that is kept promises.
use Rattle.std.specs.Prelude.{◌≡◌, ◌+◌, ℕ, suc, zero, true, false, List, [], ◌∷◌, Option, Some}
use Rattle.zone_refresh.specs.declared.kept.Event.{Event}
use Rattle.zone_refresh.specs.declared.kept.Event.TheVariants.{Unanswered}
use Rattle.zone_refresh.specs.declared.kept.KeptZone.{KeptZone}
use Rattle.zone_refresh.specs.declared.kept.Phase.TheVariants.{Asking}
use Rattle.zone_refresh.specs.declared.kept.Task.{Task}
use Rattle.zone_refresh.specs.declared.kept.Task.TheVariants.{AskSoa}
use Rattle.zone_refresh.specs.Timing.{has_expired}
use Rattle.zone_refresh.specs.Steps.{outs_after, zone_after}

-- what is put out where so many primaries, one after another, don't answer
abbrev pub tasks_of_silence : KeptZone → (now : ℕ) → (silent : ℕ) → List (Option Task)
tasks_of_silence zone now zero = []
tasks_of_silence zone now (suc n) = (outs_after zone now Unanswered).task ∷ tasks_of_silence (zone_after zone now Unanswered) now n

-- those from one number on are asked
abbrev pub asked_from : (primary count : ℕ) → List (Option Task)
asked_from primary zero = []
asked_from primary (suc n) = Some (AskSoa primary) ∷ asked_from (primary + 1) n

pub record RefreshLaws : Type 0 where
  -- Behind each step a zone that has expired has been told, in that step or before, since it was confirmed last.
  pub expired_is_told : (zone : KeptZone) (now : ℕ) (event : Event) → has_expired now (zone_after zone now event) ≡ true → (zone_after zone now event).told ≡ true
  pub told_now : (zone : KeptZone) (now : ℕ) (event : Event) → (outs_after zone now event).expired ≡ false → (zone_after zone now event).told ≡ true → zone.told ≡ true
  -- Primaries that don't answer are asked in turn, each once, and then the zone waits.
  pub each_is_asked : (zone : KeptZone) (now primary others : ℕ) → zone.phase ≡ Asking primary → primary + others + 1 ≡ zone.primaries → tasks_of_silence zone now others ≡ asked_from (primary + 1) others

-- How a zone is brought to what a server has, in one step or two.
use Rattle.std.proofs.Common.{◌≡◌, ℕ, List, Option, None, Some, Result, Ok, refl, ap, subst, ◌∙◌}
use Rattle.dns_names.specs.Name.{Labels}
use Rattle.dns_values.specs.declared.numbers.Serial.{Serial}
use Rattle.zone_records.specs.Folding.{Zone, empty_zone}
use Rattle.zone_transfer.specs.Turning.{Scene}
use Rattle.zone_fetch_run.specs.Fetching.{IsAnswered, IsBrought, IsWhole, at_moments, changed, whole, whole_then}
use Rattle.zone_fetch_run.specs.Leading.{Course, course_to}
use Rattle.zone_fetch_run.specs.declared.command.Command.{Command}
use Rattle.zone_fetch_run.specs.declared.leading.Detour.{Detour}
use Rattle.zone_fetch_run.specs.declared.leading.Left.{Left}

-- it was asked for in place of another, whose memory is free
pub whole_anew : (command : Command) (words : ℕ → ℕ) (have : Option Serial) (zone after : Zone) (apex : Labels) (end : Result (Unit {0}) Left) (old new : Scene) → zone ≡ empty_zone apex → apex ≡ command.apex
    → IsWhole command words have zone after end old new → IsWhole command words have (empty_zone command.apex) after end old new
whole_anew command words have zone after apex end old new is same h = subst (λ (z : Zone). IsWhole command words have z after end old new) (is ∙ ap empty_zone same) h

module _ (command : Command) (words : ℕ → ℕ) (zone after : Zone) (old new later later_new : Scene) where
  -- there was none with a serial
  pub brought_whole : (end : Result (Unit {0}) Left) → zone.serial ≡ None → IsWhole command words None zone after end old new → IsBrought command words zone after None end old new later later_new
  brought_whole end none h = whole none refl h

  module _ (have : Serial) (has : zone.serial ≡ Some have.0) where
    -- its changes lead on, or it is left as it was
    pub brought_on : (course : Course) (end : Result (Unit {0}) Left) → course ≡ course_to end None → IsAnswered command words have zone after course old new
        → IsBrought command words zone after None end old new later later_new
    brought_on course end is h = changed have has refl (subst (λ (c : Course). IsAnswered command words have zone after c old new) is h)

    -- or they don't, and the whole zone is asked for
    pub brought_then : (course : Course) (why : Detour) (mid : Zone) (moments : Option (List ℕ)) (words_then : ℕ → ℕ) (end : Result (Unit {0}) Left) → course ≡ Ok (Some why)
        → IsAnswered command words have zone mid course old (at_moments moments new) → IsWhole command words_then (Some have) (empty_zone command.apex) after end (at_moments moments later) later_new
        → IsBrought command words zone after (Some why) end old new later later_new
    brought_then course why mid moments words_then end is h then_whole =
        whole_then have why mid moments has refl (subst (λ (c : Course). IsAnswered command words have zone mid c old (at_moments moments new)) is h) words_then then_whole

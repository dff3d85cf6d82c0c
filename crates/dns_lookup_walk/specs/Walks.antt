-- A walk from the root down to a name.
use Rattle.std.specs.Prelude.{◌≡◌, ◌≤◌, ℕ, ◌+◌, ◌-◌, List, [], ◌∷◌, length, flat_map, Option, Some, None}
use Rattle.dns_lookup_words.specs.declared.manner.Ask.{Ask}
use Rattle.dns_names.specs.Name.{Labels}
use Rattle.dns_lookup_walk.specs.Deeds.{Deed, after_deeds}
use Rattle.dns_lookup_walk.specs.Steps.{Hears, Step, step_deeds}
use Rattle.dns_lookup_walk.specs.Targets.{targets_of}
use Rattle.dns_lookup_walk.specs.Verdicts.{judge}
use Rattle.dns_lookup_walk.specs.declared.station.Station.{Station}
use Rattle.dns_lookup_walk.specs.declared.station.Station.TheVariants.{Given, Zone}
use Rattle.dns_lookup_walk.specs.declared.server.NameServer.{NameServer}
use Rattle.dns_lookup_walk.specs.declared.targets.Targets.{Targets}
use Rattle.dns_lookup_walk.specs.declared.verdict.Ending.{Ending}
use Rattle.dns_lookup_walk.specs.declared.verdict.Verdict.TheVariants.{Ends, Refers}

-- A step heard a message that refers to a zone, and the next is at that zone, with the servers that the message names.
pub record Warrants (ask : Ask) (before after : Step) : Type 0 where
  pub zone : Labels
  pub message : List ℕ
  pub hears : Hears ask before (Some message)
  pub refers : judge ask.name before.station (Some message) ≡ Refers zone
  pub station : after.station ≡ Zone zone
  pub targets : after.targets ≡ targets_of before.station zone message

-- Why a walk ends with a step: it heard a message that is final, or each server failed.
pub data EndsAt (ask : Ask) (last : Step) (ending : Option Ending) : Type 0 where
  final : (message : List ℕ) (e : Ending) → Hears ask last (Some message) → judge ask.name last.station (Some message) ≡ Ends e → ending ≡ Some e → EndsAt ask last ending
  stranded : Hears ask last None → ending ≡ None → EndsAt ask last ending

-- Each step but the first is warranted by the one before, and the last is the end.
abbrev pub IsPath : Ask → Option Ending → Step → List Step → Type 0
IsPath ask ending step [] = EndsAt ask step ending
IsPath ask ending step (next ∷ steps) = Warrants ask step next × IsPath ask ending next steps

-- how many steps there may be from a station on: those below a zone have more labels than the zone has, and no more than the name
abbrev pub room : (name : Labels) → Station → ℕ
room name Given = length name + 2
room name (Zone zone) = (length name - length zone) + 1

-- A walk from a station, whose servers these are.
pub record IsWalk (ask : Ask) (station : Station) (targets : Targets) (first : Step) (later : List Step) (ending : Option Ending) : Type 0 where
  pub at_station : first.station ≡ station
  pub has_targets : first.targets ≡ targets
  pub path : IsPath ask ending first later
  pub few : 1 + length later ≤ room ask.name station

-- What a walk did: its steps, and no more. `deeds` is what is told of a world.
pub record Walked {W : Type 0} (deeds : W → Option (List Deed)) (ask : Ask) (station : Station) (targets : Targets) (ending : Option Ending) (old new : W) : Type 0 where
  pub first : Step
  pub later : List Step
  pub walk : IsWalk ask station targets first later ending
  pub done : deeds new ≡ after_deeds (flat_map (step_deeds ask) (first ∷ later)) (deeds old)

-- the servers that are given
abbrev pub given_targets : List NameServer → Targets
given_targets servers = record { glue = servers; names = [] }

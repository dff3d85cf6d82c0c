-- What the definition of a walk comes to.
use Rattle.std.specs.Prelude.{◌≡◌, ◌<◌, ◌≤◌, true, length}
use Rattle.dns_lookup_words.specs.declared.manner.Ask.{Ask}
use Rattle.dns_names.specs.Name.{Labels}
use Rattle.dns_lookup_walk.specs.Names.{is_within}
use Rattle.dns_lookup_walk.specs.Steps.{Step}
use Rattle.dns_lookup_walk.specs.Walks.{Warrants}
use Rattle.dns_lookup_walk.specs.declared.station.Station.TheVariants.{Zone}

-- a zone below another, and at or above a name
pub record IsBetween (zone name below : Labels) : Type 0 where
  pub within : is_within zone below ≡ true
  pub longer : length zone < length below
  pub above : is_within below name ≡ true
  pub no_longer : length below ≤ length name

-- The laws of walks.
pub record WalkLaws : Type 0 where
  -- a step behind one at a zone is at a zone strictly below, and at or above the name
  pub descends : (ask : Ask) (before after : Step) (zone below : Labels) → Warrants ask before after → before.station ≡ Zone zone → after.station ≡ Zone below
      → IsBetween zone ask.name below

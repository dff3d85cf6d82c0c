-- What is done at a door.
use Rattle.std.specs.Prelude.{List, [], ◌∷◌, Option, None, Some}
use Rattle.forward_run.specs.declared.front.FrontDeed.{FrontDeed}
use Rattle.forward_run.specs.declared.front.FrontDeed.TheVariants.{Polled}
use Rattle.front_peers.specs.declared.event.FrontWhat.{FrontWhat}

-- what came is a deed, and that nothing came is none
abbrev pub taken : Option FrontWhat → List FrontDeed
taken None = []
taken (Some what) = Polled (Some what) ∷ []

-- A door in memory: what is left, and what was done.
pub record Kept : Type 0 where
  pub whats : List FrontWhat
  pub deeds : List FrontDeed

-- what is given next, and what is left then
abbrev pub next_of : List FrontWhat → Option FrontWhat
next_of [] = None
next_of (what ∷ whats) = Some what

abbrev pub later : List FrontWhat → List FrontWhat
later [] = []
later (what ∷ whats) = whats

-- What is done with a world.
use Rattle.std.specs.Prelude.{◌≡◌, List, [], ◌∷◌}
use Rattle.zone_refresh_run.specs.declared.world.Deed.{Deed}

-- Deeds lead a world on, one after another, where this is how each changes it.
abbrev pub Leads : {W : Type 0} → (does : Deed → W → W → Type 0) → List Deed → (old new : W) → Type 0
Leads does [] old new = old ≡ new
Leads {W} does (deed ∷ deeds) old new = (mid : W) × does deed old mid × Leads does deeds mid new

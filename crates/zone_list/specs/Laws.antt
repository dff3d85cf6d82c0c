-- A list has one reading.
use Rattle.std.specs.Prelude.{◌≡◌, ℕ, List}
use Rattle.zone_list.specs.Listing.{Said, TextSays}

abbrev pub OneReadingLaw : Type 0
OneReadingLaw = (text : List ℕ) (one other : Said) → TextSays text one → TextSays text other → one ≡ other

-- The records of an answer that are of use: those that the canonical name owns.
use Rattle.std.specs.Prelude.{ℕ, List, [], ◌∷◌, Result, Ok, Err, unwrap_or, option_map, option_and_then, if◌then◌else◌}
use Rattle.dns_values.specs.declared.error.ParseError.{ParseError}
use Rattle.dns_names.specs.Name.{Labels, same_name}
use Rattle.dns_base.specs.Message.{Known, answer_items}
use Rattle.dns_base.specs.Canonical.{canonical_name}

-- the records of a section that a name owns, in order, up to the first that can't be read
abbrev pub owned_by : Labels → List (Result Known ParseError) → List Known
owned_by name [] = []
owned_by name (Ok known ∷ others) = if same_name known.entry.owner name then known ∷ owned_by name others else owned_by name others
owned_by name (Err e ∷ others) = owned_by name others

-- the records of the answer section that the canonical name owns; none where there is no such name
unfoldable pub owned_records : List ℕ → List Known
owned_records octets =
    unwrap_or (option_and_then (λ name. option_map (owned_by name) (answer_items octets)) (canonical_name octets)) []

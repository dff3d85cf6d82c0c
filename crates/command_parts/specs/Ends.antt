-- How a command ends, and what of a line is written.
use Rattle.std.specs.Prelude.{◌≡◌, ◌⊎◌, ℕ, List, [], take, Option}
use Rattle.dns_values.specs.Sink.{with_octets}
use Rattle.dns_values.specs.Source.{Rose}
use Rattle.command_parts.specs.declared.ending.Ending.{Ending}
use Rattle.command_parts.specs.declared.ending.Ending.TheVariants.{Says, Silent}

-- the status and the line of an ending
abbrev pub status_of : Ending → ℕ
status_of (Says status line) = status.0
status_of (Silent status) = status.0

abbrev pub line_of : Ending → List ℕ
line_of (Says status line) = line.items
line_of (Silent status) = []

-- a line is told at a refusal and where numbers are used up; nothing is at a fault of the source and at want of memory
abbrev pub IsEarly : Ending → Type 0
IsEarly (Says status line) = (status.0 ≡ 1) ⊎ (status.0 ≡ 7)
IsEarly (Silent status) = (status.0 ≡ 3) ⊎ (status.0 ≡ 6)

-- These octets are written, or the first of them.
pub record IsBegun (line : List ℕ) (before after : Option (List ℕ)) : Type 0 where
  pub count : ℕ
  pub written : after ≡ with_octets (take count line) before

-- This line is written whole, or the first of it, and then the sink's count of faults rose.
pub record IsSaid (line : List ℕ) (before after : Option (List ℕ)) (faults faults_after : ℕ) : Type 0 where
  pub begun : IsBegun line before after
  pub whole_or_fault : (after ≡ with_octets line before) ⊎ Rose faults faults_after

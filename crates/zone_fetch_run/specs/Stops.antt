-- How the program ends where no zone is written.
use Rattle.std.specs.Prelude.{◌≡◌, ℕ, List, [], ◌∷◌, ◌++◌, codes, Option}
use Rattle.client_request.specs.declared.error.Error.{Error}
use Rattle.client_request.specs.declared.error.Error.TheVariants as errors
use Rattle.command_parts.specs.Ends.{IsSaid}
use Rattle.zone_text.specs.Telling.{flaw_text}
use Rattle.zone_transfer.specs.declared.fault.FetchFault.{FetchFault}
use Rattle.zone_transfer.specs.declared.fault.FetchFault.TheVariants as faults
use Rattle.zone_fetch_run.specs.declared.leading.Left.{Left}
use Rattle.zone_fetch_run.specs.declared.leading.Left.TheVariants as lefts
use Rattle.zone_fetch_run.specs.declared.stop.Stop.{Stop}
use Rattle.zone_fetch_run.specs.declared.stop.Stop.TheVariants as stops

abbrev pub fault_status : FetchFault → ℕ
fault_status faults.NoMemory = 6
fault_status (faults.Transport errors.NumbersUsed) = 7
fault_status other = 5

abbrev pub error_line : Error → List ℕ
error_line errors.NumbersUsed = codes "numbers used\n"
error_line other = codes "failed transport\n"

-- what is written of a fault
abbrev pub fault_line : FetchFault → List ℕ
fault_line (faults.Connect _) = codes "failed connect\n"
fault_line (faults.Transport error) = error_line error
fault_line (faults.Refused _) = codes "failed refused\n"
fault_line (faults.Xfr _) = codes "failed transfer\n"
fault_line (faults.Apply _) = codes "failed serial\n"
fault_line faults.TooLarge = codes "failed too-large\n"
fault_line faults.NoReply = codes "failed no-reply\n"
fault_line faults.NoMemory = []

-- 9 where the server's zone is the one that is there
abbrev pub left_status : Left → ℕ
left_status (lefts.NotFetched fault) = fault_status fault
left_status (lefts.Unchanged serial) = 9
left_status (lefts.NotNewer have got) = 5

abbrev pub left_line : Left → List ℕ
left_line (lefts.NotFetched fault) = fault_line fault
left_line (lefts.Unchanged serial) = codes "unchanged\n"
left_line (lefts.NotNewer have got) = codes "failed serial\n"

abbrev pub status_of : Stop → ℕ
status_of stops.Unread = 3
status_of (stops.NotPrinted flaw) = 1
status_of (stops.NotBrought left) = left_status left
status_of stops.NoMemory = 6

abbrev pub line_of : Stop → List ℕ
line_of (stops.NotPrinted flaw) = codes "no printed zone: " ++ flaw_text flaw ++ 10 ∷ []
line_of (stops.NotBrought left) = left_line left
line_of stops.Unread = []
line_of stops.NoMemory = []

-- A line is told, or there is none and nothing is written.
abbrev pub Tells : List ℕ → (before after : Option (List ℕ)) → (faults faults_after : ℕ) → Type 0
Tells [] before after faults faults_after = after ≡ before
Tells (c ∷ line) before after faults faults_after = IsSaid (c ∷ line) before after faults faults_after

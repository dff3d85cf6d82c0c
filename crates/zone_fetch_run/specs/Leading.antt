-- Whether what a server sent leads on from a zone that has a serial.
use Rattle.std.specs.Prelude.{ℕ, ◌-◌, ◌==◌, ◌&&◌, ◌||◌, Bool, nat_lt, if◌then◌else◌, Option, None, Some, Result, Ok, Err}
use Rattle.dns_values.specs.declared.numbers.Serial.{Serial}
use Rattle.zone_records.specs.declared.interpreter.XfrFault.{XfrFault}
use Rattle.zone_records.specs.declared.interpreter.XfrFault.TheVariants as transfers
use Rattle.zone_transfer.specs.declared.fault.FetchFault.{FetchFault}
use Rattle.zone_transfer.specs.declared.fault.FetchFault.TheVariants as faults
use Rattle.zone_fetch_run.specs.declared.leading.Detour.{Detour}
use Rattle.zone_fetch_run.specs.declared.leading.Detour.TheVariants as detours
use Rattle.zone_fetch_run.specs.declared.leading.Left.{Left}
use Rattle.zone_fetch_run.specs.declared.leading.Left.TheVariants as lefts

-- A serial is greater than another (RFC 1982 3.2). Of two that are 2 ^ 31 apart neither is.
abbrev pub is_greater : (serial than : ℕ) → Bool
is_greater serial than = (nat_lt than serial && nat_lt (serial - than) 2147483648) || (nat_lt serial than && nat_lt 2147483648 (than - serial))

-- A zone that came is taken where its serial is greater than the one of the zone that is there.
abbrev pub judged : (have got : Serial) → Result (Unit {0}) Left
judged have got = if got.0 == have.0 then Err (lefts.Unchanged have) else if is_greater got.0 have.0 then Ok tt else Err (lefts.NotNewer have got)

abbrev pub judged_by : Option Serial → (got : Serial) → Result (Unit {0}) Left
judged_by None got = Ok tt
judged_by (Some have) got = judged have got

-- ---- what comes of a request for changes: the zone that they lead to, or that the whole zone is asked for, or why the zone is left as it was

abbrev pub Course : Type 0
Course = Result (Option Detour) Left

abbrev pub course_to : Result (Unit {0}) Left → Option Detour → Course
course_to (Ok u) detour = Ok detour
course_to (Err left) detour = Err left

-- They lead to a zone of a serial, and so many of them delete what is not there or add what is.
abbrev pub course_of_changes : (have got : Serial) → (misfits : ℕ) → Course
course_of_changes have got misfits = course_to (judged have got) (if misfits == 0 then None else Some (detours.Misfits misfits))

-- The server knows no such request, or does not serve it: FORMERR, NOTIMP or REFUSED; or it fails at it, where that counts.
abbrev pub is_unwilling : (whole_at_servfail : Bool) → ℕ → Bool
is_unwilling whole_at_servfail code = code == 1 || code == 4 || code == 5 || (whole_at_servfail && code == 2)

-- It has no changes, but a serial alone.
abbrev pub course_alone : Serial → XfrFault → Course
course_alone have (transfers.SingleSoa got) = course_to (judged have got) (Some (detours.NoChanges got))
course_alone have fault = Err (lefts.NotFetched (faults.Xfr fault))

-- They were not fetched.
abbrev pub course_of_fault : (whole_at_servfail : Bool) → Serial → FetchFault → Course
course_of_fault whole_at_servfail have (faults.Refused code) = if is_unwilling whole_at_servfail code.0 then Ok (Some (detours.Refused code)) else Err (lefts.NotFetched (faults.Refused code))
course_of_fault whole_at_servfail have (faults.Xfr fault) = course_alone have fault
course_of_fault whole_at_servfail have fault = Err (lefts.NotFetched fault)

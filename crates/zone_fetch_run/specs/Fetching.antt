-- A zone that is brought to what a server has.
use Rattle.std.specs.Prelude.{◌≡◌, ◌⊎◌, ℕ, List, Option, None, Some, Result, Ok, Err}
use Rattle.client_core.specs.Edge.{after_deed}
use Rattle.client_core.specs.declared.edge.Deed.{Deed}
use Rattle.client_core.specs.declared.edge.Deed.TheVariants.{Learned}
use Rattle.dns_values.specs.declared.address.SocketAddr.{SocketAddr}
use Rattle.dns_values.specs.declared.numbers.Serial.{Serial}
use Rattle.resolv_conf.specs.declared.server.ServerConf.{ServerConf}
use Rattle.resolv_conf.specs.declared.server.Transport.TheVariants.{Tcp}
use Rattle.zone_reading.specs.declared.steps.XfrKind.{XfrKind}
use Rattle.zone_reading.specs.declared.steps.XfrKind.TheVariants.{Axfr, Ixfr}
use Rattle.zone_records.specs.Folding.{Zone, empty_zone}
use Rattle.zone_transfer.specs.Fetching.{IsCause, IsFetched}
use Rattle.zone_transfer.specs.Turning.{Scene, scene}
use Rattle.zone_transfer.specs.declared.fault.FetchFault.{FetchFault}
use Rattle.zone_transfer.specs.declared.fault.FetchFault.TheVariants.{NoMemory}
use Rattle.zone_fetch_run.specs.Leading.{Course, course_of_changes, course_of_fault, course_to, judged_by}
use Rattle.zone_fetch_run.specs.declared.command.Command.{Command}
use Rattle.zone_fetch_run.specs.declared.leading.Detour.{Detour}
use Rattle.zone_fetch_run.specs.declared.leading.Left.{Left}
use Rattle.zone_fetch_run.specs.declared.leading.Left.TheVariants.{NotFetched}

-- the server, which is asked by stream
abbrev pub server_at : SocketAddr → ServerConf
server_at addr = record { addr = addr; transport = Tcp; request_timeout = 2000000; recv_size = 1232; udp_payload_size = 1232 }

-- An edge learned the server.
pub record Learns (command : Command) (old new : Scene) : Type 0 where
  pub deeds : new.deeds ≡ after_deed (Learned (server_at command.server)) old.deeds
  pub polls : new.polls ≡ old.polls
  pub moments : new.moments ≡ old.moments

-- It learned it before anything else, and then the zone or its changes were fetched over it, of which so many did not fit the zone before.
pub record IsFetchedBy (command : Command) (kind : XfrKind) (words : ℕ → ℕ) (zone after : Zone) (misfits : ℕ) (old new : Scene) : Type 0 where
  pub mid : Scene
  pub learns : Learns command old mid
  pub fetched : IsFetched kind words command.most zone after misfits mid new

-- Or they were not, and why.
pub record HasCause (command : Command) (kind : XfrKind) (words : ℕ → ℕ) (zone : Zone) (old new : Scene) (fault : FetchFault) : Type 0 where
  pub mid : Scene
  pub learns : Learns command old mid
  pub cause : IsCause kind words command.most zone mid new fault

abbrev pub IsMissed : (command : Command) → XfrKind → (words : ℕ → ℕ) → Zone → (old new : Scene) → FetchFault → Type 0
IsMissed command kind words zone old new fault = (fault ≡ NoMemory) ⊎ HasCause command kind words zone old new fault

-- ---- what is asked for

-- Changes were asked for of a zone with a serial, which came to this.
pub data IsAnswered (command : Command) (words : ℕ → ℕ) (have : Serial) (zone after : Zone) (course : Course) (old new : Scene) : Type 0 where
  changes : (got : Serial) (misfits : ℕ) → IsFetchedBy command Ixfr words zone after misfits old new → after.serial ≡ Some got.0 → course ≡ course_of_changes have got misfits
      → IsAnswered command words have zone after course old new
  no_changes : (fault : FetchFault) → IsMissed command Ixfr words zone old new fault → course ≡ course_of_fault command.whole_at_servfail have fault → IsAnswered command words have zone after course old new

-- The whole zone was asked for, where one of this serial is there already, or none; this is the end of it.
pub data IsWhole (command : Command) (words : ℕ → ℕ) (have : Option Serial) (zone after : Zone) (end : Result (Unit {0}) Left) (old new : Scene) : Type 0 where
  comes : (got : Serial) (misfits : ℕ) → IsFetchedBy command Axfr words zone after misfits old new → after.serial ≡ Some got.0 → end ≡ judged_by have got
      → IsWhole command words have zone after end old new
  is_missed : (fault : FetchFault) → IsMissed command Axfr words zone old new fault → end ≡ Err (NotFetched fault) → IsWhole command words have zone after end old new

-- ---- how a zone is brought to what the server has

-- with other moments
abbrev pub at_moments : Option (List ℕ) → Scene → Scene
at_moments moments s = record s { moments = moments }

-- what holds of the scenes before and after a call, by what a first edge, a later one and a clock tell
abbrev pub over : {E C : Type 0} {R : Type 1} → (E → Option (List Deed)) → (E → ℕ) → (C → Option (List ℕ)) → (old new : E × E × C) → (Scene → Scene → Scene → Scene → R) → R
over deeds polls given old new P =
    P (scene (deeds old.0) (polls old.0) (given old.2)) (scene (deeds new.0) (polls new.0) (given new.2)) (scene (deeds old.1) (polls old.1) (given old.2)) (scene (deeds new.1) (polls new.1) (given new.2))

-- This is how it ends, by what a first edge and a later one tell: without a serial the whole zone is asked for; with one its changes are, and where they do not lead on, the whole zone over the later edge.
pub data IsBrought (command : Command) (words : ℕ → ℕ) (zone after : Zone) (detour : Option Detour) (end : Result (Unit {0}) Left) (old new later later_new : Scene) : Type 0 where
  whole : zone.serial ≡ None → detour ≡ None → IsWhole command words None zone after end old new → IsBrought command words zone after detour end old new later later_new
  changed : (have : Serial) → zone.serial ≡ Some have.0 → detour ≡ None → IsAnswered command words have zone after (course_to end None) old new
      → IsBrought command words zone after detour end old new later later_new
  whole_then : (have : Serial) (why : Detour) (mid : Zone) (moments : Option (List ℕ)) → zone.serial ≡ Some have.0 → detour ≡ Some why
      → IsAnswered command words have zone mid (Ok (Some why)) old (at_moments moments new) → (words_then : ℕ → ℕ)
      → IsWhole command words_then (Some have) (empty_zone command.apex) after end (at_moments moments later) later_new
      → IsBrought command words zone after detour end old new later later_new

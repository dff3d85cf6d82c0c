-- What is told of zones that are kept.
use Rattle.std.specs.Prelude.{ℕ, ◌-◌, ◌/◌, ◌==◌, Bool, false, if◌then◌else◌, List, [], ◌++◌, codes, decimal, Option, None, Some, Result, Ok, Err, slice_get}
use Rattle.client_request.specs.ErrorText.{error_text}
use Rattle.client_request.specs.declared.error.Error.{Error}
use Rattle.client_request.specs.declared.error.Error.TheVariants as clients
use Rattle.dns_names.specs.Name.{Labels}
use Rattle.dns_names.specs.Text.{name_text}
use Rattle.dns_values.specs.Address.{socket_address_text}
use Rattle.dns_values.specs.NumberNames.{rcode_text}
use Rattle.dns_values.specs.declared.address.SocketAddr.{SocketAddr}
use Rattle.dns_values.specs.declared.numbers.Serial.{Serial}
use Rattle.resolv_lookup.specs.declared.fault.QueryFault.{QueryFault}
use Rattle.resolv_lookup.specs.declared.fault.QueryFault.TheVariants as faults
use Rattle.zone_list.specs.declared.fault.ListFault.TheVariants as lists
use Rattle.zone_list.specs.declared.fault.ListPart.{ListPart}
use Rattle.zone_list.specs.declared.fault.ListPart.TheVariants as parts
use Rattle.zone_list.specs.declared.fault.WrongLine.{WrongLine}
use Rattle.zone_list.specs.declared.listed.Listed.{Listed}
use Rattle.zone_refresh.specs.declared.kept.Event.{Event}
use Rattle.zone_refresh.specs.declared.kept.Event.TheVariants as events
use Rattle.zone_refresh.specs.declared.kept.KeptZone.{KeptZone}
use Rattle.zone_refresh.specs.declared.kept.Phase.{Phase}
use Rattle.zone_refresh.specs.declared.kept.Phase.TheVariants.{Waiting, Asking, Fetching}
use Rattle.zone_refresh.specs.declared.kept.ZoneTimers.{ZoneTimers}
use Rattle.zone_refresh_run.specs.declared.files.FileFault.TheVariants.{Unread, NoMemory}
use Rattle.zone_refresh_run.specs.declared.listing.Unlisted.{Unlisted}
use Rattle.zone_refresh_run.specs.declared.listing.Unlisted.TheVariants as unlisted
use Rattle.zone_refresh_run.specs.declared.serials.NoSerial.{NoSerial}
use Rattle.zone_refresh_run.specs.declared.serials.NoSerial.TheVariants as unsaid
use Rattle.zone_refresh_run.specs.declared.world.ZoneNews.{ZoneNews}
use Rattle.zone_refresh_run.specs.declared.world.ZoneNews.TheVariants.{Came, Expired}

abbrev pub address_of : Option SocketAddr → List ℕ
address_of None = codes "no primary"
address_of (Some addr) = socket_address_text addr

abbrev pub primary_text : List SocketAddr → (number : ℕ) → List ℕ
primary_text primaries number = address_of (slice_get primaries number)

-- what is next for a zone at a moment
abbrev pub next_text : List SocketAddr → (moment : ℕ) → Phase → List ℕ
next_text primaries moment (Waiting due) = codes "asked again in " ++ decimal ((due - moment) / 1000000) ++ codes " s"
next_text primaries moment (Asking number) = primary_text primaries number ++ codes " is asked"
next_text primaries moment (Fetching number) = codes "it is fetched from " ++ primary_text primaries number

abbrev pub has_serial : Option ZoneTimers → (serial : ℕ) → Bool
has_serial None serial = false
has_serial (Some timers) serial = timers.serial.0 == serial

-- what a primary said, where a zone with this serial is held then or not
abbrev pub said_text : (primary file : List ℕ) → (serial : ℕ) → Bool → List ℕ
said_text primary file serial is_held =
    if is_held then file ++ (codes " is up to date, serial " ++ (decimal serial ++ (codes " as " ++ (primary ++ codes " has it"))))
    else primary ++ (codes " has serial " ++ (decimal serial ++ (codes ", and " ++ (file ++ codes " has not"))))

-- ---- why a primary gave no serial

-- no answer came in time, or another fault
abbrev pub client_text : Error → List ℕ
client_text clients.TimedOut = codes "no answer came in 10 seconds"
client_text error = error_text error

abbrev pub fault_text : QueryFault → List ℕ
fault_text (faults.Client error) = client_text error
fault_text faults.NoReply = codes "no answer came in a million turns"

abbrev pub no_serial_text : NoSerial → List ℕ
no_serial_text unsaid.NotAsked = codes "it was not asked, since memory ran out or no random words could be had"
no_serial_text (unsaid.Failed fault) = fault_text fault
no_serial_text (unsaid.Refused code) = codes "it answered " ++ rcode_text code.0
no_serial_text unsaid.NotAuthoritative = codes "its answer is not authoritative"
no_serial_text unsaid.NoSoa = codes "its answer has no SOA of the zone"

-- what is told of it behind other words
abbrev pub why_text : Option (Result Serial NoSerial) → List ℕ
why_text None = []
why_text (Some (Ok serial)) = []
why_text (Some (Err why)) = codes ": " ++ no_serial_text why

-- ---- what came of a primary, where this was said last

abbrev pub came_text : (primary file : List ℕ) → Option (Result Serial NoSerial) → Event → Option ZoneTimers → List ℕ
came_text primary file said events.Tick held = []
came_text primary file said (events.Answered serial) held = said_text primary file serial.0 (has_serial held serial.0)
came_text primary file said events.Unanswered held = primary ++ (codes " gave no SOA" ++ why_text said)
came_text primary file said (events.Fetched timers) held = file ++ (codes " is up to date, serial " ++ (decimal timers.serial.0 ++ (codes " came from " ++ primary)))
came_text primary file said events.NotFetched held = codes "nothing came from " ++ primary

abbrev pub came_sentence : Listed → Option (Result Serial NoSerial) → (number : ℕ) → Event → (moment : ℕ) → KeptZone → List ℕ
came_sentence listed said number event moment zone =
    codes "zone_fetch: " ++ (name_text listed.zone ++ (codes ": " ++ (came_text (primary_text listed.primaries number) listed.file said event zone.held ++ (codes "; " ++ (next_text listed.primaries moment zone.phase ++ codes "\n")))))

abbrev pub expired_sentence : (apex : Labels) → List ℕ
expired_sentence apex = codes "zone_fetch: " ++ (name_text apex ++ codes ": expired: no primary has confirmed it for as long as its SOA says\n")

abbrev pub news_sentence : Listed → Option (Result Serial NoSerial) → ZoneNews → List ℕ
news_sentence listed said (Came number event moment zone) = came_sentence listed said number event moment zone
news_sentence listed said Expired = expired_sentence listed.zone

-- ---- that a zone is kept

abbrev pub held_text : Option ZoneTimers → List ℕ
held_text None = codes "which has no zone yet"
held_text (Some timers) = codes "which has serial " ++ decimal timers.serial.0

abbrev pub kept_text : (file : List ℕ) → Option ZoneTimers → List ℕ
kept_text file held = codes "kept in " ++ (file ++ (codes ", " ++ held_text held))

abbrev pub kept_sentence : Listed → Option ZoneTimers → List ℕ
kept_sentence listed held =
    codes "zone_fetch: " ++ (name_text listed.zone ++ (codes ": " ++ (kept_text listed.file held ++ codes "\n")))

-- ---- what is wrong with a list

abbrev pub part_text : ListPart → List ℕ
part_text parts.Text = codes "it is no text in UTF-8"
part_text parts.Zone = codes "the zone is no name"
part_text parts.File = codes "no file stands behind the zone"
part_text parts.LongFile = codes "the path of the file is too long"
part_text parts.Primaries = codes "no primary stands behind the file"
part_text (parts.Primary place) = codes "primary " ++ decimal place ++ codes " is no address with a port from 1 to 65535 behind @"

abbrev pub wrong_line_sentence : (list : List ℕ) → WrongLine → List ℕ
wrong_line_sentence list wrong = codes "zone_fetch: " ++ (list ++ (codes ": line " ++ (decimal wrong.line ++ (codes ": " ++ (part_text wrong.part ++ codes "\n")))))

-- why there is no list at a path; memory that ran out is another sentence
abbrev pub unlisted_sentence : (list : List ℕ) → Unlisted → List ℕ
unlisted_sentence list (unlisted.File Unread) = codes "zone_fetch: " ++ list ++ codes " could not be read\n"
unlisted_sentence list (unlisted.File NoMemory) = []
unlisted_sentence list (unlisted.List (lists.Wrong wrong)) = wrong_line_sentence list wrong
unlisted_sentence list (unlisted.List lists.TooLong) = codes "zone_fetch: " ++ list ++ codes " is too long\n"
unlisted_sentence list (unlisted.List lists.NoMemory) = []
unlisted_sentence list unlisted.NoZone = codes "zone_fetch: " ++ list ++ codes " names no zone\n"

-- The serial that a primary says.
use Rattle.std.specs.Prelude.{ℕ, ◌==◌, ◌&&◌, not, Bool, if◌then◌else◌, List, [], ◌∷◌, Option, None, Some, Result, Ok, Err}
use Rattle.dns_values.specs.declared.error.ParseError.{ParseError}
use Rattle.dns_values.specs.declared.numbers.Serial.{Serial}
use Rattle.dns_names.specs.Name.{Labels, same_name}
use Rattle.dns_base.specs.Data.{Data, StartOfAuthority}
use Rattle.dns_base.specs.Header.{aa_of, rcode_of}
use Rattle.dns_base.specs.Message.{Known, answer_items}
use Rattle.zone_refresh_run.specs.declared.serials.NoSerial.{NoSerial}
use Rattle.zone_refresh_run.specs.declared.serials.NoSerial.TheVariants.{Refused, NotAuthoritative, NoSoa}

abbrev pub serial_of : Option Data → Option ℕ
serial_of (Some (StartOfAuthority soa)) = Some soa.serial
serial_of says = None

-- where the record is the SOA of a zone, of class IN
abbrev pub serial_in : Labels → Known → Option ℕ
serial_in zone known = if known.entry.class == 1 && same_name known.entry.owner zone then serial_of known.says else None

abbrev pub or_later : Option ℕ → Option ℕ → Option ℕ
or_later None later = later
or_later (Some serial) later = Some serial

-- that of the first such record, up to one that can't be read
abbrev pub first_serial : Labels → List (Result Known ParseError) → Option ℕ
first_serial zone [] = None
first_serial zone (Err error ∷ items) = None
first_serial zone (Ok known ∷ items) = or_later (serial_in zone known) (first_serial zone items)

abbrev pub serial_among : Labels → Option (List (Result Known ParseError)) → Option ℕ
serial_among zone None = None
serial_among zone (Some items) = first_serial zone items

abbrev pub or_no_soa : Option ℕ → Result Serial NoSerial
or_no_soa None = Err NoSoa
or_no_soa (Some serial) = Ok (record { 0 = serial })

-- An answer says it that has no error and is authoritative.
abbrev pub said_by : (code : ℕ) → (is_authoritative : Bool) → Option ℕ → Result Serial NoSerial
said_by code is_authoritative serial =
    if not (code == 0) then Err (Refused (record { 0 = code }))
    else if is_authoritative then or_no_soa serial
    else Err NotAuthoritative

abbrev pub serial_said : Labels → List ℕ → Result Serial NoSerial
serial_said zone answer = said_by (rcode_of answer) (aa_of answer) (serial_among zone (answer_items answer))

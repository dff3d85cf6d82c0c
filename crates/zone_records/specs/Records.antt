-- The records of a zone: how they are kept, and their order.
use Rattle.std.specs.Prelude.{◌≡◌, ℕ, ◌==◌, nat_le, not, ◌&&◌, ◌||◌, Bool, List, [], ◌∷◌, Option, Some, None, option_and_then, if◌then◌else◌}
use Rattle.std.specs.declared.cmp.Ordering.{Ordering}
use Rattle.std.specs.declared.cmp.Ordering.TheVariants.{Equal}
use Rattle.std.specs.Cmp.{IsTotalOrder, nat_cmp_total, on_total, then_total}
use Rattle.std.specs.Cmp.Lexicographic.{lists_total, slice_cmp}
use Rattle.std.specs.Ordering.{eq_by_cmp, nat_cmp, on, then_cmp}
use Rattle.dns_base.specs.Data.{Data, A, Aaaa, One, Minfo, Mx, StartOfAuthority, Service, Named, Txt, Opt, Other, data_spelling}
use Rattle.dns_base.specs.Forms.{lowered_named}
use Rattle.dns_base.specs.Message.{Known}
use Rattle.dns_names.specs.Name.{Labels, lowered, same_name, spelling}
use Rattle.zone_reading.specs.declared.steps.Entry.{Entry}
use Rattle.zone_reading.specs.declared.steps.Entry.TheVariants as entries
use Rattle.zone_records.specs.declared.record.ZoneRecord.{ZoneRecord}

-- ---- the order: by the owner's octets, the type, the class, the data and the TTL

abbrev pub octets_cmp : List ℕ → List ℕ → Ordering
octets_cmp = slice_cmp nat_cmp

octets_total : IsTotalOrder octets_cmp
octets_total = lists_total nat_cmp_total

abbrev pub data_cmp : ZoneRecord → ZoneRecord → Ordering
data_cmp = then_cmp (on (λ r. r.rdata) octets_cmp) (on (λ r. r.ttl.0) nat_cmp)

abbrev pub type_cmp : ZoneRecord → ZoneRecord → Ordering
type_cmp = then_cmp (on (λ r. r.rtype.0) nat_cmp) (then_cmp (on (λ r. r.class.0) nat_cmp) data_cmp)

abbrev pub record_cmp : ZoneRecord → ZoneRecord → Ordering
record_cmp = then_cmp (on (λ r. r.owner) octets_cmp) type_cmp

pub record_total : IsTotalOrder record_cmp
record_total =
    then_total (on_total (λ (r : ZoneRecord). r.owner) octets_total) (then_total (on_total (λ (r : ZoneRecord). r.rtype.0) nat_cmp_total) (then_total (on_total (λ (r : ZoneRecord). r.class.0) nat_cmp_total)
    (then_total (on_total (λ (r : ZoneRecord). r.rdata) octets_total) (on_total (λ (r : ZoneRecord). r.ttl.0) nat_cmp_total))))

abbrev pub is_same : ZoneRecord → ZoneRecord → Bool
is_same = eq_by_cmp record_cmp

abbrev pub is_soa : ZoneRecord → Bool
is_soa r = r.rtype.0 == 6

-- ---- a record of a message, as a zone keeps it

-- names in data in lower case (RFC 4034 6.2)
abbrev pub lowered_data : Data → Data
lowered_data (A octets) = A octets
lowered_data (Aaaa octets) = Aaaa octets
lowered_data (One rtype name) = One rtype (lowered name)
lowered_data (Minfo first second) = Minfo (lowered first) (lowered second)
lowered_data (Mx preference name) = Mx preference (lowered name)
lowered_data (StartOfAuthority soa) = StartOfAuthority (record soa { mname = lowered soa.mname; rname = lowered soa.rname })
lowered_data (Service srv) = Service (record srv { target = lowered srv.target })
lowered_data (Named it) = Named (lowered_named it)
lowered_data (Txt octets) = Txt octets
lowered_data (Opt octets) = Opt octets
lowered_data (Other octets) = Other octets

abbrev pub soa_serial : Data → Option ℕ
soa_serial (StartOfAuthority soa) = Some soa.serial
soa_serial _ = None

abbrev pub record_of : Known → Data → ZoneRecord
record_of known content = record {
  owner = spelling (lowered known.entry.owner);
  rtype = record { 0 = known.entry.rtype };
  class = record { 0 = known.entry.class };
  ttl = record { 0 = known.entry.ttl };
  rdata = data_spelling (lowered_data content);
}

-- A type that no zone holds: 0, OPT, and those of questions and meta types (RFC 6895 3.1).
abbrev pub is_meta : ℕ → Bool
is_meta rtype = rtype == 0 || rtype == 41 || (nat_le 128 rtype && nat_le rtype 255)

-- An owner is the apex or below it: without some of its first labels it is the apex.
abbrev pub is_within : (apex owner : Labels) → Bool
is_within apex [] = same_name [] apex
is_within apex (label ∷ labels) = same_name (label ∷ labels) apex || is_within apex labels

-- A record that a zone of the class IN may hold.
abbrev pub may_come : Known → Bool
may_come known = known.entry.class == 1 && not (is_meta known.entry.rtype)

-- the serial of a record of the type SOA
abbrev pub serial_of : Known → Data → Option ℕ
serial_of known content = if known.entry.rtype == 6 then soa_serial content else None

-- An SOA is to be the apex's. Another record is left out unless its owner is the apex or below it.
abbrev pub entry_by : Labels → Known → Data → (serial : Option ℕ) → Option (Entry ZoneRecord)
entry_by apex known content (Some serial) = if same_name known.entry.owner apex then Some (entries.Soa serial (record_of known content)) else None
entry_by apex known content None = Some (entries.Other (if is_within apex known.entry.owner then Some (record_of known content) else None))

abbrev pub entry_with : Labels → Known → Data → Option (Entry ZoneRecord)
entry_with apex known content = if may_come known then entry_by apex known content (serial_of known content) else None

-- a record of a transfer, where its data is read, a zone may hold it, and it is no SOA of another name
abbrev pub entry_of : Labels → Known → Option (Entry ZoneRecord)
entry_of apex known = option_and_then (entry_with apex known) known.says

abbrev pub EqualRecordsLaw : Type 0
EqualRecordsLaw = (a b : ZoneRecord) → record_cmp a b ≡ Equal → a ≡ b

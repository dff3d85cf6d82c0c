-- The request for a zone, or for what changed since its serial (RFC 5936 2.1, RFC 1995 3).
use Rattle.std.specs.Prelude.{ℕ, ◌&&◌, nat_lt, Bool, List, [], ◌∷◌, length, find, Option, None, Some}
use Rattle.dns_values.specs.declared.numbers.Section.TheVariants.{Authority}
use Rattle.dns_names.specs.Name.{Labels}
use Rattle.dns_base.specs.Data.{Other}
use Rattle.dns_base.specs.Draft.{Draft, finished, fresh, pushed_question, pushed_record, with_header}
use Rattle.dns_base.specs.Message.{Asked, Written}
use Rattle.client_request.specs.Request.{Request, recorded_from}
use Rattle.zone_reading.specs.declared.steps.XfrKind.{XfrKind}
use Rattle.zone_reading.specs.declared.steps.XfrKind.TheVariants.{Axfr, Ixfr}
use Rattle.zone_records.specs.Folding.{Zone}
use Rattle.zone_records.specs.Records.{is_soa}
use Rattle.zone_records.specs.declared.record.ZoneRecord.{ZoneRecord}

abbrev pub rtype_of : XfrKind → ℕ
rtype_of Axfr = 252
rtype_of Ixfr = 251

-- the zone's name, in the class IN
abbrev pub question_of : Labels → XfrKind → Asked
question_of apex kind = record { name = apex; rtype = rtype_of kind; class = 1 }

-- an SOA for which a message has room
abbrev pub is_sent : ZoneRecord → Bool
is_sent r = is_soa r && nat_lt (length r.rdata) 65536

abbrev pub soa_written : Labels → ZoneRecord → Written
soa_written apex soa = record { owner = apex; rtype = 6; class = soa.class.0; ttl = soa.ttl.0; content = Other soa.rdata }

abbrev pub with_soa : Labels → Option ZoneRecord → Draft → Draft
with_soa apex None d = d
with_soa apex (Some soa) d = pushed_record Authority (soa_written apex soa) d

abbrev pub asked_draft : Labels → XfrKind → Draft
asked_draft apex kind = pushed_question (question_of apex kind) (with_header (0 ∷ 0 ∷ 0 ∷ 0 ∷ []) (fresh None))

-- Where changes are asked for, the zone's SOA stands in the authority section.
abbrev pub draft_of : Zone → XfrKind → Draft
draft_of zone Axfr = asked_draft zone.apex Axfr
draft_of zone Ixfr = with_soa zone.apex (find is_sent zone.records) (asked_draft zone.apex Ixfr)

abbrev pub message_of : Zone → XfrKind → List ℕ
message_of zone kind = finished (draft_of zone kind)

abbrev pub request_of : Zone → XfrKind → Request
request_of zone kind = recorded_from (message_of zone kind)

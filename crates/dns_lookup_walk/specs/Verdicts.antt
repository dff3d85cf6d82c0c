-- What a server's answer means to a walk.
use Rattle.std.specs.Prelude.{ℕ, Bool, true, false, not, ◌==◌, if◌then◌else◌, List, [], Option, Some, None}
use Rattle.std.specs.List.{list_any}
use Rattle.dns_base.specs.Header.{aa_of, counts_of, rcode_of}
use Rattle.dns_base.specs.Message.{answer_items, authority_items}
use Rattle.dns_names.specs.Name.{Labels}
use Rattle.dns_lookup_walk.specs.Records.{Items, found_in, is_server, is_server_of, is_start, lead_of}
use Rattle.dns_lookup_walk.specs.declared.station.Station.{Station}
use Rattle.dns_lookup_walk.specs.declared.station.Station.TheVariants.{Given, Zone}
use Rattle.dns_lookup_walk.specs.declared.verdict.Ending.TheVariants.{Answered, NoName, NoData}
use Rattle.dns_lookup_walk.specs.declared.verdict.Failure.TheVariants.{Silent, Refuses, Misleads, Lame}
use Rattle.dns_lookup_walk.specs.declared.verdict.Verdict.{Verdict}
use Rattle.dns_lookup_walk.specs.declared.verdict.Verdict.TheVariants.{Ends, Refers, Fails}

-- without an answer, a zone's start or a way down: it names other servers, or says with authority that there is nothing, or says nothing
abbrev pub without_way : (names_servers authoritative : Bool) → Verdict
without_way true authoritative = Fails Misleads
without_way false true = Ends NoData
without_way false false = Fails Lame

abbrev pub way_down : Option Labels → Verdict → Verdict
way_down (Some owner) other = Refers owner
way_down None other = other

abbrev pub authority_of : List ℕ → Items
authority_of m = found_in (authority_items m)

-- what a message without an answer says: the name has no such data (RFC 2308 2.2), or servers of a zone further down know more (RFC 1034 4.3.2)
abbrev pub without_answer : (zone name : Labels) → List ℕ → Verdict
without_answer zone name m =
    if list_any is_start (authority_of m) then Ends NoData
    else way_down (lead_of zone name (authority_of m)) (without_way (list_any is_server (authority_of m)) (aa_of m))

-- What a message of a zone's server says of a name: there is no such name (RFC 2308 2.1), it does not serve, it answers, or none of these.
abbrev pub zone_says : (zone name : Labels) → List ℕ → Verdict
zone_says zone name m =
    if rcode_of m == 3 then Ends NoName
    else if not (rcode_of m == 0) then Fails (Refuses (record { 0 = rcode_of m }))
    else if not ((counts_of m).answer == 0) then Ends Answered
    else without_answer zone name m

-- What a message says of the servers of the root: it has some, or not.
abbrev pub roots_say : List ℕ → Verdict
roots_say m =
    if not (rcode_of m == 0) then Fails (Refuses (record { 0 = rcode_of m }))
    else if list_any (is_server_of []) (found_in (answer_items m)) then Refers [] else Fails Lame

-- what came, if anything did, of a server at a station
abbrev pub judge : (name : Labels) → Station → Option (List ℕ) → Verdict
judge name station None = Fails Silent
judge name Given (Some m) = roots_say m
judge name (Zone zone) (Some m) = zone_says zone name m

-- the next server is to be asked
abbrev pub fails : Verdict → Bool
fails (Ends ending) = false
fails (Refers zone) = false
fails (Fails failure) = true

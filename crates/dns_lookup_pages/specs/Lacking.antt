-- Whether an answer has no data to write.
use Rattle.std.specs.Prelude.{ℕ, ◌==◌, if◌then◌else◌, List, Option, None, Some}
use Rattle.dns_base.specs.Header.{counts_of, rcode_of}
use Rattle.dns_lookup_pages.specs.declared.short.Lacking.{Lacking}
use Rattle.dns_lookup_pages.specs.declared.short.Lacking.TheVariants.{Data, Name, Service}

-- by the response code: no such name (RFC 2308 2.1), or the server did not serve; where it is NOERROR, by an empty answer section (RFC 2308 2.2)
abbrev pub lacking_in : List ℕ → Option Lacking
lacking_in octets =
    if rcode_of octets == 3 then Some Name
    else if rcode_of octets == 0 then (if (counts_of octets).answer == 0 then Some Data else None)
    else Some (Service (rcode_of octets))

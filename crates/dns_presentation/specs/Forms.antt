-- Data that a message's reader doesn't look into, as text, of the types whose forms are told whole.
use Rattle.std.specs.Prelude.{ℕ, ◌==◌, List, Option, if◌then◌else◌}
use Rattle.dns_presentation.specs.declared.counted.PartKind.TheVariants.{Prefix}
use Rattle.dns_presentation.specs.Certificates.{certificate_text}
use Rattle.dns_presentation.specs.Counted.{spaced_parts, strings_text}
use Rattle.dns_presentation.specs.Locators.{locator_text}
use Rattle.dns_presentation.specs.Zones.{csync_text, zonemd_text}

-- HINFO (RFC 1035 3.3.2), X25 and ISDN (RFC 1183 3), GPOS (RFC 1712 3), CERT, APL (RFC 3123 5), CSYNC, ZONEMD and SPF (RFC 7208 3.1)
abbrev pub form_text : ℕ → List ℕ → Option (List ℕ)
form_text rtype octets =
    if rtype == 13 then strings_text 2 2 octets
    else if rtype == 19 then strings_text 1 1 octets
    else if rtype == 20 then strings_text 1 2 octets
    else if rtype == 27 then strings_text 3 3 octets
    else if rtype == 99 then strings_text 1 65535 octets
    else if rtype == 37 then certificate_text octets
    else if rtype == 42 then spaced_parts Prefix octets
    else if rtype == 62 then csync_text octets
    else if rtype == 63 then zonemd_text octets
    else locator_text rtype octets

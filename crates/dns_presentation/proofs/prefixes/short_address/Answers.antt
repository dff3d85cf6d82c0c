use Rattle.dns_presentation.proofs.FilledOctets.{four_filled}
use Rattle.dns_presentation.proofs.prefixes.short_address.Goals as goal

pub returns : goal.returns
returns c =
    rw (c.octet_at-first.ensures, c.octet_at-second.ensures, c.octet_at-third.ensures, c.octet_at-fourth.ensures)
    (four_filled c.args.octets.now)

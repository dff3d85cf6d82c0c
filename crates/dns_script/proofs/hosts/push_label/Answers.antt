-- The octets that are added are those of the label.
use Rattle.dns_script.proofs.HostTexts.{long_label, short_label}
use Rattle.dns_script.proofs.hosts.push_label.Goals as goal

pub returns-in_ok-extend_from_slice : goal.returns-in_ok-extend_from_slice
returns-in_ok-extend_from_slice c = rw (short_label c.args.host c.if-host-lt10.true) at (c.in_ok-extend_from_slice.ensures.items)

pub returns-in_ok-extend_from_slice-2 : goal.returns-in_ok-extend_from_slice-2
returns-in_ok-extend_from_slice-2 c = rw (long_label c.args.host c.if-host-lt10.false c.requires) at (c.in_ok-extend_from_slice-2.ensures.items)

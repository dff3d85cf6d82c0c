-- Names that are chained.
use Rattle.std.specs.Prelude.{◌≡◌, ◌<◌, ◌++◌, Result, Ok, Err}
use Rattle.dns_names.specs.Name.{Labels, octet_count}
use Rattle.dns_names.specs.declared.fault.ChainFault.{ChainFault}
use Rattle.dns_names.specs.declared.fault.ChainFault.TheVariants as Fault

-- The labels of both in order, or none where they pass 255 octets.
abbrev pub Chains : Labels → Labels → Result Labels ChainFault → Type 0
Chains front back (Ok labels) = labels ≡ front ++ back
Chains front back (Err Fault.Long) = 255 < octet_count (front ++ back)
Chains front back (Err Fault.NoMemory) = Unit {0}

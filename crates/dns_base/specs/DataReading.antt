-- When data that is read is the data that was written.
use Rattle.std.specs.Prelude.{◌≡◌, Some, option_map}
use Rattle.dns_base.specs.Data.{Data, Txt, Opt, Other}
use Rattle.dns_base.specs.Message.{Known}
use Rattle.dns_base.specs.Knowing.{lowered_data}

-- The data says the same by its type but for the case of names, or is the same octet for octet.
abbrev pub DataReadsAs : Known → Data → Type 0
DataReadsAs known (Txt octets) = known.entry.octets ≡ octets
DataReadsAs known (Opt octets) = known.entry.octets ≡ octets
DataReadsAs known (Other octets) = known.entry.octets ≡ octets
DataReadsAs known content = option_map lowered_data known.says ≡ Some (lowered_data content)

-- What is told of octets that have no zone.
use Rattle.std.specs.Prelude.{ℕ, List, ◌++◌, codes, decimal}
use Rattle.zone_text.specs.declared.fault.LinePart.{LinePart}
use Rattle.zone_text.specs.declared.fault.LinePart.TheVariants as parts
use Rattle.zone_text.specs.declared.zone.Flaw.{Flaw}
use Rattle.zone_text.specs.declared.zone.Flaw.TheVariants as flaws

abbrev pub part_text : LinePart → List ℕ
part_text parts.End = codes "no line feed behind it"
part_text parts.Words = codes "fewer than five words"
part_text parts.Owner = codes "the owner is no name"
part_text parts.Ttl = codes "the TTL is no number of 32 bits"
part_text parts.Class = codes "the class has no such name, and is no number of 16 bits"
part_text parts.«Type» = codes "the type has no such name, and is no number of 16 bits"
part_text parts.Data = codes "the data is not in pairs of hexadecimal digits"
part_text parts.Apex = codes "an SOA of another zone"
part_text parts.SecondSoa = codes "a second SOA"
part_text parts.Serial = codes "an SOA without a serial"

abbrev pub flaw_text : Flaw → List ℕ
flaw_text flaws.Text = codes "the file is no text"
flaw_text flaws.Soa = codes "no SOA"
flaw_text (flaws.Line at) = codes "line " ++ decimal at.line ++ codes ": " ++ part_text at.part

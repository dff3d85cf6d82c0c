-- Why a line is refused, and what is printed of it.
use Rattle.std.specs.Prelude.{ℕ, List, codes}
use Rattle.dns_names.specs.declared.fault.NameFault.{NameFault}
use Rattle.dns_names.specs.declared.fault.NameFault.TheVariants as Name
use Rattle.resolv_conf.specs.declared.fault.LineFault.{LineFault}
use Rattle.resolv_conf.specs.declared.fault.LineFault.TheVariants as Line

abbrev pub line_fault : NameFault → LineFault
line_fault Name.Parse = Line.Parse
line_fault Name.Long = Line.Parse
line_fault Name.NoMemory = Line.NoMemory

abbrev pub line_fault_text : LineFault → List ℕ
line_fault_text Line.Parse = codes "the line is outside the grammar"
line_fault_text Line.NoMemory = codes "out of memory"

-- The texts of faults.
use Rattle.std.specs.Prelude.{ℕ, List, codes}
use Rattle.dns_names.specs.declared.fault.NameFault.{NameFault}
use Rattle.dns_names.specs.declared.fault.NameFault.TheVariants as name
use Rattle.dns_names.specs.declared.fault.ChainFault.{ChainFault}
use Rattle.dns_names.specs.declared.fault.ChainFault.TheVariants as chain

abbrev pub name_fault_text : NameFault → List ℕ
name_fault_text name.Parse = codes "the text is no name"
name_fault_text name.Long = codes "the name is too long"
name_fault_text name.NoMemory = codes "out of memory"

abbrev pub chain_fault_text : ChainFault → List ℕ
chain_fault_text chain.Long = codes "the name is too long"
chain_fault_text chain.NoMemory = codes "out of memory"

-- How faults stand for one another.
use Rattle.dns_names.specs.declared.fault.ChainFault.{ChainFault}
use Rattle.dns_names.specs.declared.fault.ChainFault.TheVariants as chain
use Rattle.resolv_lookup.specs.declared.fault.SrvError.{SrvError}
use Rattle.resolv_lookup.specs.declared.fault.SrvError.TheVariants.{LongName, NoMemory}

-- why the name of a service was not made
abbrev pub error_of_chain : ChainFault → SrvError
error_of_chain chain.Long = LongName
error_of_chain chain.NoMemory = NoMemory

-- What errors say when they are printed.
use Rattle.std.specs.Prelude.{ℕ, List, Option, None, Some, codes}
use Rattle.dns_names.specs.FaultText.{name_fault_text}
use Rattle.client_request.specs.ErrorText as client
use Rattle.resolv_lookup.specs.FaultText.{host_text, query_text, service_text}
use Rattle.stub_resolver.specs.declared.error.Error.{Error}
use Rattle.stub_resolver.specs.declared.error.Error.TheVariants as errors

-- the text; what a system says of its own errors is not told
abbrev pub error_text : Error → Option (List ℕ)
error_text (errors.Client error) = Some (client.error_text error)
error_text (errors.Query fault) = Some (query_text fault)
error_text (errors.Host fault) = Some (host_text fault)
error_text (errors.Service error) = Some (service_text error)
error_text (errors.Name fault) = Some (name_fault_text fault)
error_text (errors.Io error) = None
error_text errors.NoMemory = Some (codes "out of memory")

-- What faults say when they are printed.
use Rattle.std.specs.Prelude.{ℕ, List, ◌++◌, codes}
use Rattle.client_request.specs.ErrorText.{error_text}
use Rattle.resolv_lookup.specs.declared.fault.HostFault.{HostFault}
use Rattle.resolv_lookup.specs.declared.fault.HostFault.TheVariants as hosts
use Rattle.resolv_lookup.specs.declared.fault.QueryFault.{QueryFault}
use Rattle.resolv_lookup.specs.declared.fault.QueryFault.TheVariants as queries
use Rattle.resolv_lookup.specs.declared.fault.SrvError.{SrvError}
use Rattle.resolv_lookup.specs.declared.fault.SrvError.TheVariants as services

abbrev pub query_text : QueryFault → List ℕ
query_text (queries.Client error) = error_text error
query_text queries.NoReply = codes "no reply"

abbrev pub host_text : HostFault → List ℕ
host_text (hosts.Query fault) = query_text fault
host_text hosts.NoQuestion = codes "no question in the answer"
host_text hosts.CnameLoop = codes "no canonical name in the answer"
host_text hosts.NoMemory = codes "out of memory"

abbrev pub service_text : SrvError → List ℕ
service_text services.LongName = codes "name too long"
service_text services.MalformedAnswer = codes "malformed answer"
service_text (services.Query fault) = codes "error executing query " ++ query_text fault
service_text services.NoMemory = codes "out of memory"

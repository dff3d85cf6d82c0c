-- The texts of faults.
use Rattle.std.specs.Prelude.{ℕ, List, codes}
use Rattle.client_request.specs.declared.fault.Fault.{Fault}
use Rattle.client_request.specs.declared.fault.Fault.TheVariants.{Refused, Reset, Unreachable, InUse, Broken, Other, Expired, ShortSend, NothingTaken, EndOfData}

abbrev pub fault_text : Fault → List ℕ
fault_text Refused = codes "connection refused"
fault_text Reset = codes "connection reset"
fault_text Unreachable = codes "unreachable"
fault_text InUse = codes "address in use"
fault_text Broken = codes "broken connection"
fault_text Other = codes "other fault"
fault_text Expired = codes "timeout expired"
fault_text ShortSend = codes "short request sent"
fault_text NothingTaken = codes "nothing was taken"
fault_text EndOfData = codes "end of data"

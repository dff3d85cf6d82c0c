-- The response codes of what questions got.
use Rattle.std.specs.Prelude.{Result, Ok, Err}
use Rattle.dns_base.specs.OptRecord.{opt_rcode}
use Rattle.dns_values.specs.declared.numbers.OptRcode.{OptRcode}
use Rattle.resolv_lookup.specs.Asked.{Got}
use Rattle.resolv_lookup.specs.declared.fault.QueryFault.{QueryFault}

-- the twelve bits of the response code, or why there is none
abbrev pub code_got : Got → Result OptRcode QueryFault
code_got (Ok octets) = Ok (record { 0 = opt_rcode octets })
code_got (Err fault) = Err fault

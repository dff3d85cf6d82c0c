-- A question and a record as they are pushed.
use Rattle.std.specs.Prelude.{ℕ}
use Rattle.dns_names.specs.Name.{Labels}
use Rattle.dns_values.specs.declared.numbers.Class.{Class}
use Rattle.dns_values.specs.declared.numbers.Rtype.{Rtype}
use Rattle.dns_values.specs.declared.numbers.Ttl.{Ttl}
use Rattle.dns_base.specs.declared.record_data.RecordData.{RecordData}
use Rattle.dns_base.specs.Message.{Asked, Written}
use Rattle.dns_base.specs.RecordData.{data_view}

abbrev pub question_of : Labels → Rtype → Class → Asked
question_of name rtype class = record { name = name; rtype = rtype.0; class = class.0 }

abbrev pub record_of : Labels → Rtype → Class → Ttl → RecordData → Written
record_of owner rtype class ttl rdata = record { owner = owner; rtype = rtype.0; class = class.0; ttl = ttl.0; content = data_view rdata }

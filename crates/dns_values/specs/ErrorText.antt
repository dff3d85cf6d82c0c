-- The texts of errors.
use Rattle.std.specs.Prelude.{ℕ, List, codes}
use Rattle.dns_values.specs.declared.streams.ReadFault.{ReadFault}
use Rattle.dns_values.specs.declared.streams.ReadFault.TheVariants as reading
use Rattle.dns_values.specs.declared.sink.SinkFault.{SinkFault}
use Rattle.dns_values.specs.declared.sink.SinkFault.TheVariants as writing

abbrev pub parse_error_text : List ℕ
parse_error_text = codes "the octets do not follow the grammar"

abbrev pub short_message_text : List ℕ
short_message_text = codes "the message is shorter than its header"

abbrev pub long_name_text : List ℕ
long_name_text = codes "the name is too long"

abbrev pub long_opt_data_text : List ℕ
long_opt_data_text = codes "the data of the OPT record is too long"

abbrev pub failed_text : List ℕ
failed_text = codes "reading, writing or opening failed"

abbrev pub no_memory_text : List ℕ
no_memory_text = codes "out of memory"

abbrev pub read_fault_text : ReadFault → List ℕ
read_fault_text reading.Failed = codes "reading failed"
read_fault_text reading.TooLong = codes "the input is too long"
read_fault_text reading.NoMemory = no_memory_text

abbrev pub sink_fault_text : SinkFault → List ℕ
sink_fault_text writing.Failed = codes "writing failed"
sink_fault_text writing.NoMemory = no_memory_text

-- Why a configuration was not read, and what is printed of it.
use Rattle.std.specs.Prelude.{ℕ, List, codes}
use Rattle.dns_values.specs.declared.streams.ReadFault.{ReadFault}
use Rattle.dns_values.specs.declared.streams.ReadFault.TheVariants as Reading
use Rattle.resolv_conf.specs.declared.error.Error.{Error}
use Rattle.resolv_conf.specs.declared.error.Error.TheVariants.{ParseError, Io, TooLong, NoMemory}
use Rattle.resolv_conf.specs.declared.error.IoFault.{IoFault}
use Rattle.resolv_conf.specs.declared.error.IoFault.TheVariants.{Read, NotUtf8}

abbrev pub io_text : IoFault → List ℕ
io_text Read = codes "read failed"
io_text (NotUtf8 n) = codes "line is not UTF-8"

abbrev pub error_text : Error → List ℕ
error_text (ParseError n) = codes "error parsing configuration"
error_text (Io fault) = io_text fault
error_text TooLong = codes "input too long"
error_text NoMemory = codes "out of memory"

abbrev pub read_error : ReadFault → Error
read_error Reading.Failed = Io Read
read_error Reading.TooLong = TooLong
read_error Reading.NoMemory = NoMemory

-- The texts of refusals.
use Rattle.std.specs.Prelude.{ℕ, List, codes}
use Rattle.dns_base.specs.declared.push_error.PushError.{PushError}
use Rattle.dns_base.specs.declared.push_error.PushError.TheVariants as refusals

abbrev pub push_error_text : PushError → List ℕ
push_error_text refusals.Count = codes "the section is full"
push_error_text refusals.Limit = codes "the message would pass its limit"
push_error_text refusals.NoMemory = codes "out of memory"

-- Of a request, by what its base has: whether it is read, passes a count, fits, is valid and may be kept.
use Rattle.std.specs.Prelude.{◌≡◌, ◌≤◌, ℕ, ◌+◌, ◌==◌, ◌&&◌, ◌||◌, not, nat_lt, nat_le, Bool, false, length, is_some, Option, Some, None}
use Rattle.std.specs.Option.{option_map_or}
use Rattle.dns_base.specs.{Header.opcode_of, Message.sole_question, OptRecord.OptFields}
use Rattle.client_request.specs.Request.{Request, opt_or_empty, is_misformed}
use Rattle.right_trace.specs.Messages.{base_is_read, passes_count, is_valid}
use Rattle.right_trace.specs.Keys.{is_cacheable}
use Rattle.message_judging.specs.declared.validity.sizes.BaseSize.{BaseSize}
use Rattle.message_judging.specs.declared.validity.validity.RequestValidity.{RequestValidity}
use Rattle.message_judging.specs.validity.Sizes.{size_of_base}

-- with an OPT record behind its records
abbrev pub has_too_many : Option BaseSize → Bool
has_too_many None = false
has_too_many (Some x) = nat_lt 65535 x.questions || (nat_lt 65535 x.answer || (nat_lt 65535 x.authority || nat_lt 65535 (x.additional + 1)))

-- with an OPT record, of eleven octets and its options, and in that an option of four octets more
abbrev pub is_short : (options : ℕ) → Option BaseSize → Bool
is_short n None = false
is_short n (Some x) = nat_le (x.octets + (15 + n)) 65535

abbrev pub options_of : Option OptFields → ℕ
options_of opt = length (opt_or_empty opt).options

abbrev pub asks_one_in : Request → Bool
asks_one_in r = opcode_of r.header == 0 && option_map_or (λ q. q.class == 1) (sole_question r.base) false

-- of a request that is not misformed
abbrev pub found_of : Request → Option BaseSize → RequestValidity
found_of r x = record {
  is_read = is_some x;
  passes_count = has_too_many x;
  is_valid = is_some x && (not (has_too_many x) && is_short (options_of r.opt) x);
  is_cacheable = is_some x && asks_one_in r;
}

-- these are what the definitions of a right trace say of a request
pub record IsFound (r : Request) (v : RequestValidity) : Type 0 where
  pub is_read : v.is_read ≡ base_is_read r
  pub passes_count : v.passes_count ≡ passes_count r
  pub is_valid : v.is_valid ≡ is_valid r
  pub is_cacheable : v.is_cacheable ≡ is_cacheable r

abbrev pub ValidityIsDecided : Type 0
ValidityIsDecided = (r : Request) → 12 ≤ length r.base → is_misformed r.base ≡ false → IsFound r (found_of r (size_of_base r.base))

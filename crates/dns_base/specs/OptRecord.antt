-- The OPT record of a message (RFC 6891 6.1).
use Rattle.std.specs.Prelude.{ℕ, ◌+◌, ◌*◌, ◌/◌, ◌%◌, ◌^◌, List, [], ◌∷◌, length, Option, Some, None, Result, Ok, Err, option_and_then, option_map, ◌==◌, ◌&&◌, Bool, if◌then◌else◌}
use Rattle.std.specs.Option.{option_or, option_map_or}
use Rattle.dns_values.specs.declared.error.ParseError.{ParseError}
use Rattle.dns_base.specs.Numbers.{◌>>=◌}
use Rattle.dns_base.specs.Header.{has_bit, rcode_of}
use Rattle.dns_base.specs.Message.{Entry, Known, record_at, additional_items}

pub record OptFields : Type 0 where
  pub udp_payload_size : ℕ
  pub ext_rcode : ℕ
  pub version : ℕ
  pub flags : ℕ
  pub options : List ℕ

-- The class has the payload size, and the TTL all the rest.
abbrev pub opt_fields : Entry → OptFields
opt_fields entry = record {
  udp_payload_size = entry.class;
  ext_rcode = entry.ttl / 2 ^ 24;
  version = entry.ttl / 2 ^ 16 % 2 ^ 8;
  flags = entry.ttl % 2 ^ 16;
  options = entry.octets;
}

-- the highest flag: the sender takes DNSSEC records (RFC 3225 3)
abbrev pub dnssec_ok : OptFields → Bool
dnssec_ok opt = has_bit 0x8000 opt.flags

-- of a record that is one by its type, and whose data is read
abbrev pub opt_in : Known → Option OptFields
opt_in known = if known.entry.rtype == 41 then option_map (λ _. opt_fields known.entry) known.says else None

-- octets that are one OPT record of the root
unfoldable pub opt_record : List ℕ → Option OptFields
opt_record octets = do
  found ← record_at octets 0
  if length found.0.entry.owner == 0 && found.1 == length octets then opt_in found.0 else None

-- the first of them before the first record that can't be read
abbrev pub first_opt : List (Result Known ParseError) → Option OptFields
first_opt [] = None
first_opt (Err e ∷ items) = None
first_opt (Ok known ∷ items) = option_or (opt_in known) (first_opt items)

unfoldable pub opt_of : List ℕ → Option OptFields
opt_of octets = option_and_then first_opt (additional_items octets)

-- the twelve bits of the response code
unfoldable pub opt_rcode : List ℕ → ℕ
opt_rcode octets = 16 * option_map_or (λ opt. opt.ext_rcode) (opt_of octets) 0 + rcode_of octets

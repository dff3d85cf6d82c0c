-- Messages of a question and an OPT record at most: their octets, with the name spelled out (RFC 1035 4.1, RFC 6891 6.1.2).
use Rattle.std.specs.Prelude.{ℕ, Bool, List, [], ◌∷◌, ◌++◌, length, Option, Some, None, if◌then◌else◌}
use Rattle.std.specs.Int.{w16, to_be_bytes}
use Rattle.dns_names.specs.Name.{spelling}
use Rattle.dns_base.specs.Message.{Asked}
use Rattle.dns_base.specs.OptRecord.{OptFields}

-- the OPT record of this host: at most 1232 octets in a datagram, version 0, these high bits of a response code, and no options
abbrev pub own_opt : (high : ℕ) → (dnssec_ok : Bool) → OptFields
own_opt high dnssec_ok = record {
  udp_payload_size = 1232;
  ext_rcode = high;
  version = 0;
  flags = (if dnssec_ok then 0x8000 else 0);
  options = [];
}

-- a record of the root of type OPT: the size stands for its class, and the rest before the options for its TTL
unfoldable pub opt_octets : OptFields → List ℕ
opt_octets opt =
    (0 ∷ 0 ∷ 41 ∷ []) ++ (to_be_bytes w16 opt.udp_payload_size ++ ((opt.ext_rcode ∷ opt.version ∷ [])
    ++ (to_be_bytes w16 opt.flags ++ (to_be_bytes w16 (length opt.options) ++ opt.options))))

abbrev pub question_octets : Asked → List ℕ
question_octets q = spelling q.name ++ (to_be_bytes w16 q.rtype ++ to_be_bytes w16 q.class)

-- four counts: so many questions, no record in the answer and authority sections, and so many in the additional section
abbrev pub counts_octets : (questions additional : ℕ) → List ℕ
counts_octets questions additional = 0 ∷ questions ∷ 0 ∷ 0 ∷ 0 ∷ 0 ∷ 0 ∷ additional ∷ []

-- a header alone
abbrev pub bare : (header : List ℕ) → List ℕ
bare header = header ++ counts_octets 0 0

-- a header and an OPT record
abbrev pub extended : (header : List ℕ) → OptFields → List ℕ
extended header opt = header ++ (counts_octets 0 1 ++ opt_octets opt)

-- a header, a question, and an OPT record if there is one
abbrev pub spelled : (header : List ℕ) → Asked → Option OptFields → List ℕ
spelled header q None = header ++ (counts_octets 1 0 ++ question_octets q)
spelled header q (Some opt) = header ++ (counts_octets 1 1 ++ (question_octets q ++ opt_octets opt))

-- A query of a DNS client that is taken: what is kept of it.
use Rattle.std.specs.Prelude.{ℕ, ◌+◌, List, [], ◌∷◌, ◌++◌, map, Option, Bool, false, ◌==◌, ◌||◌, if◌then◌else◌}
use Rattle.std.specs.Char.{to_ascii_lowercase}
use Rattle.std.specs.Int.{w16, to_be_bytes}
use Rattle.dns_names.specs.Name.{spelling}
use Rattle.std.specs.Option.{option_map_or}
use Rattle.dns_base.specs.Header.{ad_of, cd_of, rd_of}
use Rattle.dns_base.specs.Message.{Asked}
use Rattle.front_queries.specs.declared.query.Extension.{Extension}

-- the first four octets, the question, and what its OPT record says, if it has one
pub record Query : Type 0 where
  pub header : List ℕ
  pub asked : Asked
  pub extension : Option Extension

-- IXFR and AXFR ask for a zone
abbrev pub is_of_zone : (rtype : ℕ) → Bool
is_of_zone rtype = rtype == 251 || rtype == 252

-- the client takes DNSSEC records (RFC 3225 3)
abbrev pub takes_dnssec : Query → Bool
takes_dnssec q = option_map_or (λ e. e.dnssec_ok) q.extension false

-- it takes DNSSEC records, or asks whether the data is authentic (RFC 6840 5.7)
abbrev pub asks_authentic : Query → Bool
asks_authentic q = takes_dnssec q || ad_of q.header

abbrev pub bit : (value : ℕ) → Bool → ℕ
bit value on = if on then value else 0

-- what is asked of DNSSEC and of recursion
abbrev pub flags_of : Query → ℕ
flags_of q = bit 8 (takes_dnssec q) + bit 4 (asks_authentic q) + bit 2 (cd_of q.header) + bit 1 (rd_of q.header)

-- What is asked, whatever the case of the name: one result serves all queries that are equal in it. (The length of a label is below each letter.)
abbrev pub key_of : Query → List ℕ
key_of q = map to_ascii_lowercase (spelling q.asked.name) ++ (to_be_bytes w16 q.asked.rtype ++ (to_be_bytes w16 q.asked.class ++ flags_of q ∷ []))

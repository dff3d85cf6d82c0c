-- The request that is made of a query that is taken.
use Rattle.std.specs.Prelude.{ℕ, true, List, [], ◌∷◌, Some, None, slice_index, bit_and, if◌then◌else◌}
use Rattle.client_request.specs.Request.{Request}
use Rattle.front_queries.specs.Query.{Query, takes_dnssec}
use Rattle.front_queries.specs.Spelled.{own_opt, spelled}

-- the query's id, and of its flags RD, AD and CD
abbrev pub request_header : List ℕ → List ℕ
request_header header =
    slice_index header 0 ∷ slice_index header 1 ∷ bit_and (slice_index header 2) 0x01 ∷ bit_and (slice_index header 3) 0x30 ∷ []

-- The question under that header, and an OPT record of this host where the client takes DNSSEC records. No record and no option of the query goes on.
abbrev pub request_of : Query → Request
request_of q = record {
  base = spelled (request_header q.header) q.asked None;
  header = request_header q.header;
  opt = (if takes_dnssec q then Some (own_opt 0 true) else None);
}

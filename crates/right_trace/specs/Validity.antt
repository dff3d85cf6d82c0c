-- How long a result may be kept, in microseconds (RFC 2308 3, 5), and what is deferred.
use Rattle.std.specs.Prelude.{ℕ, ◌*◌, min, Bool, false, not, ◌&&◌, ◌||◌, ◌==◌, nat_lt, if◌then◌else◌, is_some, Option, Some, None, List, [], ◌∷◌, Result, Ok, Err}
use Rattle.dns_base.specs.Message.{Asked}
use Rattle.dns_base.specs.OptRecord.{opt_rcode}
use Rattle.client_request.specs.Request.{Request}
use Rattle.client_request.specs.declared.error.Error.{Error}
use Rattle.right_trace.specs.Messages.{Octets, truncated}
use Rattle.right_trace.specs.Settings.{Settings}
use Rattle.right_trace.specs.Keys.{is_cacheable}
use Rattle.right_trace.specs.Parts.{Item, Parts, read_parts, known_parts}

-- 1 s
unfoldable pub second : ℕ
second = 1_000_000

module _ {C : Type 0} where
  -- a record of this type and class is among these
  abbrev pub has_item : (rtype class : ℕ) → List (Item C) → Bool
  has_item t c [] = false
  has_item t c (x ∷ xs) = ((x.rtype == t) && (x.class == c)) || has_item t c xs

  -- the least TTL of these records and n
  abbrev pub least : (n : ℕ) → List (Item C) → ℕ
  least n [] = n
  least n (x ∷ xs) = least (min n (x.ttl * second)) xs

  -- OPT records, type 41, have no TTL (RFC 6891 6.1.3)
  abbrev pub without_opt : List (Item C) → List (Item C)
  without_opt [] = []
  without_opt (x ∷ xs) = if x.rtype == 41 then without_opt xs else x ∷ without_opt xs

  -- the limit of a message without error, by its first question: SOA is type 6, NS type 2 (RFC 2308 2.2, 5)
  abbrev pub good_limit : Settings → Parts C → List Asked → ℕ
  good_limit s x [] = 0
  good_limit s x (q ∷ qs) =
      if has_item q.rtype q.class x.answer then s.max_validity
      else (if has_item 6 q.class x.authority then s.max_nodata_validity
      else (if has_item 2 q.class x.authority then s.max_delegation_validity else 0))

  -- the limit of a message that says that the name is not there, by its first question: it is kept only with the zone's SOA (RFC 2308 3, 5)
  abbrev pub absent_limit : Settings → Parts C → List Asked → ℕ
  absent_limit s x [] = 0
  absent_limit s x (q ∷ qs) = if has_item 6 q.class x.authority then s.max_nxdomain_validity else 0

  -- the limit of a message, by its response code; 3 says that the name is not there
  abbrev pub limit : Settings → Parts C → ℕ
  limit s x = if x.code == 0 then good_limit s x x.questions else (if x.code == 3 then absent_limit s x x.questions else s.misc_error_duration)

  abbrev pub validity_of_parts : Settings → Parts C → ℕ
  validity_of_parts s x =
      if x.header.tc && not s.cache_truncated then 0
      else least (least (least (min s.max_validity (limit s x)) x.answer) x.authority) (without_opt x.additional)

-- the validity of a message; none where it is not read, and 0 where the data of a record is not read by its type: no view of it could be made
abbrev pub validity_read : Settings → (is_known : Bool) → Option (Parts Octets) → Option ℕ
validity_read s b (Some x) = Some (if b then validity_of_parts s x else 0)
validity_read s b None = None

unfoldable pub validity_of_message : Settings → Octets → Option ℕ
validity_of_message s m = if truncated m && not s.cache_truncated then Some 0 else validity_read s (is_some (known_parts m)) (read_parts m)

-- some validity, above 0
abbrev pub is_above : Option ℕ → Bool
is_above (Some n) = nat_lt 0 n
is_above None = false

-- a message that a later one of another server may replace: REFUSED, 5, or SERVFAIL, 2
unfoldable pub is_deferred : Settings → Octets → Bool
is_deferred s m = (s.defers_refused && (opt_rcode m == 5)) || (s.defers_servfail && (opt_rcode m == 2))

-- a result that is kept back while another server may do better
abbrev pub waits_for_others : Settings → Result Octets Error → Bool
waits_for_others s (Ok m) = is_deferred s m
waits_for_others s (Err e) = s.defers_errors

-- a message that ends the request: it is not deferred, and what the cache keeps has a validity
abbrev pub is_final : Settings → Request → Octets → Bool
is_final s r m = not (is_deferred s m) && (not (is_cacheable r) || is_some (validity_of_message s m))

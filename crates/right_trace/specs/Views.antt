-- A cached message as it is given to another request, later.
use Rattle.std.specs.Prelude.{◌≡◌, ℕ, ◌-◌, ◌/◌, ◌<◌, ◌≤◌, Bool, false, not, ◌&&◌, ◌==◌, if◌then◌else◌, Some, List, [], ◌∷◌, map, ◌+◌, true, ◌||◌}
use Rattle.dns_names.specs.Name.{Labels}
use Rattle.dns_base.specs.Data.{Data}
use Rattle.dns_base.specs.Message.{Asked}
use Rattle.dns_base.specs.OptRecord.{opt_rcode}
use Rattle.client_request.specs.Request.{Request}
use Rattle.right_trace.specs.Messages.{Octets}
use Rattle.right_trace.specs.Settings.{Settings}
use Rattle.right_trace.specs.Keys.{Key, key_of, spelled_name, is_do, is_plain, is_signing}
use Rattle.right_trace.specs.Parts.{IsIn, Header, Item, Parts, known_parts}
use Rattle.right_trace.specs.Validity.{second, validity_of_message, validity_of_parts}

-- AA is clear; so are AD and RD where only the first request asked for them (RFC 6840 5.8)
abbrev pub viewed_header : (q r : Key) → Header → Header
viewed_header q r x = record {
  id = x.id;
  opcode = x.opcode;
  rcode = x.rcode;
  qr = x.qr;
  aa = false;
  tc = x.tc;
  rd = x.rd && not (q.rd && not r.rd);
  ra = x.ra;
  z = x.z;
  ad = x.ad && not (is_plain r.flags && not (is_plain q.flags));
  cd = x.cd;
}

-- a question with this name
abbrev pub with_name : (name : Labels) → Asked → Asked
with_name n q = record { name = n; rtype = q.rtype; class = q.class }

-- only the first asked for them
abbrev pub leaves_out : (q r : Key) → Bool
leaves_out q r = is_do q.flags && not (is_do r.flags)

module _ {C : Type 0} where
  -- a record with its TTL lessened
  abbrev pub lessened : (seconds : ℕ) → Item C → Item C
  lessened n x = record { owner = x.owner; rtype = x.rtype; class = x.class; ttl = x.ttl - n; content = x.content }

  -- the same, but for an OPT record
  abbrev pub mostly_lessened : (seconds : ℕ) → Item C → Item C
  mostly_lessened n x = if x.rtype == 41 then x else lessened n x

  -- without RRSIG, NSEC and NSEC3 where only the first request asked for them (RFC 4035 3.2.1)
  abbrev pub without_signing : Bool → List (Item C) → List (Item C)
  without_signing b [] = []
  without_signing b (x ∷ xs) = if b && is_signing x.rtype then without_signing b xs else x ∷ without_signing b xs

  -- a message with this key's flags as one with that key and this spelling of the name is given it, so many seconds later
  abbrev pub viewed : (q r : Key) → (name : Labels) → (seconds : ℕ) → Parts C → Parts C
  viewed q r name n x = record {
    header = viewed_header q r x.header;
    code = x.code;
    questions = map (with_name name) x.questions;
    answer = map (lessened n) (without_signing (leaves_out q r) x.answer);
    authority = map (lessened n) (without_signing (leaves_out q r) x.authority);
    additional = map (mostly_lessened n) (without_signing (leaves_out q r) x.additional);
  }

  -- the view at an age: each TTL is less by its whole seconds (RFC 1034 5.3.3)
  abbrev pub view_of : (q r : Request) → (age : ℕ) → Parts C → Parts C
  view_of q r age x = viewed (key_of q) (key_of r) (spelled_name r) (age / second) x

  -- a record with this TTL
  abbrev pub with_ttl : (ttl : ℕ) → Item C → Item C
  with_ttl n x = record { owner = x.owner; rtype = x.rtype; class = x.class; ttl = n; content = x.content }

  -- the same, but for an OPT record
  abbrev pub mostly_with_ttl : (ttl : ℕ) → Item C → Item C
  mostly_with_ttl n x = if x.rtype == 41 then x else with_ttl n x

  -- a message with this TTL in each record
  abbrev pub all_with_ttl : (ttl : ℕ) → Parts C → Parts C
  all_with_ttl n x = record { header = x.header; code = x.code; questions = x.questions; answer = map (with_ttl n) x.answer; authority = map (with_ttl n) x.authority; additional = map (mostly_with_ttl n) x.additional }

  -- a message as it is given when it has expired: each TTL is 30 s (RFC 8767 5)
  abbrev pub stale_of : (q r : Request) → Parts C → Parts C
  stale_of q r x = all_with_ttl 30 (view_of q r 0 x)

  -- how long the view of a message may be given
  abbrev pub view_validity : Settings → (q r : Request) → Parts C → ℕ
  view_validity s q r x = validity_of_parts s (viewed (key_of q) (key_of r) (spelled_name r) 0 x)

  -- the records whose TTLs a view lessens
  pub data IsLessened (q r : Request) (x : Parts C) (y : Item C) : Type 0 where
    OfAnswer : IsIn y (without_signing (leaves_out (key_of q) (key_of r)) x.answer) → IsLessened q r x y
    OfAuthority : IsIn y (without_signing (leaves_out (key_of q) (key_of r)) x.authority) → IsLessened q r x y
    OfAdditional : IsIn y (without_signing (leaves_out (key_of q) (key_of r)) x.additional) → (y.rtype == 41) ≡ false → IsLessened q r x y

-- The view of a message with these parts may be given at this age.
pub record IsValidView (s : Settings) (q r : Request) (m : Octets) (x : Parts Data) (age : ℕ) : Type 0 where
  pub known : known_parts m ≡ Some x
  pub validity : ℕ
  pub is_validity : validity_of_message s m ≡ Some validity
  pub kept : 0 < validity
  pub in_time : age ≤ view_validity s q r x

-- a response code that tells of a name: what it has, or that it is not there
abbrev pub tells_of_name : (code : ℕ) → Bool
tells_of_name n = (n == 0) || (n == 3)

-- a message that tells of none: its server failed (RFC 8767 4)
abbrev pub is_failing_message : Octets → Bool
is_failing_message m = not (tells_of_name (opt_rcode m))

-- A message with these parts that has expired may be given at this age: it tells of a name, and is no failure of a server (RFC 8767 4).
pub record IsValidStale (s : Settings) (q r : Request) (m : Octets) (x : Parts Data) (age : ℕ) : Type 0 where
  pub known : known_parts m ≡ Some x
  pub validity : ℕ
  pub is_validity : validity_of_message s m ≡ Some validity
  pub kept : 0 < validity
  pub tells : tells_of_name x.code ≡ true
  pub allowed : 0 < s.stale_for
  pub in_time : age ≤ view_validity s q r x + s.stale_for

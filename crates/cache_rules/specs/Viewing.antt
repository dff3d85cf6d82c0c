-- The message that is made of a kept one, and what it says.
use Rattle.std.specs.Prelude.{◌≡◌, ℕ, ◌-◌, ◌<◌, ◌≤◌, ◌&&◌, ◌==◌, ◌⊎◌, Bool, false, not, if◌then◌else◌, Option, Some, None, List, Result, Ok, Err, length, map, slice_index}
use Rattle.dns_values.specs.declared.error.ParseError.{ParseError}
use Rattle.dns_values.specs.declared.numbers.Section.{Section}
use Rattle.dns_values.specs.declared.numbers.Section.TheVariants.{Answer, Authority, Additional}
use Rattle.dns_names.specs.Name.{Labels, IsLegal}
use Rattle.dns_base.specs.Header.{with_aa, with_ad, with_rd, rcode_of}
use Rattle.dns_base.specs.Data.{Data}
use Rattle.dns_base.specs.Message.{Asked, Entry, Known, Written}
use Rattle.dns_base.specs.Answering.{question_items}
use Rattle.dns_base.specs.Draft.{Draft, fresh, with_header}
use Rattle.client_request.specs.declared.error.Error.{Error}
use Rattle.client_request.specs.declared.error.Error.TheVariants as errors
use Rattle.client_request.specs.declared.error.CopyRecordsError.TheVariants.{Parse}
use Rattle.client_request.specs.Composed.{Copied, ◌>>◌, asks, adds, each, section_items, message_of}
use Rattle.right_trace.specs.Keys.{FlagClass, Key, is_do, is_plain, is_signing}
use Rattle.right_trace.specs.Messages.{Octets}
use Rattle.right_trace.specs.Parts.{Item, Parts, flags_in, known_parts, Says}
use Rattle.right_trace.specs.Views.{with_name, leaves_out, lessened, mostly_lessened, with_ttl, mostly_with_ttl, without_signing, viewed, all_with_ttl}
use Rattle.cache_rules.specs.declared.copying.Ttls.{Ttls}
use Rattle.cache_rules.specs.declared.copying.Ttls.TheVariants.{Lessened, Stale}

-- AA is clear; so is AD where only the first asked for it, and RD where that is so of recursion
abbrev pub without_ad : Bool → List ℕ → List ℕ
without_ad b header = if b then with_ad false header else header

abbrev pub without_rd : Bool → List ℕ → List ℕ
without_rd b header = if b then with_rd false header else header

abbrev pub header_between : (from to : FlagClass) → (clear_rd : Bool) → List ℕ → List ℕ
header_between from to b header = without_rd b (without_ad (is_plain to && not (is_plain from)) (with_aa false header))

-- what signs is left out where only the first asked for it
abbrev pub drops_signing : (from to : FlagClass) → Bool
drops_signing from to = is_do from && not (is_do to)

-- so many seconds less; or 30, where the message has expired (RFC 8767 5)
abbrev pub ttl_by : Ttls → (ttl : ℕ) → ℕ
ttl_by (Lessened n) ttl = ttl - n
ttl_by Stale ttl = 30

-- the same, but for an OPT record of the additional section
abbrev pub ttl_then : Section → Ttls → (rtype ttl : ℕ) → ℕ
ttl_then Answer n t ttl = ttl_by n ttl
ttl_then Authority n t ttl = ttl_by n ttl
ttl_then Additional n t ttl = if t == 41 then ttl else ttl_by n ttl

-- a record with the TTL that it is given with, and the same but for an OPT record
abbrev pub aged : Ttls → Item Data → Item Data
aged (Lessened n) = lessened n
aged Stale = with_ttl 30

abbrev pub mostly_aged : Ttls → Item Data → Item Data
mostly_aged (Lessened n) = mostly_lessened n
mostly_aged Stale = mostly_with_ttl 30

-- the view of a message with the TTLs that it is given with
abbrev pub viewed_by : (q r : Key) → Labels → Ttls → Parts Data → Parts Data
viewed_by q r name n x = record (viewed q r name 0 x) {
  answer = map (aged n) (without_signing (leaves_out q r) x.answer);
  authority = map (aged n) (without_signing (leaves_out q r) x.authority);
  additional = map (mostly_aged n) (without_signing (leaves_out q r) x.additional);
}

abbrev pub written_then : Section → (ttls : Ttls) → Entry → Data → Written
written_then s n e d = record { owner = e.owner; rtype = e.rtype; class = e.class; ttl = ttl_then s n e.rtype e.ttl; content = d }

-- a question under this name
abbrev pub asks_under : Labels → Asked → Draft → Copied
asks_under name q d = asks (with_name name q) d

-- a record, if its data is read, unless it signs and that is left out
abbrev pub carries_data : Section → (drops : Bool) → (ttls : Ttls) → Entry → Option Data → Draft → Copied
carries_data s b n e None d = Err (Parse (record {}))
carries_data s b n e (Some x) d = if b && is_signing e.rtype then Ok d else adds s (written_then s n e x) d

abbrev pub carries : Section → (drops : Bool) → (ttls : Ttls) → Known → Draft → Copied
carries s b n k d = carries_data s b n k.entry k.says d

-- the records of a section, where those before it are read
abbrev pub carries_found : Section → (drops : Bool) → (ttls : Ttls) → Option (List (Result Known ParseError)) → Draft → Copied
carries_found s b n None d = Err (Parse (record {}))
carries_found s b n (Some items) d = each (carries s b n) items d

abbrev pub carries_section : Section → (drops : Bool) → (ttls : Ttls) → Octets → Draft → Copied
carries_section s b n m d = carries_found s b n (section_items s m) d

-- the questions and records of a message in order
abbrev pub carries_all : Labels → (drops : Bool) → (ttls : Ttls) → Octets → Draft → Copied
carries_all name b n m d =
    each (asks_under name) (question_items m) d
    >> carries_section Answer b n m
    >> carries_section Authority b n m
    >> carries_section Additional b n m

unfoldable pub carried : (header : List ℕ) → Labels → (drops : Bool) → (ttls : Ttls) → Octets → Draft → Copied
carried header name b n m d = carries_all name b n m d >> (λ all. Ok (with_header header all))

-- the octets of a message under a header, or the first refusal in its order
unfoldable pub octets_by : (header : List ℕ) → Labels → (drops : Bool) → (ttls : Ttls) → Octets → Result Octets Error
octets_by header name b n m = message_of (carried header name b n m (fresh None))

-- the same, so many seconds later
abbrev pub view_octets : (header : List ℕ) → Labels → (drops : Bool) → (seconds : ℕ) → Octets → Result Octets Error
view_octets header name b n m = octets_by header name b (Lessened n) m

-- A header of four octets, a name that may be written, and a message of octets.
pub record IsViewable (header : List ℕ) (name : Labels) (m : Octets) : Type 0 where
  pub octets : (i : ℕ) → slice_index m i < 256
  pub long : 12 ≤ length m
  pub header_is : length header ≡ 4
  pub legal : IsLegal name

-- the same parts under another header
abbrev pub under_header : {C : Type 0} → List ℕ → Parts C → Parts C
under_header header x = record x { header = flags_in header }

-- A message under these flags is given to a request of others.
pub record IsBetween (from to : FlagClass) (clear_rd : Bool) (q r : Key) : Type 0 where
  pub first : q.flags ≡ from
  pub second : r.flags ≡ to
  pub recursion : (q.rd && not r.rd) ≡ clear_rd

-- The message is read by type, and octets say its view for every two keys of these flags.
pub record SaysView (from to : FlagClass) (clear_rd : Bool) (name : Labels) (ttls : Ttls) (m octets : Octets) : Type 0 where
  pub parts : Parts Data
  pub known : known_parts m ≡ Some parts
  pub says : (q r : Key) → IsBetween from to clear_rd q r → Says octets (viewed_by q r name ttls parts)

-- The same of the entries of a message under a header of its own, of the same response code.
pub record SaysEntries (header : List ℕ) (from to : FlagClass) (name : Labels) (ttls : Ttls) (m octets : Octets) : Type 0 where
  pub parts : Parts Data
  pub known : known_parts m ≡ Some parts
  pub says : (q r : Key) → q.flags ≡ from → r.flags ≡ to → rcode_of header ≡ rcode_of m → Says octets (under_header header (viewed_by q r name ttls parts))

-- A message that is read by type gives no error but want of memory, and another none but that.
abbrev pub IsRefusedView : Octets → Error → Type 0
IsRefusedView m e = (e ≡ errors.NoMemory) ⊎ ((e ≡ errors.MessageParseError) × (known_parts m ≡ None))

-- The same where the message has expired.
pub record SaysExpired (header : List ℕ) (flags : FlagClass) (name : Labels) (m octets : Octets) : Type 0 where
  pub parts : Parts Data
  pub known : known_parts m ≡ Some parts
  pub says : (k : Key) → k.flags ≡ flags → rcode_of header ≡ rcode_of m → Says octets (under_header header (all_with_ttl 30 (viewed k k name 0 parts)))

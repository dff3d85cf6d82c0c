-- What holds of keys, and of views of views.
use Rattle.std.specs.Prelude.{◌≡◌, ℕ, true, false, not, ◌&&◌, if◌then◌else◌, Option, Some, None, List, length}
use Rattle.dns_names.specs.Name.{Labels}
use Rattle.dns_base.specs.Data.{Data}
use Rattle.client_request.specs.Request.{Request, is_dnssec_ok}
use Rattle.client_request.specs.Carries.{SaysRequest, IsOfOctets}
use Rattle.right_trace.specs.Messages.{Octets, base_is_read}
use Rattle.right_trace.specs.Keys.{Key, KeysCover, key_of, is_cacheable}
use Rattle.right_trace.specs.Settings.{Settings}
use Rattle.right_trace.specs.Parts.{Header, Parts, flags_in, known_parts, Says}
use Rattle.right_trace.specs.Validity.{validity_of_parts, validity_of_message}
use Rattle.right_trace.specs.Views.{viewed_header, leaves_out, viewed}
use Rattle.cache_rules.specs.Key.{key_in}
use Rattle.cache_rules.specs.Viewing.{header_between, under_header}

-- the key of a request whose results are kept
abbrev pub kept_key : Request → Option Key
kept_key r = if is_cacheable r then Some (key_of r) else None

-- A request's own message, and every message that says the request, shows its key.
pub record KeysAreOfRequests : Type 0 where
  pub of_base : (r : Request) → base_is_read r ≡ true → key_in r.header (is_dnssec_ok r) r.base ≡ kept_key r
  pub of_message : (r : Request) (m : Octets) → IsOfOctets r → SaysRequest m r → key_in r.header (is_dnssec_ok r) m ≡ kept_key r

-- Views of views, whatever the octets are in which they are kept.
pub record ViewLaws : Type 0 where
  -- a header that is derived once more is that of the view of the first
  pub headers : (q m r : Key) (header : List ℕ) (x : Header) → length header ≡ 4 → KeysCover q m → KeysCover m r → flags_in header ≡ viewed_header q m x
      → flags_in (header_between m.flags r.flags (m.rd && not r.rd) header) ≡ viewed_header q r x
  -- what is given of a message under a derived header is the view of it, where deriving left nothing out
  pub under_headers : (q m r : Key) (header : List ℕ) (name : Labels) (n : ℕ) (x : Parts Data) → KeysCover q m → KeysCover m r → leaves_out q m ≡ false → flags_in header ≡ viewed_header q r x.header
      → under_header header (viewed m r name n x) ≡ viewed q r name n x
  -- what is given of octets that were derived says the view of the first message
  pub derived : (q m r : Key) (first name : Labels) (n : ℕ) (x d : Parts Data) (kept given : Octets) → KeysCover q m → KeysCover m r → known_parts kept ≡ Some d → Says kept (viewed q m first 0 x)
      → Says given (viewed m r name n d) → Says given (viewed q r name n x)
  -- octets that say these parts may be kept as long as these
  pub validity : (s : Settings) (x : Parts Data) (octets : Octets) → Says octets x → validity_of_message s octets ≡ Some (validity_of_parts s x)

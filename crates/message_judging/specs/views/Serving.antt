-- Whether a message is what a kept one says to a later request, and how that is found.
use Rattle.std.specs.Prelude.{◌≡◌, ℕ, ◌-◌, ◌/◌, ◌&&◌, min, nat_le, Bool, true, false, not, Option, Some, None}
use Rattle.dns_names.specs.Name.{Labels}
use Rattle.dns_base.specs.Data.{Data}
use Rattle.client_request.specs.Request.{Request}
use Rattle.right_trace.specs.{Messages.Octets, Settings.Settings}
use Rattle.right_trace.specs.Keys.{KeysCover, key_of, spelled_name}
use Rattle.right_trace.specs.Parts.{Parts, known_parts, Says}
use Rattle.right_trace.specs.Validity.{is_above, validity_of_message}
use Rattle.right_trace.specs.Views.{viewed, view_of, stale_of, IsValidView, IsValidStale}
use Rattle.cache_rules.specs.Key.{flag_class}
use Rattle.cache_rules.specs.Viewing.{SaysView, SaysExpired}
use Rattle.cache_rules.specs.declared.copying.{Ttls.Ttls, Ttls.TheVariants.Lessened}
use Rattle.message_judging.specs.declared.views.serving.Flags.{Flags}

-- a request has these flags
pub record HasFlags (r : Request) (f : Flags) : Type 0 where
  pub class : (key_of r).flags ≡ flag_class f.class
  pub rd : (key_of r).rd ≡ f.rd

-- RD is clear where only the first asked for it
abbrev pub clears_rd : (from to : Flags) → Bool
clears_rd from to = from.rd && not to.rd

-- an age in whole seconds, as far as a TTL goes
abbrev pub seconds_of : (age : ℕ) → ℕ
seconds_of age = min (age / 1000000) 4294967295

-- the view of a kept message, or that it is not read by type
abbrev pub IsMade : (kept : Octets) → (from to : Flags) → Labels → Ttls → Option Octets → Type 0
IsMade kept from to name ttls (Some y) = SaysView (flag_class from.class) (flag_class to.class) (clears_rd from to) name ttls kept y
IsMade kept from to name ttls None = known_parts kept ≡ None

-- what has expired of a view under its own header, or that it is not read by type
abbrev pub IsExpired : (view header : Octets) → (to : Flags) → Labels → Option Octets → Type 0
IsExpired view header to name (Some y) = SaysExpired header (flag_class to.class) name view y
IsExpired view header to name None = known_parts view ≡ None

-- an age is no more than a validity, and so much
abbrev pub is_within : (more age : ℕ) → Option ℕ → Bool
is_within more age None = false
is_within more age (Some n) = nat_le (age - n) more

-- a message may be kept, and these octets are its view at no age, which is valid for an age but for so much
pub record IsFound (s : Settings) (kept : Octets) (from to : Flags) (name : Labels) (more age : ℕ) (view : Octets) : Type 0 where
  pub above : is_above (validity_of_message s kept) ≡ true
  pub says : SaysView (flag_class from.class) (flag_class to.class) (clears_rd from to) name (Lessened 0) kept view
  pub within : is_within more age (validity_of_message s view) ≡ true

-- why there is none
pub data IsLate (s : Settings) (kept : Octets) (from to : Flags) (name : Labels) (more age : ℕ) : Type 0 where
  NotKept : is_above (validity_of_message s kept) ≡ false → IsLate s kept from to name more age
  Unread : known_parts kept ≡ None → IsLate s kept from to name more age
  Late : (view : Octets) → SaysView (flag_class from.class) (flag_class to.class) (clears_rd from to) name (Lessened 0) kept view → is_within more age (validity_of_message s view) ≡ false → IsLate s kept from to name more age

abbrev pub IsWithin : Settings → (kept : Octets) → (from to : Flags) → Labels → (more age : ℕ) → Option Octets → Type 0
IsWithin s kept from to name more age (Some view) = IsFound s kept from to name more age view
IsWithin s kept from to name more age None = IsLate s kept from to name more age

-- The answer whether octets say the view so many seconds later, of all requests with these flags of which the second spells this name.
pub record TellsAged (kept : Octets) (from to : Flags) (name : Labels) (seconds : ℕ) (given : Octets) (b : Bool) : Type 0 where
  pub so : (q r : Request) (x : Parts Data) → HasFlags q from → HasFlags r to → known_parts kept ≡ Some x → b ≡ true → Says given (viewed (key_of q) (key_of r) name seconds x)
  pub back : (q r : Request) (x : Parts Data) → HasFlags q from → HasFlags r to → known_parts kept ≡ Some x → Says given (viewed (key_of q) (key_of r) name seconds x) → b ≡ true

-- octets are the valid view of a kept message at an age
pub record IsViewOf (s : Settings) (q r : Request) (kept : Octets) (age : ℕ) (given : Octets) : Type 0 where
  pub parts : Parts Data
  pub valid : IsValidView s q r kept parts age
  pub says : Says given (view_of q r age parts)

-- octets are what a kept message says when it has expired, at an age
pub record IsStaleOf (s : Settings) (q r : Request) (kept : Octets) (age : ℕ) (given : Octets) : Type 0 where
  pub parts : Parts Data
  pub valid : IsValidStale s q r kept parts age
  pub says : Says given (stale_of q r parts)

-- the answers, of all requests with these flags of which the second spells this name
pub record TellsView (s : Settings) (kept : Octets) (from to : Flags) (name : Labels) (age : ℕ) (given : Octets) (b : Bool) : Type 0 where
  pub so : (q r : Request) → HasFlags q from → HasFlags r to → spelled_name r ≡ name → b ≡ true → IsViewOf s q r kept age given
  pub back : (q r : Request) → HasFlags q from → HasFlags r to → spelled_name r ≡ name → IsViewOf s q r kept age given → b ≡ true

pub record TellsStale (s : Settings) (kept : Octets) (from to : Flags) (name : Labels) (age : ℕ) (given : Octets) (b : Bool) : Type 0 where
  pub so : (q r : Request) → KeysCover (key_of q) (key_of r) → HasFlags q from → HasFlags r to → spelled_name r ≡ name → b ≡ true → IsStaleOf s q r kept age given
  pub back : (q r : Request) → KeysCover (key_of q) (key_of r) → HasFlags q from → HasFlags r to → spelled_name r ≡ name → IsStaleOf s q r kept age given → b ≡ true

-- Whether a request would have its result at once.
use Rattle.std.specs.Prelude.{ℕ, Bool, true, false, List}
use Rattle.client_settings.specs.Settings.{CacheSettings}
use Rattle.client_cache.specs.declared.steps.Way.{Way}
use Rattle.client_cache.specs.declared.steps.Way.TheVariants.{Given, Asks}
use Rattle.client_cache.specs.Keeping.{Outcome, Table}
use Rattle.client_cache.specs.Plain.{Kept, Reading, way_of}

-- It has its result, and is not handed on.
abbrev pub is_given : Way → Bool
is_given (Given outcome) = true
is_given (Asks key spare) = false

-- a request with this header and this DO, of which a message is composed or not
abbrev pub is_served : CacheSettings → (header : List ℕ) → (dnssec_ok : Bool) → (now : ℕ) → Table → Outcome → Bool
is_served s header dnssec_ok now t composed = is_given (way_of s header dnssec_ok now t composed).0

-- a request that is asked at a moment
abbrev pub would_serve : {R : Type 0} → Reading R → R → (now : ℕ) → Kept → Bool
would_serve reading request now k = is_served k.settings (reading.header request) (reading.dnssec_ok request) now k.table (reading.composed request)

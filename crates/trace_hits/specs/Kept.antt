-- Replies that must be given again, by the key of the request to which each was.
use Rattle.std.specs.Prelude.{ℕ, ◌+◌, ◌-◌, ◌==◌, Bool, if◌then◌else◌, is_some, List, Option, Some, None}
use Rattle.client_request.specs.Request.{Request}
use Rattle.client_settings.specs.Settings.{CacheSettings}
use Rattle.right_trace.specs.{Time.one_if, Messages.Octets, Keys.Key, Validity.validity_of_message}
use Rattle.cache_rules.specs.Validity.{cached_by}
use Rattle.trace_hits.specs.declared.kept.Kept.{Kept}
use Rattle.trace_hits.specs.declared.point.Point.{Point}
use Rattle.trace_hits.specs.declared.question.Question.{Question}
use Rattle.trace_hits.specs.{Question.IsAsked, Views.TellsView}

abbrev pub Table : Type 0
Table = List (Key × Kept)

-- what is kept of a fresh reply that is put at a point, where it has this validity
abbrev pub begun_for : (k : ℕ) → Octets → Point → Option ℕ → Option Kept
begun_for k m p None = None
begun_for k m p (Some n) =
    if n == 0 then None
    else Some (record { request = k; message = m; moment = p.requests.clock; validity = n; asked = p.requests.asked - one_if (is_some p.here); replied = p.replied + 1 })

abbrev pub begun : CacheSettings → (k : ℕ) → Octets → Point → Option Kept
begun c k m p = begun_for k m p (validity_of_message (cached_by c) m)

-- the answer whether a message is the view of a kept one, of each request that asks this
abbrev pub TellsGivenTo : Question → (age : ℕ) (kept given : Octets) → Bool → Type 0
TellsGivenTo q age kept given b = (r : Request) → IsAsked r q → TellsView r age kept given b

-- What a forward pass keeps of requests that wait: which are valid and have no reply, and where each was sent or written.
use Rattle.std.specs.Prelude.{◌≡◌, ℕ, ◌==◌, ◌&&◌, ◌||◌, not, Bool, true, false, is_some, List, [], ◌∷◌, Option, Some, None}
use Rattle.number_table.specs.Entries.{puts, frees, entry_at}
use Rattle.client_request.specs.Request.{Request}
use Rattle.client_request.specs.declared.event.{Event.Event, What.What, What.TheVariants.Ask, Out.Out, Via.Via}
use Rattle.client_request.specs.declared.event.Out.TheVariants.{Send, Write, Reply}
use Rattle.client_request.specs.declared.event.Via.TheVariants.{Dgram, Stream}
use Rattle.right_trace.specs.Trace.{History, Came, Put, Conf}
use Rattle.right_trace.specs.Messages.{Octets, is_valid}
use Rattle.right_trace.specs.Requests.{Asking, asking, waits}
use Rattle.right_trace.specs.{Parts.IsIn, Writes.waiting_with}
use Rattle.right_trace.specs.Exchanges.{IsAmong, unanswered, octets_for}
use Rattle.message_judging.specs.matching.Matching.{carries_by}
use Rattle.trace_tables.specs.declared.requests.Requests.{Requests}
use Rattle.trace_tables.specs.Lists.{listed, adds}
use Rattle.trace_tables.specs.Requests.{replied_seen}
use Rattle.trace_tables.specs.Requests as requests
use Rattle.trace_tables.specs.sets.Sets.{Members, Rise}
use Rattle.trace_outs.specs.declared.busy.waits.{Carried.Carried, Spot.Spot, Waits.Waits}

abbrev pub nothing : Waits
nothing = record { requests = []; spots = []; carried = [] }

abbrev pub joined : Bool → (k : ℕ) → Members → Members
joined true k es = puts k tt es
joined false k es = es

-- a request is asked, as the next of these
abbrev pub is_asked : Request → Requests → Waits → Waits
is_asked q r t = record t { requests = joined (is_valid q && not (replied_seen r.asked r)) r.asked t.requests }

-- what an event makes of it, over the requests as they were
abbrev pub met : What → Requests → Waits → Waits
met (Ask q) r t = is_asked q r t
met _ r t = t

abbrev pub goes_to : (k p id : ℕ) → Waits → Waits
goes_to k p id t = record t { spots = adds k (record { place = p; id = id }) t.spots }

-- what a request is sent or written as, and whether it carries it, if it was asked
abbrev pub noted_as : (c : Conf) → Via → (k id : ℕ) → Octets → Option Asking → List (ℕ × List Carried) → List (ℕ × List Carried)
noted_as c v k id o None ys = ys
noted_as c v k id o (Some a) ys = adds k (record { via = v; id = id; octets = o; carries = carries_by c.transports.dgram_udp_payload_size v o a.request id }) ys

abbrev pub notes : (c : Conf) → Via → (k id : ℕ) → Octets → Requests → Waits → Waits
notes c v k id o r t = record t { carried = noted_as c v k id o (entry_at k r.askings) t.carried }

-- what an out makes of it, over the requests as they were
abbrev pub has_put : (c : Conf) → Out → Requests → Waits → Waits
has_put c (Send p k i o) r t = goes_to k p i (notes c Dgram k i o r t)
has_put c (Write p k i o) r t = goes_to k p i (notes c Stream k i o r t)
has_put c (Reply k x) r t = record t { requests = frees k t.requests }
has_put c _ r t = t

abbrev pub is_valid_asking : Option Asking → Bool
is_valid_asking None = false
is_valid_asking (Some a) = is_valid a.request

-- request k waits, and is valid
abbrev pub waits_validly : (k : ℕ) → History → Bool
waits_validly k h = waits k h && is_valid_asking (asking k h)

abbrev pub is_spot : (p id : ℕ) → List Spot → Bool
is_spot p id [] = false
is_spot p id (x ∷ xs) = ((x.place == p) && (x.id == id)) || is_spot p id xs

-- what is noted of octets as which a request was sent or written is so
abbrev pub IsSo : (c : Conf) (k : ℕ) → History → Carried → Type 0
IsSo c k h y = (a : Asking) × (asking k h ≡ Some a) × (y.carries ≡ carries_by c.transports.dgram_udp_payload_size y.via y.octets a.request y.id)

-- what is kept is what the definitions say; a request is waited for at no other place than where it was sent or written
pub record Known (c : Conf) (h : History) (t : Waits) : Type 0 where
  pub requests : (k : ℕ) → is_some (entry_at k t.requests) ≡ waits_validly k h
  pub rise : Rise 0 t.requests
  pub sent : (r : Request) (k p id n : ℕ) (o : Octets) → IsAmong o (unanswered c r p k id n h) → is_spot p id (listed k t.spots) ≡ true
  pub written : (ms : List Octets) (k p id : ℕ) (o : Octets) → IsAmong o (octets_for k (waiting_with ms p id h)) → is_spot p id (listed k t.spots) ≡ true
  pub carried : (k : ℕ) (y : Carried) → IsIn y (listed k t.carried) → IsSo c k h y

-- it is known before the first row, and goes on over events and outs
pub record GoesOn (c : Conf) : Type 0 where
  pub begins : Known c [] nothing
  pub event : (h : History) (r : Requests) (t : Waits) (e : Event) → requests.Known h r → Known c h t → Known c (Came e ∷ h) (met e.what r t)
  pub out : (h : History) (r : Requests) (t : Waits) (o : Out) → requests.Known h r → Known c h t → Known c (Put o ∷ h) (has_put c o r t)

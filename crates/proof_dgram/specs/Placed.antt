-- Who is at a place stays there while requests are taken on and given up, so an event that is nothing to the datagrams stays so.
use Rattle.std.specs.Prelude.{◌≡◌, ℕ, ◌<◌, ◌≤◌, ◌⊎◌, Some}
use Rattle.client_request.specs.Request.{Request}
use Rattle.client_request.specs.declared.event.What.{What}
use Rattle.proof_right.specs.machine.Part.{Act}
use Rattle.proof_right.specs.machine.Dgrams.{Stage, Trying, Sent, Tryer, Dgrams, IsIgnored}
use Rattle.proof_parts.specs.PartTie.{place_in}
use Rattle.proof_dgram.specs.Calls.{with_request, LetsGo}
use Rattle.proof_dgram.specs.Steps.{Steps}
use Rattle.right_trace.specs.Trace.{Conf}

-- it is under way at place p
abbrev pub IsAt : (p : ℕ) → Stage → Type 0
IsAt p stage = (stage ≡ Trying p) ⊎ ((id : ℕ) × (t : ℕ) × (stage ≡ Sent p id t))

-- who is at a place below `next` was there before, as he is
abbrev pub StayAt : (next : ℕ) → Dgrams → Dgrams → Type 0
StayAt next d e = (p k : ℕ) (a : Tryer) → p < next → e.at p ≡ Some k → e.held k ≡ Some a → IsAt p a.stage → (d.at p ≡ Some k) × (d.held k ≡ Some a)

-- `next` is at most the next place.
pub record PlacesStay (c : Conf) : Type 0 where
  pub steps : (s n next place : ℕ) (d : Dgrams) (e : Act Dgrams) → next ≤ place → Steps c s n place d e → StayAt next d e.state
  pub takes : (next k : ℕ) (r : Request) (d : Dgrams) → StayAt next d (with_request k r d)
  pub lets_go : (next k place : ℕ) (d : Dgrams) (e : Act Dgrams) → LetsGo k place d e → (place ≤ e.place) × StayAt next d e.state
  -- an event of a place below it
  pub ignored : (w : What) (next : ℕ) (d e : Dgrams) → ((p : ℕ) → place_in w ≡ Some p → p < next) → StayAt next d e → IsIgnored c w d → IsIgnored c w e

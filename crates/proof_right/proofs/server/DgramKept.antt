-- What ties the datagrams of server s to the history, at each point between two small moves.
use Rattle.std.proofs.Common.{◌≡◌, ℕ, ◌+◌, ◌<◌, ◌≤◌, Bool, true, false, ◌⊎◌, Option, Some, None, [], ◌∷◌, is_some, ◌&&◌}
use Rattle.std.specs.Prelude.{◌≢◌, Err}
use Rattle.client_request.specs.Request.{Request}
use Rattle.client_request.specs.declared.event.What.{What}
use Rattle.client_request.specs.declared.event.What.TheVariants.{OpenFailed, Tick}
use Rattle.client_request.specs.declared.event.Via.TheVariants.{Dgram, Stream}
use Rattle.right_trace.specs.Trace.{History, Conf}
use Rattle.right_trace.specs.Time.{read_timeout, now, one_if, count_below, recv_size, max_places, max_tries}
use Rattle.right_trace.specs.Messages.{Octets, CarriesBy}
use Rattle.right_trace.specs.Requests.{asks, asking, replied, started}
use Rattle.right_trace.specs.Places.{Site, site, is_at, Stand, Unused, Opening, Alive, Gone, on_event, stand, stand_untold, is_live, reach, live}
use Rattle.right_trace.specs.Frames.{came, received}
use Rattle.right_trace.specs.Exchanges.{has_answer, unanswered, IsAmong}
use Rattle.right_trace.specs.Causes.{sends, last_try, named, IsOneOf}
use Rattle.right_trace.specs.Orderly.{sending, CutAnswerCame}
use Rattle.proof_right.proofs.PartLaws.{PostRight}
use Rattle.proof_right.specs.machine.Dgrams.{Stage, Queued, Trying, Sent, Ending, Cut, Tryer, Dgrams}
use Rattle.client_request.specs.declared.error.Error.TheVariants as errors

abbrev pub dgram_site : (s : ℕ) → Site
dgram_site s = record { via = Dgram; server = s }

-- whether a request is still to be sent
abbrev pub owing : Stage → ℕ
owing Queued = 1
owing (Trying p) = 1
owing _ = 0

abbrev pub placed : Stage → Option ℕ
placed (Trying p) = Some p
placed (Sent p id t) = Some p
placed _ = None

-- a request has a place
abbrev pub has_place : Option Tryer → Bool
has_place None = false
has_place (Some a) = is_some (placed a.stage)

-- place p opens, as far as the machine knows: an event that it has not taken yet may have changed that
pub record TryingFits (c : Conf) (s p : ℕ) (past : History) (pend : What) (h : History) : Type 0 where
  pub was : (stand p past ≡ Opening) ⊎ (stand p past ≡ Unused)
  pub stand : stand p h ≡ on_event pend p Opening
  pub untold : stand_untold p h ≡ Opening
  pub at : site p h ≡ Some (dgram_site s)
  pub unsent : sending p h ≡ None
  pub none : (r : Request) (j i n : ℕ) → unanswered c r p j i n h ≡ []

-- before the row, request k was sent at place p as these octets and not answered
pub record Old (c : Conf) (s p id t k : ℕ) (r : Request) (octets : Octets) (past : History) : Type 0 where
  pub alive : stand p past ≡ Alive
  pub at : site p past ≡ Some (dgram_site s)
  pub asked : (u : ℕ) × (asking k past ≡ Some (record { request = r; moment = u }))
  pub unanswered : (n : ℕ) → n < t + read_timeout c → unanswered c r p k id n past ≡ octets ∷ []
  pub named : IsOneOf (record { id = id; octets = octets }) (named p k past)
  pub begun : started k s Dgram past ≡ true

-- request k was sent at place p under this id at moment t
pub record SentFits (c : Conf) (s p id t k : ℕ) (r : Request) (past : History) (pend : What) (h : History) : Type 0 where
  pub octets : Octets
  pub carries : CarriesBy c Dgram octets r id
  pub stand : stand p h ≡ Alive
  pub at : site p h ≡ Some (dgram_site s)
  pub sent : sending p h ≡ Some (record { request = k; moment = t })
  pub named : IsOneOf (record { id = id; octets = octets }) (named p k h)
  pub last : last_try k s h ≡ Some (record { place = p; moment = t })
  pub lived : ((pend ≡ Tick) × (t ≡ now h)) ⊎ Old c s p id t k r octets past
  pub is_open : has_answer r id (received (recv_size c) (came p pend past)) ≡ false → (n : ℕ) → n < t + read_timeout c → unanswered c r p k id n h ≡ octets ∷ []
  pub only : (r' : Request) (j i n : ℕ) (o : Octets) → IsAmong o (unanswered c r' p j i n h) → (j ≡ k) × (i ≡ id) × (n < t + read_timeout c)

abbrev pub StageFits : (c : Conf) (s k : ℕ) → Request → (past : History) (w pend : What) → History → Stage → Type 0
StageFits c s k r past w pend h Queued = Unit {0}
StageFits c s k r past w pend h (Trying p) = TryingFits c s p past pend h
StageFits c s k r past w pend h (Sent p id t) = SentFits c s p id t k r past pend h
StageFits c s k r past w pend h (Ending x) = replied k past ≡ false → x ≢ Err errors.TimedOut → PostRight c k x past w h
StageFits c s k r past w pend h Cut = replied k past ≡ false → CutAnswerCame c k s past w h

pub record TryerFits (c : Conf) (s k : ℕ) (a : Tryer) (past : History) (w pend : What) (h : History) : Type 0 where
  pub asked : (t : ℕ) × (asking k h ≡ Some (record { request = a.request; moment = t }))
  pub has_it : started k s Dgram h ≡ true
  pub unstreamed : started k s Stream h ≡ false
  pub trials : sends k s h ≡ a.tries
  pub few : a.tries + owing a.stage ≤ max_tries c
  pub stage : StageFits c s k a.request past w pend h a.stage

-- a live place is its request's
pub record HasOwner (held : ℕ → Option Tryer) (p k : ℕ) : Type 0 where
  pub owner : Tryer
  pub is_held : held k ≡ Some owner
  pub its : placed owner.stage ≡ Some p

-- no out has opened p yet
pub record IsNew (c : Conf) (p : ℕ) (past : History) (d : Dgrams) (h : History) : Type 0 where
  pub was : stand p past ≡ Unused
  pub unheld : d.at p ≡ None
  pub stand : stand p h ≡ Unused
  pub nowhere : site p h ≡ None
  pub unsent : sending p h ≡ None
  pub none : (r : Request) (j i n : ℕ) → unanswered c r p j i n h ≡ []

-- the place that the pending event ends still has its slot
abbrev pub is_ended : Stand → Bool
is_ended Gone = true
is_ended _ = false

abbrev pub lost : What → (at : ℕ → Option ℕ) → History → ℕ
lost (OpenFailed p f) at h = one_if (is_some (at p) && is_ended (stand p h))
lost _ at h = 0

-- Everything.
pub record KeptD (c : Conf) (s : ℕ) (past : History) (w pend : What) (d : Dgrams) (h : History) : Type 0 where
  pub held : (k : ℕ) (a : Tryer) → d.held k ≡ Some a → TryerFits c s k a past w pend h
  pub slots : (p k : ℕ) → d.at p ≡ Some k → HasOwner d.held p k
  pub points : (k : ℕ) (a : Tryer) → d.held k ≡ Some a → (p : ℕ) → placed a.stage ≡ Some p → d.at p ≡ Some k
  pub others : (p : ℕ) → is_at Dgram s p h ≡ true → d.at p ≡ None → is_live (stand p h) ≡ false
  pub new : (p : ℕ) → reach h ≤ p → IsNew c p past d h
  pub lives : live s h + lost pend d.at h ≡ d.used
  pub places : count_below (λ k. has_place (d.held k)) (asks h) ≡ d.used
  pub few : d.used ≤ max_places c

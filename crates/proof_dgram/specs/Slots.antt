-- The plain tables of a server by datagrams beside the requests and places of the machine.
use Rattle.std.specs.Prelude.{◌≡◌, ℕ, suc, ◌+◌, ◌<◌, ◌≤◌, ◌⊎◌, List, [], ◌∷◌, length, Option, Some, None, option_map}
use Rattle.client_request.specs.Carries.{IsOfOctets}
use Rattle.client_request.specs.Numbered.{entry_at}
use Rattle.client_request.specs.Request.{Request}
use Rattle.client_dgram.specs.Plain.{Tables, fresh}
use Rattle.client_dgram.specs.declared.job.Job.{Job}
use Rattle.client_dgram.specs.declared.job.Stage.{Stage}
use Rattle.client_dgram.specs.declared.job.Stage.TheVariants as at
use Rattle.right_trace.specs.Messages.{under}
use Rattle.right_trace.specs.Time.{read_timeout, max_places}
use Rattle.proof_right.specs.machine.Dgrams.{Queued, Trying, Sent, Tryer, Dgrams, no_datagram}
use Rattle.proof_parts.specs.Sights.{Sight, Rising}
use Rattle.right_trace.specs.Trace.{Conf}

-- it is one of these
abbrev pub IsIn : ℕ → List ℕ → Type 0
IsIn t [] = ⊥
IsIn t (x ∷ xs) = (x ≡ t) ⊎ IsIn t xs

-- the place of a job, and its read timer, by its stage
abbrev pub place_in : Stage → Option ℕ
place_in at.Queued = None
place_in (at.Opening p) = Some p
place_in (at.Sent p r) = Some p

abbrev pub timer_in : Stage → Option ℕ
timer_in at.Queued = None
timer_in (at.Opening p) = None
timer_in (at.Sent p r) = Some r

-- The tables as functions: the jobs by ticket, the ticket of each live place and of each read timer; and how many places are live.
pub record Slots : Type 0 where
  pub jobs : ℕ → Option (Job Request)
  pub places : ℕ → Option ℕ
  pub timers : ℕ → Option ℕ
  pub queue : List ℕ
  pub used : ℕ
  pub live : ℕ

abbrev pub slots_of : Tables Request → Slots
slots_of s = record {
  jobs = λ t. entry_at t s.jobs;
  places = λ p. entry_at p s.places;
  timers = λ r. entry_at r s.timers;
  queue = s.queue;
  used = s.used;
  live = length s.places;
}

-- A job is the request that is held, with n tries between both. It may have the id and payload size with which it was sent.
pub record IsJobOf (c : Conf) (j : Job Request) (a : Tryer) (n : ℕ) : Type 0 where
  pub request : (id : ℕ) → under c id j.request ≡ under c id a.request
  pub octets : IsOfOctets a.request
  pub left : a.tries + j.left ≡ n

-- Where the request of ticket t is.
pub data StageFits (c : Conf) (s : Slots) (d : Dgrams) (dues : ℕ → Option ℕ) (t : ℕ) (j : Job Request) (a : Tryer) : Type 0 where
  AtQueue : j.stage ≡ at.Queued → a.stage ≡ Queued → IsIn t s.queue → IsJobOf c j a c.transports.dgram_max_retries → StageFits c s d dues t j a
  AtOpening : (p : ℕ) → j.stage ≡ at.Opening p → a.stage ≡ Trying p → s.places p ≡ Some t → d.at p ≡ Some j.number → IsJobOf c j a c.transports.dgram_max_retries → StageFits c s d dues t j a
  AtSent : (p r id n : ℕ) → j.stage ≡ at.Sent p r → a.stage ≡ Sent p id n → s.places p ≡ Some t → d.at p ≡ Some j.number → s.timers r ≡ Some t → dues r ≡ Some (n + read_timeout c) → j.request ≡ under c id a.request → id < 65536 → IsJobOf c j a (suc c.transports.dgram_max_retries) → StageFits c s d dues t j a

-- The tables and the machine agree, and so many slots are free to be given on.
pub record AreAlike (c : Conf) (free : ℕ) (s : Slots) (d : Dgrams) (dues : ℕ → Option ℕ) : Type 0 where
  pub jobs : (t : ℕ) (j : Job Request) → s.jobs t ≡ Some j → (a : Tryer) × (d.held j.number ≡ Some a) × StageFits c s d dues t j a
  pub held : (k : ℕ) (a : Tryer) → d.held k ≡ Some a → (t : ℕ) × (j : Job Request) × (s.jobs t ≡ Some j) × (j.number ≡ k)
  pub apart : (t u : ℕ) (j i : Job Request) → s.jobs t ≡ Some j → s.jobs u ≡ Some i → j.number ≡ i.number → t ≡ u
  pub places : (p t : ℕ) → s.places p ≡ Some t → (j : Job Request) × (s.jobs t ≡ Some j) × (place_in j.stage ≡ Some p)
  pub none : (p : ℕ) → s.places p ≡ None → d.at p ≡ None
  pub timers : (r t : ℕ) → s.timers r ≡ Some t → (j : Job Request) × (s.jobs t ≡ Some j) × (timer_in j.stage ≡ Some r)
  pub queue : (t : ℕ) → IsIn t s.queue → (j : Job Request) × (s.jobs t ≡ Some j) × (j.stage ≡ at.Queued)
  pub live : d.used ≡ s.live
  pub used : s.used ≡ d.used + free
  pub few : s.used ≤ max_places c
  pub full : (t : ℕ) → IsIn t s.queue → s.used ≡ max_places c

-- The tables are these, in order, and their keys are numbers that were drawn.
pub record AreSlots (c : Conf) (free : ℕ) (s : Tables Request) (d : Dgrams) (x : Sight) : Type 0 where
  pub alike : AreAlike c free (slots_of s) d x.dues
  pub jobs : Rising (λ e. e.0) 0 x.ticket s.jobs
  pub places : Rising (λ e. e.0) 0 x.place s.places
  pub timers : Rising (λ e. e.0) 0 x.timer s.timers
  pub queue : Rising (λ t. t) 0 x.ticket s.queue

-- the number of the request of each ticket
abbrev pub names_of : Tables Request → ℕ → Option ℕ
names_of s t = option_map (λ job. job.number) (entry_at t s.jobs)

-- A server of which nothing was asked is tied.
abbrev pub FreshIsAlike : (c : Conf) → Type 0
FreshIsAlike c = (x : Sight) → AreSlots c 0 fresh no_datagram x

-- What a datagram connection leaves alone: events of no place of its own; and, where a request is taken on or given up, the board.
use Rattle.std.proofs.Common.{◌≡◌, ℕ, ◌+◌, Bool, true, false, List, [], ◌∷◌, Option, Some, None, refl, sym, ap, ◌∙◌}
use Rattle.std.specs.Prelude.{nat_lt, option_and_then, if◌then◌else◌, take, Err}
use Rattle.client_request.specs.Numbered.{frees, entry_at}
use Rattle.client_request.specs.Request.{Request}
use Rattle.client_request.specs.Requests.{for_one}
use Rattle.client_request.specs.Timers.{can_draw}
use Rattle.client_request.specs.View.{View, asks}
use Rattle.client_request.specs.declared.error.Error.TheVariants as errors
use Rattle.client_request.specs.declared.error.QueryError.TheVariants as query
use Rattle.client_request.specs.declared.event.Out.TheVariants.{Close}
use Rattle.client_request.specs.declared.event.What.{What}
use Rattle.client_request.specs.declared.event.What.TheVariants.{Ask, Opened, OpenFailed, SendFailed, ShortSend, Datagram, RecvFailed, Wrote, WriteFailed, Bytes, ReadFailed, Ended, Tick}
use Rattle.client_request.specs.declared.fault.Fault.TheVariants as fault
use Rattle.client_dgram.specs.Plain as dgram
use Rattle.client_settings.specs.Dgram.{Settings}
use Rattle.client_dgram.specs.declared.job.Job.{Job}
use Rattle.client_dgram.specs.declared.job.Stage.{Stage}
use Rattle.client_dgram.specs.declared.job.Stage.TheVariants as at
use Rattle.proof_right.specs.machine.Dgrams.{Dgrams, IsIgnored}
use Rattle.proof_parts.specs.PartTie.{place_in}
use Rattle.proof_parts.specs.Sights.{Sight}
use Rattle.proof_dgram.specs.Calls as calls
use Rattle.proof_dgram.specs.Slots.{slots_of, AreSlots}
use Rattle.proof_dgram.proofs.Shifting.{place_of}
use Rattle.right_trace.specs.Trace.{Conf}

pub none_if : {A : Type 0} (o : Option A) → ((x : A) → o ≡ Some x → ⊥) → o ≡ None
none_if None never = refl
none_if (Some x) never = absurd (never x refl)

-- a place without a datagram is in no table
pub absent : (c : Conf) (s : dgram.Tables Request) (d : Dgrams) (x : Sight) → AreSlots c 0 s d x → (p : ℕ) → d.at p ≡ None → entry_at p s.places ≡ None
absent c s d x f p none = none_if (entry_at p s.places) (λ t e. (let g = f.alike.places p t e in let z : None ≡ Some g.0.number = sym none ∙ (place_of c 0 (slots_of s) d x.dues f.alike t p g.0 g.1 g.2).1 in cc))

-- an event of a place where nobody is is nothing to the datagrams
pub nobody_there : (c : Conf) (w : What) (d : Dgrams) → ((p : ℕ) → place_in w ≡ Some p → d.at p ≡ None) → IsIgnored c w d
nobody_there c (Opened p) d none = λ x. (let z : None ≡ Some x.0 = sym (none p refl) ∙ x.2 in cc)
nobody_there c (OpenFailed p f) d none = λ x. (let z : None ≡ Some x.0 = sym (none p refl) ∙ x.2 in cc)
nobody_there c (SendFailed p f) d none = λ x. (let z : None ≡ Some x.0 = sym (none p refl) ∙ x.4 in cc)
nobody_there c (ShortSend p) d none = λ x. (let z : None ≡ Some x.0 = sym (none p refl) ∙ x.4 in cc)
nobody_there c (RecvFailed p f) d none = λ x. (let z : None ≡ Some x.0 = sym (none p refl) ∙ x.4 in cc)
nobody_there c (Datagram p o) d none = λ k a id t at held stage long. absurd (let z : None ≡ Some k = sym (none p refl) ∙ at in cc)
nobody_there c (Ask r) d none = tt
nobody_there c (Wrote p n) d none = tt
nobody_there c (WriteFailed p f) d none = tt
nobody_there c (Bytes p o) d none = tt
nobody_there c (ReadFailed p f) d none = tt
nobody_there c (Ended p) d none = tt
nobody_there c Tick d none = tt

-- and to their tables
module _ (server : ℕ) (settings : Settings) (s : dgram.Tables Request) (v : View) where
  at_nobody : (g : ℕ → Job Request → dgram.Tables Request → View → dgram.After Request) (p : ℕ) → entry_at p s.places ≡ None → dgram.at_place g p s v ≡ Some (s, v)
  at_nobody g p none = ap (dgram.at_ticket g s v) none

  pub tells_nothing : (w : What) → ((p : ℕ) → place_in w ≡ Some p → entry_at p s.places ≡ None) → dgram.tells for_one server settings w s v ≡ Some (s, v)
  tells_nothing (Opened p) none = at_nobody (λ ticket job s v. dgram.opened_stage for_one server settings p ticket job s v job.stage) p (none p refl)
  tells_nothing (OpenFailed p f) none = at_nobody (λ ticket job s v. dgram.open_failed_stage server (errors.Dgram (query.Connect f)) p ticket s v job.stage) p (none p refl)
  tells_nothing (SendFailed p f) none = at_nobody (λ ticket job s v. dgram.ends_stage server (Err (errors.Dgram (query.Send f))) p ticket s v job.stage) p (none p refl)
  tells_nothing (ShortSend p) none = at_nobody (λ ticket job s v. dgram.ends_stage server (Err (errors.Dgram (query.Send fault.ShortSend))) p ticket s v job.stage) p (none p refl)
  tells_nothing (RecvFailed p f) none = at_nobody (λ ticket job s v. dgram.ends_stage server (Err (errors.Dgram (query.Receive f))) p ticket s v job.stage) p (none p refl)
  tells_nothing (Datagram p o) none = at_nobody (λ ticket job s v. dgram.comes_stage for_one server settings (take settings.recv_size o) p ticket job s v job.stage) p (none p refl)
  tells_nothing (Ask r) none = refl
  tells_nothing (Wrote p n) none = refl
  tells_nothing (WriteFailed p f) none = refl
  tells_nothing (Bytes p o) none = refl
  tells_nothing (ReadFailed p f) none = refl
  tells_nothing (Ended p) none = refl
  tells_nothing Tick none = refl

-- nothing was posted, and nothing is said of frames
abbrev pub IsQuiet : View → View → Type 0
IsQuiet v w = (w.board ≡ v.board) × (w.more ≡ v.more)

module _ (server : ℕ) (v : View) where
  abbrev pub Quiet : dgram.After Request → Type 0
  Quiet = calls.Leads (λ z w. IsQuiet v w)

  tried : (t : ℕ) (job : Job Request) (s : dgram.Tables Request) (w : View) → IsQuiet v w → Quiet (dgram.tries server t job s w)
  tried t job s w q = by (can_draw w.place)
    where
      by : (b : Bool) → Quiet (option_and_then (λ x. Some (dgram.tries_at server t job s w.place x)) (if b then Some (record w { place = w.place + 1 }) else None))
      by false = tt
      by true = q

  gave : (s : dgram.Tables Request) (w : View) → IsQuiet v w → Quiet (dgram.gives_on server s w)
  gave s w q = by s.queue
    where
      to : (t : ℕ) (s : dgram.Tables Request) (o : Option (Job Request)) → Quiet (dgram.gives_job server t s w o)
      to t s None = q
      to t s (Some job) = tried t job (record s { jobs = frees t s.jobs }) w q

      by : (queue : List ℕ) → Quiet (dgram.gives_to server s w queue)
      by [] = q
      by (t ∷ queue) = to t (record s { queue = queue }) (entry_at t s.jobs)

  -- a request is taken on
  pub takes_quietly : (settings : Settings) (s : dgram.Tables Request) (r : Request) → Quiet (dgram.takes for_one server settings r s v)
  takes_quietly settings s r = by (can_draw v.ticket)
    where
      job : Job Request
      job = dgram.newcomer for_one server settings r v

      at_slot : (b : Bool) → Quiet (dgram.takes_at for_one server settings v.ticket job s (record v { ticket = v.ticket + 1 }) b)
      at_slot false = (refl, refl)
      at_slot true = tried v.ticket job (record s { used = s.used + 1 }) (record v { ticket = v.ticket + 1 }) (refl, refl)

      by : (b : Bool) → Quiet (option_and_then (λ w. dgram.takes_at for_one server settings v.ticket job s w (nat_lt s.used settings.max_parallel)) (if b then Some (record v { ticket = v.ticket + 1 }) else None))
      by false = tt
      by true = at_slot (nat_lt s.used settings.max_parallel)

  -- one is given up
  pub drops_quietly : (t : ℕ) (s : dgram.Tables Request) → Quiet (dgram.drops server t s v)
  drops_quietly t s = by (entry_at t s.jobs)
    where
      at_stage : (stage : Stage) → Quiet (dgram.drops_stage server t s v stage)
      at_stage at.Queued = (refl, refl)
      at_stage (at.Opening p) = gave (record s { jobs = frees t s.jobs; places = frees p s.places }) (asks (Close p) v) (refl, refl)
      at_stage (at.Sent p r) = gave (dgram.leaves p t r s) (dgram.closes p r v) (refl, refl)

      by : (o : Option (Job Request)) → Quiet (dgram.at_job (λ ticket job s v. dgram.drops_stage server ticket s v job.stage) t s v o)
      by None = (refl, refl)
      by (Some job) = at_stage job.stage

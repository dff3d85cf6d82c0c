-- What taking the first request, or the holder of an id, does is what the plain machine does.
use Rattle.std.proofs.Common.{◌≡◌, ℕ, ◌+◌, Bool, true, false, Option, Some, None, List, ◌∷◌, Result, Ok, Err, refl, sym, ◌∙◌, ap, subst}
use Rattle.std.specs.Prelude.{if◌then◌else◌, ◌==◌, IfSome, option_and_then, is_some}
use Rattle.client_request.specs.Numbered.{entry_at}
use Rattle.client_request.specs.Requests.{Requests}
use Rattle.client_request.specs.View.{View, sets_timer}
use Rattle.client_request.specs.declared.error.Error.{Error}
use Rattle.client_transfer.specs.declared.state.XfrState.{XfrState}
use Rattle.client_stream.specs.IdTable.{IdTable, removed}
use Rattle.client_stream.specs.Plain as plain
use Rattle.client_stream.specs.Plain.{Line, After, message_id}
use Rattle.client_settings.specs.Stream.{Settings}
use Rattle.client_stream.specs.declared.request.AnyRequest.{AnyRequest}
use Rattle.client_stream.specs.declared.request.AnyRequest.TheVariants.{Single, Transfer}
use Rattle.client_stream.specs.declared.request.Holder.{Holder}
use Rattle.client_stream.specs.declared.request.Holder.TheVariants.{Waits, Transfers}
use Rattle.client_stream.specs.declared.request.QueuedRequest.{QueuedRequest}
use Rattle.client_stream.specs.declared.line.LineStage.{LineStage}
use Rattle.client_stream.specs.declared.line.LineStage.TheVariants as stage

-- A request that is taken changes nothing of those that are queued.
module _ {R M : Type 0} where
  abbrev KeepsQueue : Line R M → After R M → Type 0
  KeepsQueue s after = IfSome after (λ x. x.0.queue ≡ s.queue)

  -- with other requests queued, and other ids held
  abbrev pub with_queue : List (ℕ × QueuedRequest R M) → Line R M → Line R M
  with_queue queue s = record s { queue = queue }

  abbrev with_held : IdTable (Holder R M) → Line R M → Line R M
  with_held held s = record s { held = held }

  timed : (to : LineStage) (s : Line R M) (o : Option View) → KeepsQueue s (option_and_then (λ w. Some (record s { stage = to }, w)) o)
  timed to s None = tt
  timed to s (Some w) = refl

  waits_from : (since : ℕ) (s : Line R M) (v : View) → KeepsQueue s (plain.awaits_frame_since since s v)
  waits_from since s v = timed (stage.Active v.timers.next since) s (sets_timer (since + s.timeout + 1) (plain.drops_own_timer s.stage v))

  wakes : (timeout : ℕ) (s : Line R M) (v : View) (at : LineStage) → KeepsQueue s (plain.becomes_active_for timeout s v at)
  wakes timeout s v stage.New = waits_from v.now (record s { timeout = timeout }) v
  wakes timeout s v (stage.Idle _) = waits_from v.now (record s { timeout = timeout }) v
  wakes timeout s v (stage.Active _ since) = go (timeout == s.timeout)
    where
      go : (b : Bool) → KeepsQueue s (if b then Some (s, v) else plain.awaits_frame_since since (record s { timeout = timeout }) v)
      go true = refl
      go false = waits_from since (record s { timeout = timeout }) v
  wakes timeout s v stage.Ended = refl

module _ {R M : Type 0} (one : Requests R) (several : Requests M) (place : ℕ) where
  writes : (ticket number id : ℕ) (holder : Holder R M) (s : Line R M) (v : View) (o : Option (List ℕ)) → (plain.writes one several place ticket number id holder s v o).0.queue ≡ s.queue
  writes ticket number id holder s v None = refl
  writes ticket number id holder s v (Some octets) = refl

  numbers : {T : Type 0} (requests : Requests T) (holding : T → Holder R M) (ticket number : ℕ) (request : T) (s : Line R M) (v : View) (o : Option ℕ)
      → (plain.takes_free_id one several place requests holding ticket number request s v o).0.queue ≡ s.queue
  numbers requests holding ticket number request s v None = refl
  numbers requests holding ticket number request s v (Some id) = writes ticket number id _ (record s { had_keepalive = _ }) v _

  begins : (ticket number : ℕ) (request : M) (s : Line R M) (v : View) (o : Result XfrState Error) → (plain.starts_transfer one several place ticket number request s v o).0.queue ≡ s.queue
  begins ticket number request s v (Err error) = refl
  begins ticket number request s v (Ok state) = numbers several (λ r. Transfers ticket r state) ticket number request s v (plain.free_id s)

  prepares : (ticket number : ℕ) (request : AnyRequest R M) (s : Line R M) (v : View) → (plain.prepares one several place ticket number request s v).0.queue ≡ s.queue
  prepares ticket number (Single request) s v = numbers one (λ r. Waits ticket r) ticket number request s v (plain.free_id s)
  prepares ticket number (Transfer request) s v = begins ticket number request s v (plain.first_state (several.composed request))

  takes : (settings : Settings) (ticket : ℕ) (waiting : QueuedRequest R M) (s : Line R M) (v : View) → KeepsQueue s (plain.takes_queued one several place settings ticket waiting s v)
  takes settings ticket waiting s v = go (plain.becomes_active_for (plain.timeout_by settings waiting.request) s v s.stage) (wakes (plain.timeout_by settings waiting.request) s v s.stage)
    where
      go : (o : After R M) → KeepsQueue s o → KeepsQueue s (option_and_then (λ x. Some (plain.prepares one several place ticket waiting.number waiting.request x.0 x.1)) o)
      go None k = tt
      go (Some x) k = prepares ticket waiting.number waiting.request x.0 x.1 ∙ k

  -- Once the first request was taken the others are to be.
  pub goes_on : (settings : Settings) (s : Line R M) (v : View) (entry : ℕ × QueuedRequest R M) (rest : List (ℕ × QueuedRequest R M)) (t : Line R M) (x : Line R M × View) → is_some s.writing ≡ false → s.queue ≡ entry ∷ rest
      → t ≡ with_queue rest s → plain.takes_queued one several place settings entry.0 entry.1 t v ≡ Some x → plain.pumps one several place settings x.0.queue x.0 x.1 ≡ plain.pumps one several place settings s.queue s v
  goes_on settings s v entry rest t x w q e k =
      let kept : IfSome (Some x) (λ x. x.0.queue ≡ t.queue) = subst (λ o. KeepsQueue t o) k (takes settings entry.0 entry.1 t v) in
      let taken : plain.takes_queued one several place settings entry.0 entry.1 (record s { queue = rest }) v ≡ Some x = ap (λ t. plain.takes_queued one several place settings entry.0 entry.1 t v) (sym e) ∙ k in
      ap (λ queue. plain.pumps one several place settings queue x.0 x.1) (kept ∙ ap (λ t. t.queue) e)
      ∙ ap (option_and_then (λ x. plain.pumps one several place settings rest x.0 x.1)) (sym taken)
      ∙ ap (λ b. if b then Some (s, v) else option_and_then (λ x. plain.pumps one several place settings rest x.0 x.1) (plain.takes_queued one several place settings entry.0 entry.1 (record s { queue = rest }) v)) (sym w)
      ∙ ap (λ queue. plain.pumps one several place settings queue s v) (sym q)

  -- Who held an id that is free is given the message, and then the connection settles.
  pub releases : (message : List ℕ) (s t : Line R M) (v : View) (id : ℕ) (held : IdTable (Holder R M)) (holder : Holder R M) (x : Line R M × View) → t ≡ s → id ≡ message_id message → Some holder ≡ entry_at id t.held.held
      → held ≡ removed id t.held → plain.delivers one several message (record t { held = held }) v holder ≡ x → plain.releases one several place message s v ≡ plain.becomes_idle_if_unused place x.0 x.1
  releases message s t v id held holder x e i h r g =
      let there : entry_at (message_id message) s.held.held ≡ Some holder = ap (λ s. entry_at (message_id message) s.held.held) (sym e) ∙ ap (λ id. entry_at id t.held.held) (sym i) ∙ sym h in
      let freed : with_held (removed (message_id message) s.held) s ≡ with_held held t =
      ap (λ s. with_held (removed (message_id message) s.held) s) (sym e) ∙ ap (λ id. with_held (removed id t.held) t) (sym i) ∙ ap (λ held. with_held held t) (sym r) in
      ap (plain.frees_id one several place message s v) there
      ∙ ap (λ x. plain.becomes_idle_if_unused place x.0 x.1) (ap (λ s. plain.delivers one several message s v holder) freed ∙ g)

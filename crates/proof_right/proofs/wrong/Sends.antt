-- Sends and writes that owe something, and failures that are blamed on a wrong place.
use Rattle.std.proofs.Common.{◌≡◌, ℕ, ◌<◌, ◌≤◌, true, false, inl, inr, Option, Some, [], ◌∷◌, length, refl, arith, sym, ap, subst}
use Rattle.std.specs.Option.{option_map_or}
use Rattle.client_request.specs.Request.{Request}
use Rattle.client_request.specs.Carries.{IsOfOctets}
use Rattle.client_request.specs.declared.error.Error.TheVariants as errors
use Rattle.client_request.specs.declared.error.QueryError.TheVariants as query
use Rattle.client_request.specs.declared.fault.Fault.{Fault}
use Rattle.client_request.specs.declared.event.What.{What}
use Rattle.client_request.specs.declared.event.What.TheVariants.{Ask, Opened, RecvFailed, Tick}
use Rattle.client_request.specs.declared.event.Out.TheVariants.{Start, OpenDgram, Close}
use Rattle.client_request.specs.declared.event.Via.TheVariants.{Dgram}
use Rattle.right_trace.specs.Trace.{History, Conf, Came, Put}
use Rattle.right_trace.specs.Time.{EarlierRow, OfRow}
use Rattle.right_trace.specs.Messages.{Octets}
use Rattle.right_trace.specs.Requests.{replied, started}
use Rattle.right_trace.specs.Places.{Site, stand, Alive}
use Rattle.right_trace.specs.Settings.{Settings}
use Rattle.right_trace.specs.Causes.{named, IsOneOf, FailedAt, ServerCause, NotReceived}
use Rattle.right_trace.specs.Errors.{ByServer, Here, Earlier, HasCause, Own, Kept}
use Rattle.right_trace.specs.Orderly.{MaySend, MayWrite}
use Rattle.right_trace.specs.Right.{Right}
use Rattle.proof_right.specs.examples.Wrong.{sent_elsewhere, blamed_unsent, blamed_when_closed}
use Rattle.proof_right.proofs.Carried.{two_octets, said_id, announced_header}
use Rattle.proof_right.proofs.wrong.Dgrams.{asked_history, opened_history, sent_history}

module _ (past h : History) (p k id : ℕ) (o : Octets) where
  pub sent_after_reply : (c : Conf) → replied k past ≡ true → MaySend c k p id o past h → ⊥
  sent_after_reply c done may = let w = may.waits in absurd (cc)

  pub written_after_reply : (c : Conf) → replied k past ≡ true → MayWrite c k p id o past h → ⊥
  written_after_reply c done may = let w = may.waits in absurd (cc)

  pub sent_great_id : (c : Conf) → 65536 ≤ id → MaySend c k p id o past h → ⊥
  sent_great_id c great may = let e = said_id o id may.request.header may.carries.0 (announced_header c.transports.dgram_udp_payload_size id may.request) in let f = may.carries.1 in let small = two_octets id in absurd (omega arith)

  pub written_great_id : (c : Conf) → 65536 ≤ id → MayWrite c k p id o past h → ⊥
  written_great_id c great may =
      let x = may.carries in
      let named = x.named in
      let small = two_octets id in
      elim x.says [
        | inl says ↦ (let e = said_id x.rest id may.request.header says refl in absurd (omega arith))
        | inr says ↦ (let e = said_id x.rest id may.request.header says refl in absurd (omega arith))
      ]

pub too_short : (r : Request) → length r.base < 12 → IsOfOctets r → ⊥
too_short r short h = let l = h.long in absurd (omega arith)

-- the place of which an event tells that reading failed
abbrev place_of : What → ℕ
place_of (RecvFailed p f) = p
place_of _ = 0

told_place : (c : Conf) → (past : History) (f : Fault) (x : FailedAt c (λ p. RecvFailed p f) 0 past (RecvFailed 0 f)) → 0 ≡ x.place
told_place c past f x = ap place_of x.is_told

-- only an event that tells of a failed reading is a cause of this error
failed_there : (c : Conf) (past : History) (w : What) (h : History) (f : Fault) → ServerCause c 0 past w h (errors.Dgram (query.Receive f)) → FailedAt c (λ p. RecvFailed p f) 0 past w
failed_there c past w h f (NotReceived _ x) = x

not_told : (c : Conf) (past : History) (w : What) (h : History) (f : Fault) → ((p : ℕ) → w ≡ RecvFailed p f → ⊥) → ServerCause c 0 past w h (errors.Dgram (query.Receive f)) → ⊥
not_told c past w h f other x = (let y = failed_there c past w h f x in other y.place y.is_told)

module _ (c : Conf) (s : Settings) (r : Request) where
  abbrev elsewhere_history : History
  elsewhere_history = Came (record { moment = record { 0 = 0 }; what = Opened 0 }) ∷ Put (OpenDgram 0 1) ∷ Put (Start 0 0 Dgram) ∷ Came (record { moment = record { 0 = 0 }; what = Ask r }) ∷ []

  pub elsewhere : (o : Octets) → Right c s (sent_elsewhere r o) → ⊥
  elsewhere o h =
      let may = h.1.0.outs.0.2 in
      let e : Path (Option Site) (Some (record { via = Dgram; server = 1 })) (Some (record { via = Dgram; server = may.server })) = may.at in
      let is : 1 ≡ may.server = ap (λ (x : Option Site). option_map_or (λ y. y.server) x 0) e in
      let begun : started 0 1 Dgram elsewhere_history ≡ true = subst (λ s. started 0 s Dgram elsewhere_history ≡ true) (sym is) may.begun in
      absurd (cc)

  abbrev Blames : Fault → History → Type 0
  Blames f h = EarlierRow (OfRow (λ past w h. ServerCause c 0 past w h (errors.Dgram (query.Receive f)))) h

  -- where nothing was sent

  unblamed : (f : Fault) → Blames f (asked_history r) → ⊥
  unblamed f (inl z) = not_told c [] Tick [] f (λ p e. cc) z
  unblamed f (inr z) = z

  unblamed_opened : (f : Fault) → Blames f (opened_history r) → ⊥
  unblamed_opened f (inl z) = not_told c [] (Ask r) (asked_history r) f (λ p e. cc) z
  unblamed_opened f (inr z) = unblamed f z

  not_sent_there : (f : Fault) → FailedAt c (λ p. RecvFailed p f) 0 (opened_history r) (RecvFailed 0 f) → ⊥
  not_sent_there f x = subst (λ p. IsOneOf x.send (named p 0 (opened_history r))) (sym (told_place c (opened_history r) f x)) x.named_there

  abbrev failed_unsent : Fault → History
  failed_unsent f = Put (Close 0) ∷ Came (record { moment = record { 0 = 0 }; what = RecvFailed 0 f }) ∷ opened_history r

  unsent_cause : (f : Fault) → HasCause c s (errors.Dgram (query.Receive f)) 0 (opened_history r) (RecvFailed 0 f) (failed_unsent f) → ⊥
  unsent_cause f (Own (ByServer _ (Here x)) g) = not_sent_there f (failed_there c (opened_history r) (RecvFailed 0 f) (failed_unsent f) f x)
  unsent_cause f (Own (ByServer _ (Earlier w (inl x))) g) = not_told c (asked_history r) (Opened 0) (opened_history r) f (λ p e. cc) x
  unsent_cause f (Own (ByServer _ (Earlier w (inr x))) g) = unblamed_opened f x
  unsent_cause f (Kept x) = (let z : false ≡ true = x.asked_here in absurd (cc))

  pub unsent : (f : Fault) → Right c s (blamed_unsent r f) → ⊥
  unsent f h = unsent_cause f h.1.1.0.outs.1.0.1

  -- where the place was closed

  module _ (o : Octets) where
    abbrev dead_history : History
    dead_history = Put (OpenDgram 1 0) ∷ Put (Close 0) ∷ Came (record { moment = record { 0 = 5000000 }; what = Tick }) ∷ sent_history r o

    not_alive : (f : Fault) → FailedAt c (λ p. RecvFailed p f) 0 dead_history (RecvFailed 0 f) → ⊥
    not_alive f x = let e : stand 0 dead_history ≡ Alive = subst (λ p. stand p dead_history ≡ Alive) (sym (told_place c dead_history f x)) x.alive in absurd (cc)

    abbrev failed_dead : Fault → History
    failed_dead f = Came (record { moment = record { 0 = 5000001 }; what = RecvFailed 0 f }) ∷ dead_history

    dead_cause : (f : Fault) → HasCause c s (errors.Dgram (query.Receive f)) 0 dead_history (RecvFailed 0 f) (failed_dead f) → ⊥
    dead_cause f (Own (ByServer _ (Here x)) g) = not_alive f (failed_there c dead_history (RecvFailed 0 f) (failed_dead f) f x)
    dead_cause f (Own (ByServer _ (Earlier w (inl x))) g) = not_told c (sent_history r o) Tick dead_history f (λ p e. cc) x
    dead_cause f (Own (ByServer _ (Earlier w (inr (inl x)))) g) = not_told c (asked_history r) (Opened 0) (sent_history r o) f (λ p e. cc) x
    dead_cause f (Own (ByServer _ (Earlier w (inr (inr x)))) g) = unblamed_opened f x
    dead_cause f (Kept x) = (let z : false ≡ true = x.asked_here in absurd (cc))

    pub closed_blame : (f : Fault) → Right c s (blamed_when_closed r o f) → ⊥
    closed_blame f h = dead_cause f h.1.1.1.0.outs.0.1

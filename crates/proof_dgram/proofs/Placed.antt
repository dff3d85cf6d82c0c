-- Who is at a place stays there while requests are taken on and given up.
use Rattle.std.proofs.Common.{◌≡◌, ℕ, ◌<◌, ◌≤◌, inl, inr, Option, Some, refl, subst, arith, le_refl, le_trans}
use Rattle.std.specs.Prelude.{Result, Err}
use Rattle.client_request.specs.declared.error.Error.{Error}
use Rattle.client_request.specs.declared.error.Error.TheVariants as errors
use Rattle.client_request.specs.declared.event.What.{What}
use Rattle.client_request.specs.declared.event.What.TheVariants.{Ask, Opened, OpenFailed, SendFailed, ShortSend, Datagram, RecvFailed, Wrote, WriteFailed, Bytes, ReadFailed, Ended, Tick}
use Rattle.right_trace.specs.Messages.{Octets}
use Rattle.proof_right.specs.machine.Part.{Act}
use Rattle.proof_right.specs.machine.Streams as multi
use Rattle.right_trace.specs.Updates.{with_at}
use Rattle.proof_right.specs.machine.Dgrams as dgrams
use Rattle.proof_right.specs.machine.Dgrams.{Queued, Trying, Sent, Ending, Stage, Tryer, Dgrams, staged, leave, forget, Tries, IsIgnored}
use Rattle.proof_parts.specs.PartTie.{place_in}
use Rattle.proof_parts.proofs.Keys.{was_there, is_or_was}
use Rattle.proof_dgram.specs.Calls.{Waits, HasPlace, LetsGo}
use Rattle.proof_dgram.specs.Steps.{AtOnce, AsItIs, WithResult, Steps, Rests, Steps_on}
use Rattle.proof_dgram.specs.Placed.{IsAt, StayAt, PlacesStay}
use Rattle.proof_dgram.proofs.Staying.{grows}
use Rattle.right_trace.specs.Trace.{Conf}

queued : (p : ℕ) → IsAt p Queued → ⊥
queued p (inl e) = cc
queued p (inr x) = (let e = x.2 in cc)

ending : (p : ℕ) (y : Result Octets Error) → IsAt p (Ending y) → ⊥
ending p y (inl e) = cc
ending p y (inr x) = (let e = x.2 in cc)

its_place : (p q : ℕ) → IsAt p (Trying q) → q ≡ p
its_place p q (inl e) = cc
its_place p q (inr x) = absurd (let e = x.2 in cc)

not_below : (p q next : ℕ) → p < next → next ≤ q → q ≡ p → ⊥
not_below p q next lt le e = omega arith

-- whoever is at a place that a changed request is not at was there before
still_held : (p k : ℕ) (c : Tryer) (f : ℕ → Option Tryer) (j : ℕ) (b : Tryer) → (IsAt p c.stage → ⊥) → with_at k (Some c) f j ≡ Some b → IsAt p b.stage → f j ≡ Some b
still_held p k c f j b never e at = elim (is_or_was k (Some c) f j b e) [
  | inl x ↦ (let z : Some c ≡ Some b = x.1 in let same : b ≡ c = cc in absurd (never (subst (λ (b : Tryer). IsAt p b.stage) same at)))
  | inr x ↦ x.1
]

pub stay_then : (next : ℕ) (d e f : Dgrams) → StayAt next d e → StayAt next e f → StayAt next d f
stay_then next d e f one two p k a lt at held is = (let z = two p k a lt at held is in one p k a lt z.0 z.1 is)

gone : (next k : ℕ) (d : Dgrams) → StayAt next d (forget k d)
gone next k d p j a lt at held is = (at, (was_there k d.held j a held).1)

left : (next p k : ℕ) (b : Tryer) (stage : Stage) (d : Dgrams) → ((q : ℕ) → IsAt q stage → ⊥) → StayAt next d (leave p k b stage d)
left next p k b stage d never q j a lt at held is = ((was_there p d.at q j at).1, still_held q k (staged b stage) d.held j a (never q) held is)

tries_stay : (c : Conf) (s n next place : ℕ) (d e : Dgrams) (x : multi.Act) → next ≤ place → Tries c s n place d x e → StayAt next d e
tries_stay c s n next place d _ _ le (dgrams.Opens k b held stage few) = λ p j a lt at has is.
    let other : place ≡ p → ⊥ = not_below p place next lt le in
    (elim (is_or_was place (Some k) d.at p j at) [ inl x ↦ absurd (other x.0) | inr x ↦ x.1 ], still_held p k (staged b (Trying place)) d.held j a (λ i. other (its_place p place i)) has is)
tries_stay c s n next place d _ _ le (dgrams.Retries k b p id t held stage late few) = left next p k b Queued d queued
tries_stay c s n next place d _ _ le (dgrams.StopsTrying k b p id t held stage late six) = left next p k b _ d (λ q. ending q _)
tries_stay c s n next place d _ _ le (dgrams.Ends k b x held stage) = gone next k d

record AtOnceStays (next place : ℕ) (d : Dgrams) (e : Act Dgrams) : Type 0 where
  pub on : place ≤ e.place
  pub stay : StayAt next d e.state

at_once : (next place : ℕ) (x : multi.Act) (d : Dgrams) (e : Act Dgrams) → AtOnce place x d e → AtOnceStays next place d e
at_once next place x d _ (AsItIs set) = record { on = grows x place; stay = λ p k a lt at held is. (at, held) }
at_once next place x d _ (WithResult k a y held stage) = record { on = grows x place; stay = gone next k d }

steps : (c : Conf) (s n next place : ℕ) (d : Dgrams) (e : Act Dgrams) → next ≤ place → Steps c s n place d e → StayAt next d e.state
steps c s n next _ _ _ le (Rests place d) = λ p k a lt at held is. (at, held)
steps c s n next _ _ _ le (Steps_on place d x k e g try at rest) =
    let one = at_once next place x k e at in
    stay_then next d k g.state (tries_stay c s n next place d k x le try) (stay_then next k e.state g.state one.stay (steps c s n next e.place e.state g (le_trans le one.on) rest))

lets_go : (next k place : ℕ) (d : Dgrams) (e : Act Dgrams) → LetsGo k place d e → (place ≤ e.place) × StayAt next d e.state
lets_go next k place d _ (Waits a held stage) = (le_refl place, gone next k d)
lets_go next k place d _ (HasPlace a p held stage) =
    let last = Ending (Err errors.TimedOut) in
    let e = leave p k a last d in
    (le_refl place, stay_then next d e (forget k e) (left next p k a last d (λ q. ending q _)) (gone next k e))

ignored : (c : Conf) (w : What) (next : ℕ) (d e : Dgrams) → ((p : ℕ) → place_in w ≡ Some p → p < next) → StayAt next d e → IsIgnored c w d → IsIgnored c w e
ignored c (Opened p) next d e below stay none = λ x. (let z = stay p x.0 x.1 (below p refl) x.2 x.3 (inl x.4) in none (x.0, x.1, z.0, z.1, x.4))
ignored c (OpenFailed p f) next d e below stay none = λ x. (let z = stay p x.0 x.1 (below p refl) x.2 x.3 (inl x.4) in none (x.0, x.1, z.0, z.1, x.4))
ignored c (SendFailed p f) next d e below stay none = λ x. (let z = stay p x.0 x.1 (below p refl) x.4 x.5 (inr (x.2, x.3, x.6)) in none (x.0, x.1, x.2, x.3, z.0, z.1, x.6))
ignored c (ShortSend p) next d e below stay none = λ x. (let z = stay p x.0 x.1 (below p refl) x.4 x.5 (inr (x.2, x.3, x.6)) in none (x.0, x.1, x.2, x.3, z.0, z.1, x.6))
ignored c (RecvFailed p f) next d e below stay none = λ x. (let z = stay p x.0 x.1 (below p refl) x.4 x.5 (inr (x.2, x.3, x.6)) in none (x.0, x.1, x.2, x.3, z.0, z.1, x.6))
ignored c (Datagram p o) next d e below stay none = λ k a id t at held stage long. (let z = stay p k a (below p refl) at held (inr (id, t, stage)) in none k a id t z.0 z.1 stage long)
ignored c (Ask r) next d e below stay none = tt
ignored c (Wrote p n) next d e below stay none = tt
ignored c (WriteFailed p f) next d e below stay none = tt
ignored c (Bytes p o) next d e below stay none = tt
ignored c (ReadFailed p f) next d e below stay none = tt
ignored c (Ended p) next d e below stay none = tt
ignored c Tick next d e below stay none = tt

pub places_stay : (c : Conf) → PlacesStay c
places_stay c = record {
  steps = steps c;
  takes = λ next k r d p j a lt at held is. (at, still_held p k (record { request = r; tries = 0; stage = Queued }) d.held j a (queued p) held is);
  lets_go = lets_go;
  ignored = ignored c;
}

-- What was asked stays, and which place opens stays or is new.
use Rattle.std.proofs.Common.{◌≡◌, ℕ, suc, ◌≤◌, ◌⊎◌, inl, inr, Some, None, refl, sym, ap, subst, ◌∙◌, arith, le_refl, le_trans}
use Rattle.std.specs.Prelude.{Err}
use Rattle.client_request.specs.declared.error.Error.TheVariants as errors
use Rattle.client_request.specs.declared.event.What.{What}
use Rattle.client_request.specs.declared.event.Out.TheVariants.{Start, OpenDgram, OpenStream, Send, Write, Resume, Close, Reply, Stale}
use Rattle.right_trace.specs.Messages.{Octets}
use Rattle.right_trace.specs.Trace.{Conf}
use Rattle.proof_right.specs.machine.Part.{Act}
use Rattle.proof_right.specs.machine.Streams as multi
use Rattle.proof_right.specs.machine.Streams.{Multi}
use Rattle.right_trace.specs.Updates.{with_at}
use Rattle.proof_right.specs.machine.Dgrams as dgrams
use Rattle.proof_right.specs.machine.Dgrams.{Tryer, Dgrams, staged, leave, forget, Tries, Meets}
use Rattle.proof_right.specs.machine.Served as machine
use Rattle.proof_right.specs.machine.Served.{Served, served, place_after, Settles, Acts}
use Rattle.proof_parts.specs.Chains.{Chain, Stays, Goes}
use Rattle.proof_parts.proofs.Keys.{was_there, is_or_was}
use Rattle.proof_dgram.specs.Calls.{Waits, HasPlace, LetsGo}
use Rattle.proof_dgram.specs.Steps.{AtOnce, AsItIs, WithResult, Steps, Rests, Steps_on}
use Rattle.proof_dgram.specs.Staying.{AsksTheSame, RequestsStay, OpeningsAreNew}

-- one request changes
changed : (d : Dgrams) (k : ℕ) (b c : Tryer) → d.held k ≡ Some b → b.request ≡ c.request → (j : ℕ) (a : Tryer) → with_at k (Some c) d.held j ≡ Some a → (z : Tryer) × (d.held j ≡ Some z) × (z.request ≡ a.request)
changed d k b c held same j a e = elim (is_or_was k (Some c) d.held j a e) [
  | inl x ↦ (let z : Some c ≡ Some a = x.1 in let y : c ≡ a = cc in (b, ap d.held (sym x.0) ∙ held, same ∙ ap (λ (a : Tryer). a.request) y))
  | inr x ↦ (a, x.1, refl)
]

-- one is no more
gone : (d : Dgrams) (k : ℕ) → AsksTheSame d (forget k d)
gone d k j a e = (a, (was_there k d.held j a e).1, refl)

pub asks_then : (d e f : Dgrams) → AsksTheSame d e → AsksTheSame e f → AsksTheSame d f
asks_then d e f a b k x is = (let y = b k x is in let z = a k y.0 y.1 in (z.0, z.1, z.2 ∙ y.2))

tries : (conf : Conf) (s n place : ℕ) (d e : Dgrams) (x : multi.Act) → Tries conf s n place d x e → AsksTheSame d e
tries conf s n place d _ _ (dgrams.Opens k a held stage few) = changed d k a (staged a (dgrams.Trying place)) held refl
tries conf s n place d _ _ (dgrams.Retries k a p id t held stage late few) = changed d k a (staged a dgrams.Queued) held refl
tries conf s n place d _ _ (dgrams.StopsTrying k a p id t held stage late six) = changed d k a (staged a _) held refl
tries conf s n place d _ _ (dgrams.Ends k a x held stage) = gone d k

meets : (conf : Conf) (n place : ℕ) (d e : Dgrams) (w : What) (x : multi.Act) → Meets conf n d w x e → AsksTheSame d e
meets conf n place d _ _ _ (dgrams.IsSent k a p id o at held stage carries) = changed d k a (record { request = a.request; tries = suc a.tries; stage = dgrams.Sent p id n }) held refl
meets conf n place d _ _ _ (dgrams.CannotBeSent k a p e at held stage bad) = changed d k a (staged a _) held refl
meets conf n place d _ _ _ (dgrams.DoesNotOpen k a p f at held stage) = changed d k a (staged a _) held refl
meets conf n place d _ _ _ (dgrams.NotSent k a p id t f at held stage) = changed d k a (staged a _) held refl
meets conf n place d _ _ _ (dgrams.SentShort k a p id t at held stage) = changed d k a (staged a _) held refl
meets conf n place d _ _ _ (dgrams.NotReceived k a p id t f at held stage) = changed d k a (staged a _) held refl
meets conf n place d _ _ _ (dgrams.IsAnswered k a p id t o at held stage long ok) = changed d k a (staged a _) held refl

at_once : (place : ℕ) (x : multi.Act) (d : Dgrams) (e : Act Dgrams) → AtOnce place x d e → AsksTheSame d e.state
at_once place x d _ (AsItIs set) = λ k a e. (a, e, refl)
at_once place x d _ (WithResult k a y held stage) = gone d k

steps : (conf : Conf) (s n place : ℕ) (d : Dgrams) (e : Act Dgrams) → Steps conf s n place d e → AsksTheSame d e.state
steps conf s n _ _ _ (Rests place d) = λ k a e. (a, e, refl)
steps conf s n _ _ _ (Steps_on place d x k e g try at rest) = asks_then d e.state g.state (asks_then d k e.state (tries conf s n place d k x try) (at_once place x k e at)) (steps conf s n e.place e.state g rest)

lets_go : (k place : ℕ) (d : Dgrams) (e : Act Dgrams) → LetsGo k place d e → AsksTheSame d e.state
lets_go k place d _ (Waits a held stage) = gone d k
lets_go k place d _ (HasPlace a p held stage) = (let last = dgrams.Ending (Err errors.TimedOut) in let e = leave p k a last d in asks_then d e (forget k e) (changed d k a (staged a last) held refl) (gone e k))

pub requests_stay : (conf : Conf) → RequestsStay conf
requests_stay conf = record { steps = steps conf; meets = meets conf; at_once = at_once; lets_go = lets_go }

-- Places

one_more : (n : ℕ) → n ≤ suc n
one_more n = omega arith

pub grows : (x : multi.Act) (n : ℕ) → n ≤ place_after x n
grows (multi.Puts (OpenDgram p s)) n = one_more n
grows (multi.Puts (OpenStream p s)) n = one_more n
grows (multi.Puts (Start k s v)) n = le_refl n
grows (multi.Puts (Send p k id o)) n = le_refl n
grows (multi.Puts (Write p k id o)) n = le_refl n
grows (multi.Puts (Resume p o)) n = le_refl n
grows (multi.Puts (Close p)) n = le_refl n
grows (multi.Puts (Reply k x)) n = le_refl n
grows (multi.Puts (Stale k)) n = le_refl n
grows (multi.Gives k x) n = le_refl n
grows multi.Nothing n = le_refl n

abbrev IsNew : (place : ℕ) → Multi → Multi → Type 0
IsNew place m l = (p : ℕ) → l.opening ≡ Some p → (m.opening ≡ Some p) ⊎ (place ≤ p)

as_before : (place : ℕ) (m l : Multi) → l.opening ≡ m.opening → IsNew place m l
as_before place m l same p e = inl (sym same ∙ e)

none_opens : (place : ℕ) (m l : Multi) → l.opening ≡ None → IsNew place m l
none_opens place m l none p e = absurd (let z = sym none ∙ e in cc)

moves_new : (conf : Conf) (s n place : ℕ) (m l : Multi) (x : multi.Act) → multi.Moves conf s n place m x l → IsNew place m l
moves_new conf s n place m l _ (multi.Joins k a p x ask phase conn) = as_before place m l refl
moves_new conf s n place m l _ (multi.Expects k a p ask phase op) = as_before place m l refl
moves_new conf s n place m l _ (multi.Opens k a ask phase none full) = λ p e. (let z : Some place ≡ Some p = e in let same : place ≡ p = cc in inr (subst (λ p. place ≤ p) same (le_refl place)))
moves_new conf s n place m l _ (multi.Meets k a until ask phase calm low high) = as_before place m l refl
moves_new conf s n place m l _ (multi.BacksOff k a until ask phase low high) = as_before place m l refl
moves_new conf s n place m l _ (multi.Writes k a p x id o ask phase conn none quiet unheld carries some) = as_before place m l refl
moves_new conf s n place m l _ (multi.CannotWrite k a p x ask phase conn none bad) = as_before place m l refl
moves_new conf s n place m l _ (multi.FindsNoId k a p x ask phase conn none full) = as_before place m l refl
moves_new conf s n place m l _ (multi.GoesOn k a until ask phase late) = as_before place m l refl
moves_new conf s n place m l _ (multi.TimesOut k a ask late) = as_before place m l refl
moves_new conf s n place m l _ (multi.ReadsNothing p x since conn mode late) = as_before place m l refl
moves_new conf s n place m l _ (multi.RestsTooLong p x since conn mode late pumped) = as_before place m l refl

takes_new : (conf : Conf) (n place : ℕ) (m l : Multi) (w : What) (x : multi.Act) → multi.Takes conf n m w x l → IsNew place m l
takes_new conf n place m l _ _ (multi.ItOpens p op) = none_opens place m l refl
takes_new conf n place m l _ _ (multi.ItDoesNotOpen p f calm op lt) = none_opens place m l refl
takes_new conf n place m l _ _ (multi.ItFails w p x conn told) = as_before place m l refl
takes_new conf n place m l _ _ (multi.SomeWritten p c x o conn lt) = as_before place m l refl
takes_new conf n place m l _ _ (multi.AllWritten p c x conn some le) = as_before place m l refl
takes_new conf n place m l _ _ (multi.NothingToWrite p c x conn none) = as_before place m l refl
takes_new conf n place m l _ _ (multi.OctetsCome p o x conn) = as_before place m l refl

frame_same : (n q : ℕ) (f : Octets) (m l : Multi) (x : multi.Act) → multi.TakesFrame n q f m x l → l.opening ≡ m.opening
frame_same n q f m l _ (multi.IsBad x conn bad) = refl
frame_same n q f m l _ (multi.IsUnknown x conn good none) = refl
frame_same n q f m l _ (multi.IsLate x y mode conn good held late leaves) = refl
frame_same n q f m l _ (multi.IsResult x y mode a conn good held ask phase leaves) = refl
frame_same n q f m l _ (multi.IsDropped none) = refl

abbrev Goes_new : (place : ℕ) → Served → Act Served → Type 0
Goes_new place u e = (place ≤ e.place) × IsNew place u.server.by_stream e.state.server.by_stream

settles_new : (s n place : ℕ) (u v : Served) (x : multi.Act) (e : Act Served) → v.server.by_stream.opening ≡ u.server.by_stream.opening → Settles s n place v x e → Goes_new place u e
settles_new s n place u v x _ same (machine.AsItIs set) = (grows x place, as_before place u.server.by_stream v.server.by_stream same)
settles_new s n place u v x _ same (machine.WithResult k a y held stage) = (grows x place, as_before place u.server.by_stream v.server.by_stream same)

acts_new : (conf : Conf) (s place : ℕ) (u : Served) (e : Act Served) → Acts conf s place u e → Goes_new place u e
acts_new conf s place u e (machine.ByDgram x d _ try set) = settles_new s u.clock place u _ x e refl set
acts_new conf s place u _ (machine.ByStream x m move) = (grows x place, moves_new conf s u.clock place u.server.by_stream m x move)
acts_new conf s place u _ (machine.FallsBack k a held stage) = (le_refl place, λ p e. inl e)
acts_new conf s place u e (machine.TellsDgrams x d _ untaken soon told foreign set) = settles_new s u.clock place u _ x e refl set
acts_new conf s place u _ (machine.TellsStreams x m untaken plain takes ignored) = (grows x place, takes_new conf u.clock place u.server.by_stream m u.pending x takes)
acts_new conf s place u _ (machine.Reads p o x untaken pend conn) = (le_refl place, λ p e. inl e)
acts_new conf s place u _ (machine.TakesOne f fs x m more soon frame) = (grows x place, as_before place u.server.by_stream m (frame_same u.clock u.place f u.server.by_stream m x frame))
acts_new conf s place u _ (machine.ClosesFirst f fs k y m x since more soon frame conn mode late pumped) = (le_refl place, as_before place u.server.by_stream (multi.end_at u.place m) (frame_same u.clock u.place f u.server.by_stream m (multi.Gives k y) frame))

chain_new : (c : Conf) (s place : ℕ) (u : Served) (e : Act Served) → Chain (served c) s place u e → Goes_new place u e
chain_new c s _ _ _ (Stays place u) = (le_refl place, λ p e. inl e)
chain_new c s _ _ _ (Goes place u a e act rest) =
    let one = acts_new c s place u a act in
    let more = chain_new c s a.place a.state e rest in
    (le_trans one.0 more.0, λ p is. elim (more.1 p is) [ inl was ↦ one.1 p was | inr le ↦ inr (le_trans one.0 le) ])

pub openings_are_new : OpeningsAreNew
openings_are_new = chain_new

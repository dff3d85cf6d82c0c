-- Moves by datagrams as moves of a server by datagrams and streams.
use Rattle.std.proofs.Common.{◌≡◌, ℕ, false, [], ◌∷◌, Some, refl, sym, subst, append-nil, append_assoc}
use Rattle.client_request.specs.declared.event.Out.TheVariants.{Start, Close}
use Rattle.client_request.specs.declared.event.Via.TheVariants.{Stream}
use Rattle.right_trace.specs.Trace.{Conf, ByDatagrams}
use Rattle.proof_right.specs.machine.Part.{Act}
use Rattle.proof_right.specs.machine.Streams as multi
use Rattle.proof_right.specs.machine.Streams.{IsForeign}
use Rattle.proof_right.specs.machine.Dgrams.{Cut, Tryer, Dgrams, staged, leave, Meets}
use Rattle.proof_right.specs.machine.Server as server
use Rattle.proof_right.specs.machine.Served as machine
use Rattle.proof_right.specs.machine.Served.{Served, served, IsInTime, IsSettled, Settles, Acts}
use Rattle.proof_parts.specs.Chains.{still, then_act, Chain, Stays, Goes}
use Rattle.proof_dgram.specs.Steps.{AtOnce, AsItIs, WithResult, Steps, Rests, Steps_on}
use Rattle.proof_dgram.specs.Calls.{Waits, HasPlace, LetsGo}
use Rattle.proof_dgram.specs.AtServer.{with_dgrams, taken_by, at_server, goes_by_stream, ServersMove}

same_act : (d e : Act Served) → d.state ≡ e.state → d.place ≡ e.place → d.outs ≡ e.outs → d.posts ≡ e.posts → d ≡ e
same_act d e state place outs posts = λ i. record { state = state i; place = place i; outs = outs i; posts = posts i }

pub chain_then : (c : Conf) (s place : ℕ) (u : Served) (d e : Act Served) → Chain (served c) s place u d → Chain (served c) s d.place d.state e → Chain (served c) s place u (then_act d e)
chain_then c s _ _ _ e (Stays place u) more = more
chain_then c s _ _ _ e (Goes place u a b first rest) more =
    subst (Chain (served c) s place u)
    (same_act (then_act a (then_act b e)) (then_act (then_act a b) e) refl refl (sym (append_assoc a.outs b.outs e.outs)) (sym (append_assoc a.posts b.posts e.posts)))
    (Goes place u a (then_act b e) first (chain_then c s a.place a.state b e rest more))

steps_chain : (c : Conf) (s : ℕ) (u : Served) (place : ℕ) (d : Dgrams) (e : Act Dgrams) → Steps c s u.clock place d e → Chain (served c) s place (with_dgrams d u) (at_server u with_dgrams e)
steps_chain c s u _ _ _ (Rests place d) = Stays place (with_dgrams d u)
steps_chain c s u _ _ _ (Steps_on place d x k e g tries at rest) = Goes place (with_dgrams d u) (at_server u with_dgrams e) (at_server u with_dgrams g) (machine.ByDgram x k (at_server u with_dgrams e) tries (settles e at)) (steps_chain c s u e.place e.state g rest)
  where
    settles : (e : Act Dgrams) → AtOnce place x k e → Settles s u.clock place (with_dgrams k u) x (at_server u with_dgrams e)
    settles _ (AsItIs set) = machine.AsItIs set
    settles _ (WithResult j a y held stage) = machine.WithResult j a y held stage

told : (conf : Conf) (s place : ℕ) (u : Served) (x : multi.Act) (d : Dgrams) (e : Act Dgrams) → u.taken ≡ false → IsInTime conf u.clock u.server → IsForeign u.pending u.server.by_stream → Meets conf u.clock u.server.by_dgram u.pending x d → AtOnce place x d e → Acts conf s place u (at_server u taken_by e)
told conf s place u x d e untaken soon foreign meets at = machine.TellsDgrams x d (at_server u taken_by e) untaken soon meets foreign (settles e at)
  where
    settles : (e : Act Dgrams) → AtOnce place x d e → Settles s u.clock place (taken_by d u) x (at_server u taken_by e)
    settles _ (AsItIs set) = machine.AsItIs set
    settles _ (WithResult j a y held stage) = machine.WithResult j a y held stage

cuts : (c : Conf) (s place p k : ℕ) (u : Served) (a : Tryer) (e : Act Dgrams) → u.taken ≡ false → IsInTime c u.clock u.server → IsForeign u.pending u.server.by_stream → Meets c u.clock u.server.by_dgram u.pending (multi.Puts (Close p)) (leave p k a Cut u.server.by_dgram) → IsSettled (leave p k a Cut u.server.by_dgram)
    → Steps c s u.clock place (leave p k a Cut u.server.by_dgram) e → e.state.held k ≡ Some (staged a Cut) → Chain (served c) s place u (goes_by_stream s k (staged a Cut) (at_server u taken_by (record e { outs = Close p ∷ e.outs })))
cuts c s place p k u a e untaken soon foreign meets set steps held =
    let d = leave p k a Cut u.server.by_dgram in
    let first : Act Served = at_server u taken_by (record { state = d; place = place; outs = Close p ∷ []; posts = [] }) in
    let mid : Act Served = at_server u taken_by e in
    let last : Act Served = record { state = machine.has_moved (server.falls_back k u.clock (staged a Cut) mid.state.server) mid.state; place = e.place; outs = Start k s Stream ∷ []; posts = [] } in
    let one : Acts c s place u first = machine.TellsDgrams (multi.Puts (Close p)) d first untaken soon meets foreign (machine.AsItIs set) in
    let more : Chain (served c) s place (taken_by d u) mid = steps_chain c s (taken_by d u) place d e steps in
    let three : Chain (served c) s e.place mid.state (then_act last (still e.place last.state)) = Goes e.place mid.state last (still e.place last.state) (machine.FallsBack k (staged a Cut) held refl) (Stays e.place last.state) in
    let both = chain_then c s place (taken_by d u) mid (then_act last (still e.place last.state)) more three in
    subst (Chain (served c) s place u)
    (same_act (then_act first (then_act mid (then_act last (still e.place last.state)))) (goes_by_stream s k (staged a Cut) (at_server u taken_by (record e { outs = Close p ∷ e.outs }))) refl refl refl (append-nil e.posts))
    (Goes place u first (then_act mid (then_act last (still e.place last.state))) one both)

lets_go : (s place k : ℕ) (u : Served) (e : Act Dgrams) → LetsGo k place u.server.by_dgram e → machine.Cancels s place k u (at_server u with_dgrams e)
lets_go s place k u _ (Waits a held stage) = machine.IsGivenUp multi.Nothing _ (server.Waits a held stage)
lets_go s place k u _ (HasPlace a p held stage) = machine.IsGivenUp _ _ (server.HasPlace a p held stage)

pub servers_move : ServersMove
servers_move = record {
  steps = λ c s place u e steps. steps_chain c s u place u.server.by_dgram e steps;
  told = told;
  cuts = cuts;
  starts = λ c s place k r u used free. machine.IsHanded ByDatagrams _ _ used (server.ToDgrams refl free);
  lets_go = lets_go;
}

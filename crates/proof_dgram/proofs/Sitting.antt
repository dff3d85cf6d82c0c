-- What streams do before the event is told they do beside any datagrams, and also once it was told to these.
use Rattle.std.proofs.Common.{◌≡◌, ℕ, Bool, true, false, [], refl, sym, ap, subst, ◌∙◌}
use Rattle.right_trace.specs.Trace.{Conf}
use Rattle.proof_right.specs.machine.Part.{Act}
use Rattle.proof_right.specs.machine.Streams as multi
use Rattle.proof_right.specs.machine.Streams.{Multi}
use Rattle.proof_right.specs.machine.Dgrams.{Dgrams}
use Rattle.proof_right.specs.machine.Served as machine
use Rattle.proof_right.specs.machine.Served.{Served, served, Settles, Acts}
use Rattle.proof_parts.specs.Chains.{Chain, Stays, Goes}
use Rattle.proof_dgram.specs.AtServer.{with_dgrams}
use Rattle.proof_dgram.specs.Halves.{IsByStreams, beside}
use Rattle.proof_dgram.proofs.OtherConf.{moves_same}
use Rattle.proof_dgram.proofs.Halves.{nobody, no_tries, no_meets}

-- a server with these datagrams and streams
abbrev pub sits : Served → Dgrams → Multi → Served
sits u d m = record u { server = record { by_dgram = d; by_stream = m } }

-- an event that was taken stays so

settles_taken : (s n next : ℕ) (v : Served) (x : multi.Act) (a : Act Served) → Settles s n next v x a → a.state.taken ≡ v.taken
settles_taken s n next v x _ (machine.AsItIs set) = refl
settles_taken s n next v x _ (machine.WithResult k a y held stage) = refl

taken_acts : (c : Conf) (s place : ℕ) (u : Served) (a : Act Served) → Acts c s place u a → u.taken ≡ true → a.state.taken ≡ true
taken_acts c s place u a (machine.ByDgram x k _ tries set) t = settles_taken s u.clock place _ x a set ∙ t
taken_acts c s place u _ (machine.ByStream x m move) t = t
taken_acts c s place u _ (machine.FallsBack k b held stage) t = t
taken_acts c s place u a (machine.TellsDgrams x k _ untaken soon meets foreign set) t = settles_taken s u.clock place _ x a set
taken_acts c s place u _ (machine.TellsStreams x m untaken plain takes nothing) t = refl
taken_acts c s place u _ (machine.Reads p o x untaken pend conn) t = refl
taken_acts c s place u _ (machine.TakesOne f fs x m more soon frame) t = t
taken_acts c s place u _ (machine.ClosesFirst f fs k y m x since more soon frame conn mode late pumped) t = t

taken_chain : (b : Conf) (s place : ℕ) (u : Served) (e : Act Served) → Chain (served b) s place u e → u.taken ≡ true → e.state.taken ≡ true
taken_chain b s _ _ _ (Stays place u) t = t
taken_chain b s _ _ _ (Goes place u a e act rest) t = taken_chain b s a.place a.state e rest (taken_acts b s place u a act t)

-- One move that takes nothing is one of the streams.
record Sits (c : Conf) (s place : ℕ) (u : Served) (w : Served) (d : Dgrams) (a : Act Served) : Type 0 where
  pub same : a.state ≡ record u { server = a.state.server }
  pub alone : IsByStreams a.state
  pub act : Acts c s place (sits w d u.server.by_stream) (record a { state = sits w d a.state.server.by_stream })

one : (b c : Conf) (same_transports : b.transports ≡ c.transports) (s place : ℕ) (u w : Served) (d : Dgrams) (a : Act Served) → IsByStreams u → u.frames ≡ [] → w.clock ≡ u.clock → Acts b s place u a → a.state.taken ≡ false → Sits c s place u w d a
one b c same_transports s place u w d a none frames clock (machine.ByDgram x k _ tries set) t = absurd (no_tries b s u.clock place u.server.by_dgram k x none tries)
one b c same_transports s place u w d _ none frames clock (machine.ByStream x m move) t = record { same = refl; alone = none; act = machine.ByStream x m (subst (λ n. multi.Moves c s n place u.server.by_stream x m) (sym clock) (moves_same b c same_transports s u.clock place u.server.by_stream x m move)) }
one b c same_transports s place u w d _ none frames clock (machine.FallsBack k a held stage) t = absurd (nobody u.server.by_dgram k a none held)
one b c same_transports s place u w d a none frames clock (machine.TellsDgrams x k _ untaken soon meets foreign set) t = absurd (no_meets b u.clock u.server.by_dgram k u.pending x none meets)
one b c same_transports s place u w d _ none frames clock (machine.TellsStreams x m untaken plain takes nothing) t = absurd (let z : true ≡ false = t in cc)
one b c same_transports s place u w d _ none frames clock (machine.Reads p o x untaken pend conn) t = absurd (let z : true ≡ false = t in cc)
one b c same_transports s place u w d _ none frames clock (machine.TakesOne f fs x m more soon frame) t = absurd (let z = sym frames ∙ more in cc)
one b c same_transports s place u w d _ none frames clock (machine.ClosesFirst f fs k y m x since more soon frame conn mode late pumped) t = absurd (let z = sym frames ∙ more in cc)

-- Moves that take nothing leave all but the streams as it was, and are moves of any server with these streams, whose clock is the same.
pub record Sitting (c : Conf) (s place : ℕ) (u w : Served) (d : Dgrams) (e : Act Served) : Type 0 where
  pub same : e.state ≡ record u { server = e.state.server }
  pub alone : IsByStreams e.state
  pub chain : Chain (served c) s place (sits w d u.server.by_stream) (record e { state = sits w d e.state.server.by_stream })

pub sitting : (c b : Conf) (same_transports : b.transports ≡ c.transports) (s : ℕ) (w : Served) (d : Dgrams) (place : ℕ) (u : Served) (e : Act Served) → IsByStreams u → u.frames ≡ [] → w.clock ≡ u.clock → Chain (served b) s place u e → e.state.taken ≡ false → Sitting c s place u w d e
sitting c b same_transports s w d _ _ _ none frames clock (Stays place u) t = record { same = refl; alone = none; chain = Stays place (sits w d u.server.by_stream) }
sitting c b same_transports s w d _ _ _ none frames clock (Goes place u a e act rest) t =
    let m = one b c same_transports s place u w d a none frames clock act (untaken a.state.taken refl) in
    let r = sitting c b same_transports s w d a.place a.state e m.alone (ap (λ (u : Served). u.frames) m.same ∙ frames) (clock ∙ sym (ap (λ (u : Served). u.clock) m.same)) rest t in
    record {
      same = r.same ∙ ap (λ (z : Served). record z { server = e.state.server }) m.same;
      alone = r.alone;
      chain = Goes place (sits w d u.server.by_stream) (record a { state = sits w d a.state.server.by_stream }) (record e { state = sits w d e.state.server.by_stream }) m.act r.chain;
    }
  where
    untaken : (x : Bool) → a.state.taken ≡ x → a.state.taken ≡ false
    untaken true y = absurd (let z : true ≡ false = sym (taken_chain b s a.place a.state e rest y) ∙ t in cc)
    untaken false y = y

-- So they are moves beside other datagrams.
pub sitting_beside : (c b : Conf) (same_transports : b.transports ≡ c.transports) (s : ℕ) (d : Dgrams) (place : ℕ) (u : Served) (e : Act Served) → IsByStreams u → u.frames ≡ [] → Chain (served b) s place u e → e.state.taken ≡ false → Chain (served c) s place (with_dgrams d u) (beside d e)
sitting_beside c b same_transports s d place u e none frames chain t =
    let r = sitting c b same_transports s u d place u e none frames refl chain t in
    subst (λ z. Chain (served c) s place (with_dgrams d u) (record e { state = z })) (sym (ap (λ (z : Served). with_dgrams d z) r.same)) r.chain

-- What a server does by streams alone it does beside any datagrams.
use Rattle.std.proofs.Common.{◌≡◌, ℕ, ◌+◌, ◌<◌, ◌≤◌, Some, None, refl, sym, ap, subst, ◌∙◌}
use Rattle.client_request.specs.Request.{Request}
use Rattle.client_request.specs.declared.event.What.{What}
use Rattle.client_request.specs.declared.event.Out.TheVariants.{Start}
use Rattle.client_request.specs.declared.event.Via.TheVariants.{Stream}
use Rattle.right_trace.specs.Orderly.{use_at}
use Rattle.right_trace.specs.Trace.{Use, Conf, ByDatagrams, ByStreams}
use Rattle.proof_right.specs.machine.Part.{Act}
use Rattle.proof_right.specs.machine.Streams as multi
use Rattle.proof_right.specs.machine.Streams.{Multi, IsForeign}
use Rattle.proof_right.specs.machine.Dgrams as dgrams
use Rattle.proof_right.specs.machine.Dgrams.{Cut, Tryer, Dgrams, no_datagram, forget, Tries, Meets, IsIgnored}
use Rattle.proof_right.specs.machine.Server as server
use Rattle.proof_right.specs.machine.Server.{Server}
use Rattle.proof_right.specs.machine.Served as machine
use Rattle.proof_right.specs.machine.Served.{Served, served, Settles, IsInTime, Acts, Starts, Cancels, RestsNow}
use Rattle.proof_parts.specs.Chains.{Chain, Stays, Goes}
use Rattle.proof_dgram.specs.AtServer.{with_dgrams, DgramsRest}
use Rattle.proof_dgram.specs.Halves.{IsByStreams, beside, AreInTime, StreamsMove}
use Rattle.right_trace.specs.Updates.{with_at}
use Rattle.proof_dgram.proofs.OtherConf.{moves_same, takes_same, silent_same, quiet_same}

-- nobody is held where nothing was asked of datagrams
pub nobody : (d : Dgrams) (k : ℕ) (a : Tryer) → d ≡ no_datagram → d.held k ≡ Some a → ⊥
nobody d k a none held = (let z : None ≡ Some a = sym (ap (λ (d : Dgrams). d.held k) none) ∙ held in cc)

pub no_tries : (conf : Conf) (s n next : ℕ) (d e : Dgrams) (x : multi.Act) → d ≡ no_datagram → Tries conf s n next d x e → ⊥
no_tries conf s n next d _ _ none (dgrams.Opens k a held stage few) = nobody d k a none held
no_tries conf s n next d _ _ none (dgrams.Retries k a p id t held stage late few) = nobody d k a none held
no_tries conf s n next d _ _ none (dgrams.StopsTrying k a p id t held stage late six) = nobody d k a none held
no_tries conf s n next d _ _ none (dgrams.Ends k a x held stage) = nobody d k a none held

pub no_meets : (conf : Conf) (n : ℕ) (d e : Dgrams) (w : What) (x : multi.Act) → d ≡ no_datagram → Meets conf n d w x e → ⊥
no_meets conf n d _ _ _ none (dgrams.IsSent k a p id o at held stage carries) = nobody d k a none held
no_meets conf n d _ _ _ none (dgrams.CannotBeSent k a p e at held stage bad) = nobody d k a none held
no_meets conf n d _ _ _ none (dgrams.DoesNotOpen k a p f at held stage) = nobody d k a none held
no_meets conf n d _ _ _ none (dgrams.NotSent k a p id t f at held stage) = nobody d k a none held
no_meets conf n d _ _ _ none (dgrams.SentShort k a p id t at held stage) = nobody d k a none held
no_meets conf n d _ _ _ none (dgrams.NotReceived k a p id t f at held stage) = nobody d k a none held
no_meets conf n d _ _ _ none (dgrams.IsAnswered k a p id t o at held stage long ok) = nobody d k a none held

-- What a move leaves of what it needs.
record Moved (conf : Conf) (s place : ℕ) (u : Served) (d : Dgrams) (e : Act Served) : Type 0 where
  pub alone : IsByStreams e.state
  pub act : Acts conf s place (with_dgrams d u) (beside d e)
  pub ignored : IsIgnored conf e.state.pending d
  pub clock : e.state.clock ≡ u.clock

moves : (b c : Conf) (same_transports : b.transports ≡ c.transports) (s place : ℕ) (u : Served) (d : Dgrams) (e : Act Served) → IsByStreams u → IsIgnored c u.pending d → AreInTime c u.clock d → Acts b s place u e → Moved c s place u d e
moves b c same_transports s place u d e none ignored early (machine.ByDgram x k _ tries set) = absurd (no_tries b s u.clock place u.server.by_dgram k x none tries)
moves b c same_transports s place u d _ none ignored early (machine.ByStream x m move) = record { alone = none; act = machine.ByStream x m (moves_same b c same_transports s u.clock place u.server.by_stream x m move); ignored = ignored; clock = refl }
moves b c same_transports s place u d _ none ignored early (machine.FallsBack k a held stage) = absurd (nobody u.server.by_dgram k a none held)
moves b c same_transports s place u d e none ignored early (machine.TellsDgrams x k _ untaken soon meets foreign set) = absurd (no_meets b u.clock u.server.by_dgram k u.pending x none meets)
moves b c same_transports s place u d _ none ignored early (machine.TellsStreams x m untaken plain takes nothing) = record { alone = none; act = machine.TellsStreams x m untaken plain (takes_same b c same_transports u.clock u.server.by_stream u.pending x m takes) ignored; ignored = tt; clock = refl }
moves b c same_transports s place u d _ none ignored early (machine.Reads p o x untaken pend conn) = record { alone = none; act = machine.Reads p o x untaken pend conn; ignored = tt; clock = refl }
moves b c same_transports s place u d _ none ignored early (machine.TakesOne f fs x m more soon frame) = record { alone = none; act = machine.TakesOne f fs x m more (record { sent = early; asked = λ k a is. subst (λ t. u.clock < a.since + t) (silent_same b c same_transports) (soon.asked k a is) }) frame; ignored = ignored; clock = refl }
moves b c same_transports s place u d _ none ignored early (machine.ClosesFirst f fs k y m x since more soon frame conn mode late pumped) = record { alone = none; act = machine.ClosesFirst f fs k y m x since more (record { sent = early; asked = λ k a is. subst (λ t. u.clock < a.since + t) (silent_same b c same_transports) (soon.asked k a is) }) frame conn mode late pumped; ignored = ignored; clock = refl }

chain : (c b : Conf) (same_transports : b.transports ≡ c.transports) (s : ℕ) (d : Dgrams) (place : ℕ) (u : Served) (e : Act Served) → IsByStreams u → IsIgnored c u.pending d → AreInTime c u.clock d → Chain (served b) s place u e → IsByStreams e.state × Chain (served c) s place (with_dgrams d u) (beside d e)
chain c b same_transports s d _ _ _ none ignored early (Stays place u) = (none, Stays place (with_dgrams d u))
chain c b same_transports s d _ _ _ none ignored early (Goes place u a e act rest) =
    let m = moves b c same_transports s place u d a none ignored early act in
    let g = chain c b same_transports s d a.place a.state e m.alone m.ignored (subst (λ n. AreInTime c n d) (sym m.clock) early) rest in
    (g.0, Goes place (with_dgrams d u) (beside d a) (beside d e) m.act g.1)

-- an event that is nothing to the datagrams stays so
pub still_ignored : (b c : Conf) (same_transports : b.transports ≡ c.transports) (s : ℕ) (d : Dgrams) (place : ℕ) (u : Served) (e : Act Served) → IsByStreams u → IsIgnored c u.pending d → AreInTime c u.clock d → Chain (served b) s place u e → IsIgnored c e.state.pending d
still_ignored b c same_transports s d _ _ _ none ignored early (Stays place u) = ignored
still_ignored b c same_transports s d _ _ _ none ignored early (Goes place u a e act rest) =
    let m = moves b c same_transports s place u d a none ignored early act in
    still_ignored b c same_transports s d a.place a.state e m.alone m.ignored (subst (λ n. AreInTime c n d) (sym m.clock) early) rest

handed : (b c : Conf) (s place k : ℕ) (r : Request) (u : Served) (d : Dgrams) (a : Tryer) (e : Act Served) → use_at s b.servers ≡ Some ByStreams → IsByStreams u → d.held k ≡ Some a → a.stage ≡ Cut → a.request ≡ r → Starts b s place k r u e → IsByStreams e.state × Acts c s place (with_dgrams d u) (beside (forget k d) e)
handed b c s place k r u d a _ used none held cut same (machine.IsHanded how x v is it) = by how x v is it
  where
    by : (how : Use) (x : multi.Act) (v : Server) → use_at s b.servers ≡ Some how → server.IsHanded how s u.clock k r u.server x v → IsByStreams (machine.has_moved v u) × Acts c s place (with_dgrams d u) (beside (forget k d) (machine.does (machine.has_moved v u) place x))
    by how _ _ is (server.ToDgrams way free) = absurd (let z : Some ByDatagrams ≡ Some ByStreams = sym (is ∙ ap Some way) ∙ used in cc)
    by how _ _ is (server.ToStreams way free) = (none, subst (λ r. Acts c s place (with_dgrams d u) (beside (forget k d) (machine.does (machine.has_moved (record u.server { by_stream = record u.server.by_stream { asks = with_at k (Some (record { request = r; since = u.clock; phase = multi.Free })) u.server.by_stream.asks } }) u) place (multi.Puts (Start k s Stream))))) same (machine.FallsBack k a held cut))

cancels : (s place k : ℕ) (u : Served) (d : Dgrams) (e : Act Served) → IsByStreams u → d.held k ≡ None → Cancels s place k u e → IsByStreams e.state × Cancels s place k (with_dgrams d u) (beside d e)
cancels s place k u d _ none free (machine.IsGivenUp x v it) = by x v it
  where
    by : (x : multi.Act) (v : Server) → server.IsGivenUp s u.clock k u.server x v → IsByStreams (machine.has_moved v u) × Cancels s place k (with_dgrams d u) (beside d (machine.does (machine.has_moved v u) place x))
    by _ _ (server.Waits a held stage) = absurd (nobody u.server.by_dgram k a none held)
    by _ _ (server.HasPlace a p held stage) = absurd (nobody u.server.by_dgram k a none held)
    by _ _ (server.AtStreams nothing) = (none, machine.IsGivenUp multi.Nothing _ (server.AtStreams free))

rests : (b c : Conf) (same_transports : b.transports ≡ c.transports) (u : Served) (d : Dgrams) → RestsNow b u → DgramsRest c u.clock d → IsIgnored c u.pending d → RestsNow c (with_dgrams d u)
rests b c same_transports u d r q ignored = record {
  rests = record {
    waiting = q.waiting;
    reading = q.reading;
    ending = q.ending;
    cut = q.cut;
    free = r.rests.free;
    broken = r.rests.broken;
    lined = r.rests.lined;
    backing = r.rests.backing;
    silent = λ k a is. subst (λ t. u.clock < a.since + t) (silent_same b c same_transports) (r.rests.silent k a is);
    quiet = λ p x since conn mode. subst (λ t. u.clock ≤ since + t) (quiet_same b c same_transports) (r.rests.quiet p x since conn mode);
    idle = r.rests.idle;
  };
  frames = r.frames;
  ignored = ignored;
  foreign = r.foreign;
}

pub streams_move : StreamsMove
streams_move = record {
  chain = λ c b same_transports s place u d e none ignored early more. chain c b same_transports s d place u e none ignored early more;
  falls = handed;
  cancels = cancels;
  rests = rests;
}

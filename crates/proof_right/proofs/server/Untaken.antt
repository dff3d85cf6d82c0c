-- A message that came by stream for a request that is held, and is not taken yet.
use Rattle.right_trace.specs.Trace.{Conf}
use Rattle.std.proofs.Common.{◌≡◌, ℕ, ◌+◌, ◌<◌, true, false, Some, sym, subst, ap, ◌∙◌}
use Rattle.client_request.specs.declared.event.What.TheVariants.{Bytes}
use Rattle.right_trace.specs.Time.{stream_timeout}
use Rattle.right_trace.specs.Messages.{Octets, answers}
use Rattle.right_trace.specs.Frames.{Reading, fed, first_with}
use Rattle.proof_right.specs.machine.Streams.{Asker, Conn}
use Rattle.proof_right.specs.machine.Served.{Served}
use Rattle.proof_right.proofs.server.Expecting.{Expects, ByOctets, InFrames}
use Rattle.proof_right.specs.machine.Streams as multi

-- where the message is
pub data Source (u : Served) (p id : ℕ) (m : Octets) (got : Reading) : Type 0 where
  InOctets : (o : Octets) → u.pending ≡ Bytes p o → u.taken ≡ false → first_with id (fed got o).frames ≡ Some m → Source u p id m got
  AmongFrames : u.place ≡ p → u.taken ≡ true → first_with id u.frames ≡ Some m → Source u p id m got

pub record IsUntaken (u : Served) (p k id : ℕ) (m : Octets) (a : Asker) : Type 0 where
  pub ask : u.server.by_stream.asks k ≡ Some a
  pub phase : a.phase ≡ multi.Holding p id
  pub conn : Conn
  pub is_conn : u.server.by_stream.conns p ≡ Some conn
  pub source : Source u p id m conn.got

-- so it is expected, if it answers and is in time
pub expects_it : (c : Conf) → (u : Served) (p k id : ℕ) (m : Octets) (a : Asker) → IsUntaken u p k id m a → u.clock < a.since + stream_timeout c → answers a.request id m ≡ true → Expects c u p k m
expects_it c u p k id m a x soon ok = go x.source
  where
    go : Source u p id m x.conn.got → Expects c u p k m
    go (InOctets o pend un first) = ByOctets a id o x.conn pend un x.ask soon x.phase x.is_conn first ok
    go (AmongFrames place taken first) = InFrames a id x.conn place taken x.ask soon x.phase x.is_conn first ok

-- The request and its connection stay, and so does what is read.
pub record Stays (u v : Served) (p k : ℕ) (a : Asker) (x : Conn) : Type 0 where
  pub asker : Asker
  pub ask : v.server.by_stream.asks k ≡ Some asker
  pub request : asker.request ≡ a.request
  pub since : asker.since ≡ a.since
  pub phase : asker.phase ≡ a.phase
  pub conn : Conn
  pub is_conn : v.server.by_stream.conns p ≡ Some conn
  pub got : conn.got ≡ x.got

pub source_same : (u v : Served) (p id : ℕ) (m : Octets) (got got' : Reading) → v.pending ≡ u.pending → v.taken ≡ u.taken → v.place ≡ u.place → v.frames ≡ u.frames → got' ≡ got → Source u p id m got → Source v p id m got'
source_same u v p id m got got' pending taken place frames same (InOctets o pend un first) = InOctets o (pending ∙ pend) (taken ∙ un) (subst (λ g. first_with id (fed g o).frames ≡ Some m) (sym same) first)
source_same u v p id m got got' pending taken place frames same (AmongFrames at tk first) = AmongFrames (place ∙ at) (taken ∙ tk) (ap (first_with id) frames ∙ first)

pub still : (u v : Served) (p k id : ℕ) (m : Octets) (a : Asker) (x : IsUntaken u p k id m a) → v.pending ≡ u.pending → v.taken ≡ u.taken → v.place ≡ u.place → v.frames ≡ u.frames → (y : Stays u v p k a x.conn) → IsUntaken v p k id m y.asker
still u v p k id m a x pending taken place frames y = record { ask = y.ask; phase = y.phase ∙ x.phase; conn = y.conn; is_conn = y.is_conn; source = source_same u v p id m x.conn.got y.conn.got pending taken place frames y.got x.source }

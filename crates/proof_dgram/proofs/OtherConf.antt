-- What a server by streams alone does, it does at each configuration with the same settings of transports.
use Rattle.std.proofs.Common.{◌≡◌, ℕ, ◌+◌, ◌<◌, ◌≤◌, false, Option, Some, None, sym, ap, subst}
use Rattle.client_request.specs.declared.event.What.{What}
use Rattle.client_request.specs.declared.event.What.TheVariants.{Opened}
use Rattle.right_trace.specs.Frames.{Length}
use Rattle.right_trace.specs.Time.{response_timeout, idle_timeout, stream_timeout}
use Rattle.right_trace.specs.Trace.{Conf}
use Rattle.right_trace.specs.Updates.{with_at}
use Rattle.proof_right.specs.machine.Streams as multi
use Rattle.proof_right.specs.machine.Streams.{Multi}

-- a place opens, which may be idle for so long
abbrev opened_with : (idle p : ℕ) → Multi → Multi
opened_with idle p m = record {
  asks = λ k. multi.every (multi.expected multi.Free) (m.asks k);
  conns = with_at p (Some (record { ids = λ id. None; left = 0; idle = idle; mode = multi.New; got = Length; heard = false })) m.conns;
  opening = None;
  calm = m.calm;
}

module _ (b c : Conf) (same_transports : b.transports ≡ c.transports) where
  pub silent_same : stream_timeout b ≡ stream_timeout c
  unfolding stream_timeout
  silent_same = ap (λ t. t.multi_stream_response_timeout) same_transports

  pub quiet_same : response_timeout b ≡ response_timeout c
  unfolding response_timeout
  quiet_same = ap (λ t. t.stream_response_timeout) same_transports

  idle_same : idle_timeout b ≡ idle_timeout c
  unfolding idle_timeout
  idle_same = ap (λ t. t.stream_idle_timeout) same_transports

  pub moves_same : (s n next : ℕ) (m : Multi) (x : multi.Act) (e : Multi) → multi.Moves b s n next m x e → multi.Moves c s n next m x e
  moves_same s n next m _ _ (multi.Joins k a p x asks phase conn) = multi.Joins k a p x asks phase conn
  moves_same s n next m _ _ (multi.Expects k a p asks phase opening) = multi.Expects k a p asks phase opening
  moves_same s n next m _ _ (multi.Opens k a asks phase opening full) = multi.Opens k a asks phase opening full
  moves_same s n next m _ _ (multi.Meets k a until asks phase calm late soon) = multi.Meets k a until asks phase calm late soon
  moves_same s n next m _ _ (multi.BacksOff k a until asks phase late soon) = multi.BacksOff k a until asks phase late soon
  moves_same s n next m _ _ (multi.Writes k a p x id o asks phase conn left heard free carries some) = multi.Writes k a p x id o asks phase conn left heard free carries some
  moves_same s n next m _ _ (multi.CannotWrite k a p x asks phase conn left invalid) = multi.CannotWrite k a p x asks phase conn left invalid
  moves_same s n next m _ _ (multi.FindsNoId k a p x asks phase conn left full) = multi.FindsNoId k a p x asks phase conn left full
  moves_same s n next m _ _ (multi.GoesOn k a until asks phase late) = multi.GoesOn k a until asks phase late
  moves_same s n next m _ _ (multi.TimesOut k a asks late) = multi.TimesOut k a asks (subst (λ t. a.since + t ≤ n) silent_same late)
  moves_same s n next m _ _ (multi.ReadsNothing p x since conn mode late) = multi.ReadsNothing p x since conn mode (subst (λ t. since + t < n) quiet_same late)
  moves_same s n next m _ _ (multi.RestsTooLong p x since conn mode late lined) = multi.RestsTooLong p x since conn mode late lined

  pub takes_same : (n : ℕ) (m : Multi) (w : What) (x : multi.Act) (e : Multi) → multi.Takes b n m w x e → multi.Takes c n m w x e
  takes_same n m _ _ _ (multi.ItOpens p opening) = subst (λ i. multi.Takes c n m (Opened p) multi.Nothing (opened_with i p m)) (sym idle_same) (multi.ItOpens p opening)
  takes_same n m _ _ _ (multi.ItDoesNotOpen p f calm opening soon) = multi.ItDoesNotOpen p f calm opening soon
  takes_same n m w _ _ (multi.ItFails _ p x conn told) = multi.ItFails w p x conn told
  takes_same n m _ _ _ (multi.SomeWritten p k x o conn less) = multi.SomeWritten p k x o conn less
  takes_same n m _ _ _ (multi.AllWritten p k x conn some all) = multi.AllWritten p k x conn some all
  takes_same n m _ _ _ (multi.NothingToWrite p k x conn none) = multi.NothingToWrite p k x conn none
  takes_same n m _ _ _ (multi.OctetsCome p o x conn) = multi.OctetsCome p o x conn

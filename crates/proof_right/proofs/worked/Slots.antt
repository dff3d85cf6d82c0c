-- A slot is given on before the request whose answer was cut goes on by stream.
use Rattle.proof_right.specs.examples.Rows.{by_datagrams}
use Rattle.std.proofs.Common.{◌≡◌, ℕ, Some, None, refl, take, ap}
use Rattle.std.specs.Prelude.{Result, if◌then◌else◌}
use Rattle.right_trace.specs.Time.{read_timeout, recv_size, max_places, max_tries}
use Rattle.client_request.specs.declared.event.Out.TheVariants.{Start, OpenDgram, Close}
use Rattle.client_request.specs.declared.event.Via.TheVariants.{Stream}
use Rattle.proof_right.specs.machine.Streams.{Puts, no_connection}
use Rattle.proof_right.specs.machine.Dgrams as dgrams
use Rattle.proof_right.specs.machine.Dgrams.{Tryer, Dgrams}
use Rattle.proof_right.specs.machine.Server as server
use Rattle.proof_right.specs.machine.Served as served
use Rattle.proof_right.specs.machine.Served.{does, has_moved, has_taken_it, AsItIs}
use Rattle.proof_right.specs.examples.Messages.{cut_answer}
use Rattle.proof_right.specs.examples.Slots.{sent_first, queued_behind, all_slots_taken, SlotIsGivenOn}
use Rattle.proof_right.proofs.worked.Resting.{nobody, below, at_most, StageSettled, StageInTime, cut_settled, in_time_by, datagram_foreign}
use Rattle.proof_right.proofs.server.Views.{each_at}
use Rattle.proof_right.proofs.worked.Runs.{cut_is}
use Rattle.right_trace.specs.Updates.{with_at}

-- what holds of both requests holds of each that is held
both : (P : Tryer → Type 0) (x y : Tryer) → P x → P y → (k : ℕ) (a : Tryer) → with_at 0 (Some x) (with_at 1 (Some y) (λ k. None)) k ≡ Some a → P a
both P x y p q = each_at (λ k a. P a) 0 x (with_at 1 (Some y) (λ k. None)) p (λ k a ne. each_at (λ k a. P a) 1 y (λ k. None) q (λ k a ne e. absurd (cc)) k a)

abbrev cut : Tryer
cut = dgrams.staged sent_first (dgrams.stage_of (take 2000 (cut_answer 18 52)))

is_cut : dgrams.stage_of (take 2000 (cut_answer 18 52)) ≡ dgrams.Cut
is_cut = ap (λ b. if b then dgrams.Cut else dgrams.Ending (Result.Ok (take 2000 (cut_answer 18 52)))) cut_is.1

abbrev d0 : Dgrams
d0 = all_slots_taken.server.by_dgram

abbrev d1 : Dgrams
d1 = dgrams.leave 0 0 sent_first (dgrams.stage_of (take 2000 (cut_answer 18 52))) d0

abbrev u1 : served.Served
u1 = has_taken_it (record all_slots_taken.server { by_dgram = d1 }) all_slots_taken

abbrev d2 : Dgrams
d2 = dgrams.try_at 100 1 queued_behind d1

abbrev u2 : served.Served
u2 = has_moved (record u1.server { by_dgram = d2 }) u1

pub slot_is_given_on : SlotIsGivenOn
unfolding read_timeout recv_size max_places max_tries
slot_is_given_on = record {
  closes = does u1 100 (Puts (Close 0));
  opens = does u2 100 (Puts (OpenDgram 100 0));
  falls_back = does (has_moved (server.falls_back 0 20000 cut u2.server) u2) 101 (Puts (Start 0 0 Stream));
  first = served.TellsDgrams (Puts (Close 0)) d1 _ refl ((in_time_by by_datagrams) 20000 all_slots_taken.server (both (λ a. (StageInTime by_datagrams) 20000 a.stage) sent_first queued_behind (below 20000 5000010 refl) tt) (nobody _ no_connection.asks (λ j. refl)))
      (dgrams.IsAnswered 0 sent_first 0 4660 10 (cut_answer 18 52) refl refl refl (at_most 12 29 refl) cut_is.0) (datagram_foreign 0 (cut_answer 18 52) no_connection) (AsItIs (settled 0 cut (cut_settled cut.stage is_cut)));
  second = served.ByDgram (Puts (OpenDgram 100 0)) d2 _ (dgrams.Opens 1 queued_behind refl refl (below 99 100 refl)) (AsItIs (each_at (λ k (a : Tryer). StageSettled a.stage) 1 _ d1.held (λ x e. cc) (λ k a ne e. settled 0 cut (cut_settled cut.stage is_cut) k a e)));
  third = served.FallsBack 0 cut refl is_cut;
  outs = refl;
}
  where
    settled : (k : ℕ) (x : Tryer) → StageSettled x.stage → (j : ℕ) (a : Tryer) → with_at 0 (Some x) d0.held j ≡ Some a → StageSettled a.stage
    settled k x s = each_at (λ j (a : Tryer). StageSettled a.stage) 0 x d0.held s (λ j a ne e. both (λ a. StageSettled a.stage) sent_first queued_behind (λ x e. cc) (λ x e. cc) j a e)

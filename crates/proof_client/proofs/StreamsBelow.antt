-- Reconnection meets what a fallback asks of its streams.
use Rattle.std.proofs.Common.{◌≡◌, ℕ, inl, false, true, List, [], Some, None, refl, subst, ◌∙◌}
use Rattle.client_request.specs.declared.event.What.{What}
use Rattle.client_multi.specs.MultiStream.{started}
use Rattle.right_settings.specs.Given.{streams_of}
use Rattle.right_trace.specs.Messages.{Octets}
use Rattle.right_trace.specs.Orderly.{use_at}
use Rattle.right_trace.specs.Trace.{Conf, ByStreams}
use Rattle.proof_right.specs.machine.Served.{Served, has_taken_it}
use Rattle.proof_parts.specs.PartTie.{Phase, Untold, Told, Passed}
use Rattle.proof_parts.specs.Sights.{Sight, sight, NoneDue}
use Rattle.proof_dgram.specs.Fallback.{AreStreams, pending_in}
use Rattle.proof_multi.specs.Servers.{desk_of, nothing_under_way, IsServer}
use Rattle.proof_multi.specs.Tied.{Streams, by_streams, frames_at, TiedAs, names_of, owns}
use Rattle.proof_multi.proofs.Fields.{stream_of}
use Rattle.proof_multi.proofs.Staying.{passes_by}
use Rattle.proof_multi.proofs.StreamsShared.{streams_are_shared}
use Rattle.proof_multi.proofs.StreamsTied.{streams_are_tied}
use Rattle.proof_multi.proofs.Tying.{draws_one}

-- the event was the other half's
taken_beside : (c : Conf) (s : ℕ) (w : What) (u : Streams) (x : Sight) (a : Served) → NoneDue (owns u) x → TiedAs c s (Untold w) u x a → TiedAs c s (Told 0 0) u x (has_taken_it a.server a)
taken_beside c s w u x a early t = record {
  stream = record {
    server = t.stream.server;
    settings = t.stream.settings;
    takes = t.stream.takes;
    clock = t.stream.clock;
    dgram = t.stream.dgram;
    ties = subst (λ (fs : List Octets). IsServer c nothing_under_way (desk_of u.tables) a.server.by_stream (frames_at a.place fs) x.dues x.ticket) t.frames t.stream.ties;
    order = t.stream.order;
  };
  count = refl;
  at = inl refl;
  row = inl refl;
  told = (early, λ p e. absurd (let z : false ≡ true = e in cc));
}

-- the event that was not taken
is_pending : (c : Conf) (s : ℕ) (phase : Phase) (w : What) (u : Streams) (x : Sight) (a : Served) → pending_in phase ≡ Some w → TiedAs c s phase u x a → (a.pending ≡ w) × (a.taken ≡ false) × (a.frames ≡ [])
is_pending c s (Untold v) w u x a is t = (let same : v ≡ w = cc in (t.pending ∙ same, t.taken, t.frames))
is_pending c s (Told p left) w u x a is t = absurd (let z : None ≡ Some w = is in cc)
is_pending c s (Passed v) w u x a is t = (let same : v ≡ w = cc in (t.untold.pending ∙ same, t.untold.taken, t.untold.frames))

pub reconnection_is_streams : (b : Conf) (s several : ℕ) → use_at s b.servers ≡ Some ByStreams → AreStreams b s by_streams (started s (streams_of several b)) (TiedAs b s) names_of owns
reconnection_is_streams b s several used = record {
  used = used;
  tie = streams_are_tied b s several used;
  shared = streams_are_shared b s;
  alone = λ phase u x a t. (stream_of b s phase u x a t).dgram;
  clock = λ phase u x a t. (stream_of b s phase u x a t).clock;
  pending = λ phase w u x a is t. is_pending b s phase w u x a is t;
  opening = λ phase u x a p t e. (let st = stream_of b s phase u x a t in (st.order.opening p (st.ties.tables.opening ∙ e)).0);
  foreign = λ w u v a t f. passes_by b s u (sight v) a t.stream w v f;
  taken = λ w u x a early t f. taken_beside b s w u x a early t;
  drawn = λ u v a w r t fair octets free. draws_one b s used u v a w r t fair octets free;
}

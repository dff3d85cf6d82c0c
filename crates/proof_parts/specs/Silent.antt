-- The least transport, which gives every request an error at once, and the part that it is.
use Rattle.std.specs.Prelude.{◌≡◌, ℕ, false, [], ◌∷◌, Some, None, option_map, Err}
use Rattle.client_request.specs.Request.{Request}
use Rattle.client_request.specs.View.{Transport, answers, draws_ticket}
use Rattle.client_request.specs.declared.error.Error.TheVariants.{ConnectionClosed}
use Rattle.client_request.specs.declared.event.Out.TheVariants.{Start}
use Rattle.client_request.specs.declared.event.Via.TheVariants.{Dgram}
use Rattle.right_trace.specs.Trace.{Conf}
use Rattle.proof_right.specs.machine.Part.{Act, ServerPart}
use Rattle.proof_parts.specs.PartTie.{IsTie}
use Rattle.proof_parts.specs.Sharing.{OpensNext, IsShared}

abbrev pub silent : Transport Request (Unit {0}) ℕ
silent = record {
  send = λ request u v. option_map (λ w. (tt, answers v.ticket (Err ConnectionClosed) w)) (draws_ticket v);
  step = λ h u v. Some (u, v);
  cancel = λ r u v. Some (u, v);
  response = λ request u v. v.ticket;
}

-- it gives each request an error as it is handed in
abbrev pub closed_at_once : (s place k : ℕ) → Act (Unit {0})
closed_at_once s place k = record { state = tt; place = place; outs = Start k s Dgram ∷ []; posts = record { request = k; result = Err ConnectionClosed } ∷ [] }

abbrev pub silent_part : (c : Conf) → ServerPart c
silent_part c = record {
  State = Unit {0};
  fresh = tt;
  holds = λ u k. false;
  begin = λ e u. u;
  Acts = λ s place u d. ⊥;
  Starts = λ s place k r u d. d ≡ closed_at_once s place k;
  Cancels = λ s place k u d. ⊥;
  Rests = λ u. Unit {0};
}

-- The laws of a tie can be met: it is tied as it is.
abbrev pub SilenceIsTied : Type 0
SilenceIsTied = (c : Conf) (s : ℕ) → IsTie (silent_part c) s Dgram silent (λ t. t) tt (λ phase u x a. Unit {0}) (λ u t. None) (λ u i. ⊥)

-- The laws of sharing can be met: it has no place, opens none, and leaves alone what is not its own.
abbrev pub SilenceOpensNext : Type 0
SilenceOpensNext = (c : Conf) → OpensNext (silent_part c) (λ a p. false)

abbrev pub SilenceIsShared : Type 0
SilenceIsShared = (c : Conf) → IsShared (silent_part c) (λ a p. false) silent (λ phase u x a. Unit {0}) (λ u i. ⊥)

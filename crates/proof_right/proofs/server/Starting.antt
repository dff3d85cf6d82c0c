-- Before anything happened, all is tied.
use Rattle.right_trace.specs.Trace.{Conf}
use Rattle.std.proofs.Common.{ℕ, [], refl, arith}
use Rattle.client_request.specs.declared.event.What.TheVariants.{Tick}
use Rattle.proof_right.specs.machine.Streams.{no_connection}
use Rattle.proof_right.proofs.server.Kept.{Kept}

pub nothing_yet : (c : Conf) → (s : ℕ) → Kept c s [] Tick Tick (λ p. []) (λ p. []) no_connection []
nothing_yet c s = record {
  row = record { before = refl; event = refl; came = λ p. refl };
  asks = λ k a e. absurd (cc);
  conns = λ p x e. absurd (cc);
  owners = λ p x e. absurd (cc);
  opening = λ p e. absurd (cc);
  apart = λ p x e. absurd (cc);
  others = λ p e f g. refl;
  to_come = λ p le. record { was = refl; unheld = refl; stand = refl; nowhere = refl; blank = record { waiting = λ ms id. refl; wanted = refl; takes = refl; idle = refl; reading = refl; came = refl } };
  below = λ p e. absurd (cc);
  calm = λ lt. absurd (omega arith);
  late = λ p x e. absurd (cc);
}

-- A server that nothing was asked of.
use Rattle.std.proofs.Common.{refl, arith}
use Rattle.proof_dgram.specs.Slots.{FreshIsAlike}
use Rattle.right_trace.specs.Trace.{Conf}

pub fresh_is_alike : (c : Conf) → FreshIsAlike c
fresh_is_alike c x = record {
  alike = record {
    jobs = λ t j e. absurd (cc);
    held = λ k a e. absurd (cc);
    apart = λ t u j i e. absurd (cc);
    places = λ p t e. absurd (cc);
    none = λ p e. refl;
    timers = λ r t e. absurd (cc);
    queue = λ t i. absurd i;
    live = refl;
    used = refl;
    few = omega arith;
    full = λ t i. absurd i;
  };
  jobs = tt;
  places = tt;
  timers = tt;
  queue = tt;
}

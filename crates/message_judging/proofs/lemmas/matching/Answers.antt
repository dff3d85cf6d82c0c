-- Answers are what a base is compared with.
use Rattle.std.proofs.Common.{◌≡◌, ℕ, refl}
use Rattle.dns_base.specs.Answering.{is_answer}
use Rattle.client_request.specs.Request.{Request}
use Rattle.right_trace.specs.Messages.{Octets, answers}

pub answers_are : (r : Request) (id : ℕ) (o : Octets) → answers r id o ≡ is_answer id r.base o
unfolding answers
answers_are r id o = refl

use Rattle.client_loop.proofs.Turning.{same_error}
use Rattle.stub_resolver.proofs.all.got_by.Goals as goal

pub returns-in-Ok-gots_of-clause-get : goal.returns-in-Ok-gots_of-clause-get
returns-in-Ok-gots_of-clause-get g c = record { replies = c.in-Ok.replies.items; replied = c.in-Ok.ensures.replies; gots_are = c.in-Ok-gots_of.ensures }

pub returns-in-Err-clause-numbers : goal.returns-in-Err-clause-numbers
returns-in-Err-clause-numbers g c = λ is. c.in-Err.ensures.numbers (same_error _ _ is)

use Rattle.std.specs.Prelude.{Result, Ok, Err, IfOk}
use Rattle.trace_points.proofs.lemmas.causes.Blaming.{tells_failure}
use Rattle.trace_points.proofs.causes.failing.failure.Goals as goal

pub if_ok : {A E : Type 0} {P Q : A → Type 0} (r : Result A E) → ((a : A) → P a → Q a) → IfOk r P → IfOk r Q
if_ok (Ok a) f h = f a h
if_ok (Err x) f h = tt

pub returns-clause-told : goal.returns-clause-told
returns-clause-told c = let a = c.args in if_ok c.find_failure.result (λ o e. tells_failure a.conf.now a.past.now a.request a.what.now o e) c.find_failure.ensures

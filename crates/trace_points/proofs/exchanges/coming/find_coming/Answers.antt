use Rattle.std.specs.Prelude.{Result, Ok, Err, IfOk}
use Rattle.trace_points.proofs.lemmas.exchanges.Telling.{tells_coming}
use Rattle.trace_points.proofs.exchanges.coming.find_coming.Goals as goal

pub if_ok : {A E : Type 0} {P Q : A → Type 0} (r : Result A E) → ((a : A) → P a → Q a) → IfOk r P → IfOk r Q
if_ok (Ok a) f h = f a h
if_ok (Err x) f h = tt

pub returns : goal.returns
returns c =
    let a = c.args in
    if_ok c.all_coming.result (λ xs e. tells_coming a.conf.now a.wanted a.past.now a.sent.now a.here.now xs e) c.all_coming.ensures

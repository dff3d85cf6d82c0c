use Rattle.right_trace.proofs.Deriving.{views_compose, validity_composes}
use Rattle.right_trace.proofs.laws.views_compose.Goals as goal

pub returns : goal.returns
returns c = record { view = λ q m r age x a b. views_compose q m r age x a b; validity = λ s q m r x a b. validity_composes s q m r x a b }

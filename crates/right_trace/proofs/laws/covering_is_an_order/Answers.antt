use Rattle.right_trace.proofs.Asked.{covers_refl, covers_trans, apart_by_cd}
use Rattle.right_trace.proofs.laws.covering_is_an_order.Goals as goal

pub returns : goal.returns
returns c = record { itself = covers_refl; on = covers_trans; never_across_cd = apart_by_cd }

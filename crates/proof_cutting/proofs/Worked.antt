-- The octets of a worked trace come in pieces.
use Rattle.std.specs.Prelude.{[], ◌∷◌, take, drop}
use Rattle.proof_right.specs.examples.Messages.{frame, answer}
use Rattle.proof_cutting.specs.Told.{Here, Later}
use Rattle.proof_cutting.specs.Worked.{WorkedCut}

pub worked : WorkedCut
worked = record {
  is_cut = Later _ _ _ (Later _ _ _ (Later _ _ _ (Later _ _ _ (Later _ _ _ (Later _ _ _ (Here (record { 0 = 20004 }) 1 (take 5 (frame (answer 0 0 100))) ([] ∷ drop 5 (frame (answer 0 0 100)) ∷ []) []))))));
}

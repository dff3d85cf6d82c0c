use Rattle.trace_tables.proofs.lemmas.frames.Writing.{on_ok, written_there}
use Rattle.trace_tables.proofs.frames.waiting.write.Goals as goal

pub returns : goal.returns
returns c =
    on_ok c.put_place.result (λ h. written_there _ _ _ _ _ _ _ _ _ c.in_ok-add.ensures c.from.ensures c.take_place-at.ensures.taken c.take_place-at.ensures.left h) c.put_place.ensures

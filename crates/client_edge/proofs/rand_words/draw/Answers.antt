use Rattle.std.proofs.Common.{arith}
use Rattle.client_edge.proofs.Drawing.{first-word, other-words}
use Rattle.client_edge.proofs.rand_words.draw.Goals as goal

pub returns-clause-word : goal.returns-clause-word
returns-clause-word g c = first-word _ _ _ (omega arith) c.next_u64.ensures

pub returns-clause-rest : goal.returns-clause-rest
returns-clause-rest g c = other-words _ _ _ c.next_u64.ensures

use Rattle.front_edge.specs.Fronts.{IsListening}
use Rattle.front_edge.proofs.front.listen_all.Given as goal

abbrev pub invariant-loop-ip : goal.invariant-loop-ip
invariant-loop-ip g l = record {
  listens : IsListening l.ip-index l.fn.books l.books;
}

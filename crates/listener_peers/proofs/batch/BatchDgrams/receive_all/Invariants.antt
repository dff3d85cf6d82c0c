use Rattle.listener_peers.proofs.Batching.{ReceivesBehind}
use Rattle.listener_peers.proofs.batch.BatchDgrams.receive_all.Given as goal

abbrev pub invariant-loop : goal.invariant-loop
invariant-loop g l = ReceivesBehind l.fn.self l.self l.counter

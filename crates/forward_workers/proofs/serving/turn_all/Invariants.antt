use Rattle.std.proofs.Common.{◌+◌, length}
use Rattle.joint_history.specs.Words.{word_of}
use Rattle.front_shared.specs.History.{opening_of}
use Rattle.forward_workers.proofs.serving.turn_all.Given as goal

abbrev pub ghosts-share : goal.ghosts-share
ghosts-share g a = record { table = word_of a.opened.joint; opening = opening_of a.forwarder (g.W.Words.stream a.words) (length a.crew.workers.items + 1) }

use Rattle.joint_history.specs.Words.{word_of}
use Rattle.client_request.specs.Words.{listed}
use Rattle.client_shared.specs.History.{opening_of}
use Rattle.test_threads.proofs.clients.tests.plays.Given as goal

abbrev pub ghosts-played : goal.ghosts-played
ghosts-played g a = record { table = word_of a.opened.joint; opening = opening_of a.redundant a.cache a.conf.now (listed a.words.items) 2 }

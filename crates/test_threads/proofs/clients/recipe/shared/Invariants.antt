use Rattle.joint_history.specs.Words.{word_of}
use Rattle.client_request.specs.Words.{listed}
use Rattle.client_shared.specs.History.{opening_of}
use Rattle.test_threads.proofs.clients.recipe.shared.Given as goal

abbrev pub ghosts-shared_by_two : goal.ghosts-shared_by_two
ghosts-shared_by_two g a = record { table = word_of a.opened.joint; opening = opening_of a.redundant a.cache a.conf.now (listed a.words.items) 2 }

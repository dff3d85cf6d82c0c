use Rattle.forward_workers.proofs.working.work_once.Goals as goal

pub returns-clause-goes_on : goal.returns-clause-goes_on
returns-clause-goes_on g c = λ going. rw c.flush.ensures.deeds ((rw c.in_ok-wait.ensures.deeds at c.in_ok-turns.ensures.goes_on) going)

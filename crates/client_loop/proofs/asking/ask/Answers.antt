use Rattle.client_loop.proofs.asking.ask.Goals as goal

pub returns-clause-answered : goal.returns-clause-answered
returns-clause-answered g c = c.ask_within.ensures.answered

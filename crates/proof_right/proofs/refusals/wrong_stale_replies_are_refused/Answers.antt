-- Each trace lacks what it owes at one point.
use Rattle.proof_right.proofs.wrong.Stale as wrong
use Rattle.proof_right.proofs.refusals.wrong_stale_replies_are_refused.Goals as goal

pub returns : goal.returns
returns c = record { at_once = wrong.at_once; without_mark = wrong.without_mark; alone = wrong.alone; never = wrong.never; never_failing = wrong.never_failing; never_unread = wrong.never_unread; for_none = wrong.for_none; for_absent = wrong.for_absent; before_all = wrong.before_all }

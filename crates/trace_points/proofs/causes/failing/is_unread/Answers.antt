use Rattle.trace_points.proofs.lemmas.causes.Blaming.{tells_unread}
use Rattle.trace_points.proofs.causes.failing.is_unread.Goals as goal

pub returns : goal.returns
returns c = let a = c.args in tells_unread a.request a.books.now c.find_unread.result c.find_unread.ensures

use Rattle.std.proofs.Common.{◌≡◌, length}
use Rattle.client_loop.specs.Replies.{reply_in}
use Rattle.dns_record.proofs.asking.reply_in.Given as goal

abbrev pub invariant-loop-out : goal.invariant-loop-out
invariant-loop-out l = reply_in l.fn.number l.left.items ≡ reply_in l.fn.number l.fn.row.outs

abbrev pub decreases-loop-out : goal.decreases-loop-out
decreases-loop-out l = length l.left.items

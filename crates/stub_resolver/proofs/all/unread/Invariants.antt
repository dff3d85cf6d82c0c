use Rattle.std.proofs.Common.{◌≡◌, ◌++◌, drop}
use Rattle.stub_resolver.specs.All.{unread}
use Rattle.stub_resolver.proofs.all.unread.Given as goal

-- Those of the requests that are left are still to come.
abbrev pub invariant-loop-reply : goal.invariant-loop-reply
invariant-loop-reply l = unread l.fn.requests.items l.replies ≡ l.all.items ++ unread l.left.items (drop l.reply-index l.replies)

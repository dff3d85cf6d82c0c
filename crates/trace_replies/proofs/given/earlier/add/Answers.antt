use Rattle.std.proofs.Common.{ap, ◌∙◌, cond}
use Rattle.std.specs.{Prelude.Some, Map.lookup}
use Rattle.cache_rules.specs.Key.{same_key}
use Rattle.trace_replies.proofs.lemmas.given.Keeping.{put_back}
use Rattle.trace_replies.proofs.given.earlier.add.Goals as goal

pub returns-in-Ok : goal.returns-in-Ok
returns-in-Ok c =
    let a = c.args in
    put_back a.key a.reply a.table.now.entries c.take-replies.new.table.entries c.insert.new.self.entries c.take-replies.result c.take-replies.ensures.taken c.take-replies.ensures.others
    (λ q. c.in-Ok.ensures.updates.0 q ∙ ap (λ es. cond (same_key a.key q) (Some es) (lookup (same_key q) c.take-replies.new.table.entries)) c.in_ok-push.ensures.ok)

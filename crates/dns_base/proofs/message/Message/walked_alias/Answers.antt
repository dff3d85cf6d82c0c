use Rattle.std.proofs.Common.{◌∙◌, sym, ap}
use Rattle.std.specs.Prelude.{option_map}
use Rattle.dns_base.specs.Canonical.{alias_in}
use Rattle.dns_base.proofs.Aliases.{answers_read, answers_unread}
use Rattle.dns_base.proofs.message.Message.walked_alias.Goals as goal

pub returns-in-Ok : goal.returns-in-Ok
returns-in-Ok c = c.first_alias.ensures ∙ ap (option_map (alias_in c.args.owner.now)) (answers_read _ _ c.in-Ok.ensures.all)

pub returns-in-Err : goal.returns-in-Err
returns-in-Err c = sym (ap (option_map (alias_in c.args.owner.now)) (answers_unread _ c.in-Err.ensures.all))

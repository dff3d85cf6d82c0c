use Rattle.std.proofs.Common.{ap, ◌∙◌}
use Rattle.cache_rules.specs.Validity.{or_unread}
use Rattle.cache_rules.proofs.WhatIsMet.{met_is}
use Rattle.cache_rules.proofs.keeping.validity_of.Goals as goal

pub returns : goal.returns
returns c = c.message_validity.ensures.met ∙ ap or_unread (met_is c.args.config.now c.args.message.now c.message_validity.ensures.long)

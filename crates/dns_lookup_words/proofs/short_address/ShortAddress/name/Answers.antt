use Rattle.std.proofs.Common.{◌∙◌, ap, drop}
use Rattle.dns_lookup_words.proofs.ShortAddresses.{drop_more}
use Rattle.dns_lookup_words.proofs.short_address.ShortAddress.name.Goals as goal

pub loop-preserved : goal.loop-preserved
loop-preserved c = c.in_ok-name-2.ensures ∙ ap (drop 1) c.loop.invariant ∙ drop_more c.loop.counter _

use Rattle.std.proofs.Common.{◌∙◌, sym, ap}
use Rattle.cache_rules.specs.Key.{flag_class}
use Rattle.client_cache.specs.Keeping.{first_above_ad, first_from_ad}
use Rattle.client_cache.proofs.LookUps.{above_ad, above_plain}
use Rattle.client_cache.proofs.finding.first_above.Goals as goal

pub returns-in-Ad-clause-kept : goal.returns-in-Ad-clause-kept
returns-in-Ad-clause-kept c =
    c.first_above_ad.ensures.kept ∙ ap (first_above_ad c.args.table.now c.args.key.now) c.rd-rd.ensures
    ∙ sym (above_ad c.args.table.now c.args.key.now c.requires (sym (ap flag_class c.in-Ad.is) ∙ c.addo.ensures))

pub returns-in-None-clause-kept : goal.returns-in-None-clause-kept
returns-in-None-clause-kept c =
    c.first_from_ad.ensures.kept ∙ ap (first_from_ad c.args.table.now c.args.key.now) c.rd-rd.ensures
    ∙ sym (above_plain c.args.table.now c.args.key.now c.requires (sym (ap flag_class c.in-None.is) ∙ c.addo.ensures))

use Rattle.std.proofs.Common.{◌∙◌, sym, ap}
use Rattle.client_cache.specs.Keeping.{Asked, is_own}
use Rattle.client_cache.proofs.LookUps.{none_taken}
use Rattle.client_cache.proofs.finding.answer_from.Goals as goal

pub returns-then-is_own : goal.returns-then-is_own
returns-then-is_own c =
    none_taken c.args.config.now c.args.asked.now c.args.now c.args.table.now c.args.flags c.requires (sym (ap (λ (a : Asked). is_own c.args.flags a.key) c.asked.view_is) ∙ sym c.is_own.ensures ∙ c.if-is_own.true)

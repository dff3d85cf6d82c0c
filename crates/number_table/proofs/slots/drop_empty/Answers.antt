use Rattle.std.proofs.Common.{◌∙◌, ap, sym, subst, rules}
use Rattle.std.proofs.lemmas.Fn.{filter_same}
use Rattle.number_table.specs.Slots.{entries_in, Rising}
use Rattle.number_table.proofs.SlotTable.{is_full, full_entries, rising_full}
use Rattle.number_table.proofs.slots.drop_empty.Goals as goal

pub returns-clause-entries : goal.returns-clause-entries
returns-clause-entries g c =
    ap entries_in (filter_same _ is_full _ (λ x b f' k. search rules) _ _ c.retain.ensures.filtered) ∙ full_entries c.args.slots.now.items

pub returns-clause-rising : goal.returns-clause-rising
returns-clause-rising g c = λ rising.
    subst (Rising 0) (sym (filter_same _ is_full _ (λ x b f' k. search rules) _ _ c.retain.ensures.filtered)) (rising_full 0 c.args.slots.now.items rising)

use Rattle.std.proofs.Common.{rules, sym}
use Rattle.std.proofs.lemmas.List.Sorted.{answers_always}
use Rattle.number_table.proofs.SlotTable.{searched, gap_at_end}
use Rattle.number_table.proofs.slots.find.Goals as goal

pub returns-else-is_key_at-2-clause-found : goal.returns-else-is_key_at-2-clause-found
returns-else-is_key_at-2-clause-found g c =
    let facts = c.binary_search_by_key.ensures in
    let by_key = facts.position (λ slot. slot.key) (answers_always _ _ _ (λ f a r k called. search rules)) in
    (searched c.args.key c.args.slots.now c.requires _ facts.bound by_key).found

pub returns-else-is_key_at-2-clause-gap : goal.returns-else-is_key_at-2-clause-gap
returns-else-is_key_at-2-clause-gap g c =
    let facts = c.binary_search_by_key.ensures in
    let by_key = facts.position (λ slot. slot.key) (answers_always _ _ _ (λ f a r k called. search rules)) in
    (searched c.args.key c.args.slots.now c.requires _ facts.bound by_key).gap

pub returns-in_default-clause-gap : goal.returns-in_default-clause-gap
returns-in_default-clause-gap g c = gap_at_end c.args.key c.args.slots.now c.in-Some.last.now c.requires (sym c.in-Some.ensures.value) c.if-key-last.false

use Rattle.std.proofs.Common.{ap, ap₂, ◌∙◌}
use Rattle.number_table.specs.Entries.{puts, frees}
use Rattle.trace_tables.specs.sets.Sets.{Members, Sets}
use Rattle.trace_tables.proofs.lemmas.sets.Keeping.{on_ok}
use Rattle.trace_tables.proofs.sets.sets.leave.Goals as goal

pub returns : goal.returns
returns c =
    let t = c.take_set-members.ensures in
    on_ok c.put_set.result (λ e. e ∙ ap₂ (λ (m : Members) (s : Sets). puts c.args.key m s) (c.take_out.ensures ∙ ap (frees c.args.number) t.taken) t.left) c.put_set.ensures

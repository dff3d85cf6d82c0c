use Rattle.dns_base.proofs.AliasTables.{put}
use Rattle.dns_base.proofs.alias_table.insert_at.Goals as goal

pub returns-clause-put : goal.returns-clause-put
returns-clause-put c =
    let copied = c.copy_within.ensures in
    put c.args.places.now c.copy_within.new.self c.args.at c.args.count c.args.place c.requires.room c.requires.order copied.len copied.by_index.0 copied.by_index.1
